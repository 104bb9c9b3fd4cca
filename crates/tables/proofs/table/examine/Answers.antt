-- `table::examine`: each test decides one refusal. Assumes nothing.
use Prim.Native.Nat.{◌*◌, ◌/◌, ◌%◌, ◌≤◌}
use native.Mathlib.Omega.{arith}
use mathlib.Core.Path.{◌≡◌, sym, subst}
use lib.ListN.{length}
use Rattle.paper.specs.Format.{row_bytes}
use Rattle.paper.specs.Calls as Calls
use Rattle.tables.proofs.Examine.{refused_1, refused_2, refused_3, accepted, examine-refused, examine-accepted}
use Rattle.tables.proofs.table.examine.Goals as goal
use Rattle.tables.proofs.table.examine.Goals.{Else-w-table, Else-table-w-ne0}

-- the table is not too long
short : (c : Else-w-table) → length c.args.table.now ≤ 1024 * row_bytes c.args.f
short c = omega (arith, c.row_bytes-w.ensures, c.if-w-table.false)

-- and has whole rows
whole_rows : (c : Else-table-w-ne0) → length c.args.table.now % row_bytes c.args.f ≡ 0
whole_rows c = subst (λ w. length c.args.table.now % w ≡ 0) c.row_bytes-w.ensures c.if-table-w-ne0.false

pub returns-then-w-table : goal.returns-then-w-table
returns-then-w-table c =
    let f = c.args.f in
    let t = c.args.table.now in
    examine-refused f t 1 0 (refused_1 f t (omega (arith, c.row_bytes-w.ensures, c.if-w-table.true)))

pub returns-then-table-w-ne0 : goal.returns-then-table-w-ne0
returns-then-table-w-ne0 c =
    let f = c.args.f in
    let t = c.args.table.now in
    examine-refused f t 2 0
    (refused_2 f t (short (goal.at.returns-then-table-w-ne0 c).Else-w-table) (subst (λ w. length t % w ≡ 0 → ⊥) c.row_bytes-w.ensures c.if-table-w-ne0.true))

pub returns-in-Some : goal.returns-in-Some
returns-in-Some c =
    let f = c.args.f in
    let t = c.args.table.now in
    let at = goal.at.returns-in-Some c in
    examine-refused f t 3 c.in-Some.bad (refused_3 f t (short at.Else-w-table) (whole_rows at.Else-table-w-ne0) c.in-Some.bad (sym c.in-Some.ensures.0))

pub returns-in-None : goal.returns-in-None
returns-in-None c =
    let f = c.args.f in
    let t = c.args.table.now in
    let at = goal.at.returns-in-None c in
    subst (λ n. record { number = 0; place = 0; rest = length t / n } ≡ Calls.examine f t) (sym c.row_bytes-w.ensures)
    (examine-accepted f t (accepted f t (short at.Else-w-table) (whole_rows at.Else-table-w-ne0) (sym c.in-None.ensures.0)))
