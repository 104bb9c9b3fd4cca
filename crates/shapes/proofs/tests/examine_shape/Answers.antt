-- `tests::examine_shape`: each test decides one refusal. Assumes nothing.
use Prim.Native.Nat.{◌*◌, ◌/◌, ◌%◌, ◌≤◌}
use native.Mathlib.Omega.{arith}
use mathlib.Core.Path.{◌≡◌, sym, subst}
use lib.ListN.{length}
use Rattle.std.proofs.lemmas.Bool.{eqb-true, eqb-false}
use Rattle.paper.specs.Format.{most_entries, entry_bytes}
use Rattle.shapes.specs.Tests.{shape_reply}
use Rattle.shapes.proofs.Examined.{refused_empty, refused_long, refused_ragged, refused_6, accepted}
use Rattle.shapes.proofs.tests.examine_shape.Goals as goal
use Rattle.shapes.proofs.tests.examine_shape.Goals.{After-bad_entry}
use Rattle.shapes.proofs.tests.examine_shape.Goals.{then-is_empty-via-then-is_empty, then-is_empty-via-else-is_empty+then-w-shape, then-is_empty-via-else-is_empty+else-w-shape+then-shape-w-ne0}

-- the shape is not empty, not too long, and has whole entries
some_bytes : (c : After-bad_entry) → length c.args.shape.now ≡ 0 → ⊥
some_bytes c = eqb-false (length c.args.shape.now) 0 (sym c.if-is_empty.ensures)

short : (c : After-bad_entry) → length c.args.shape.now ≤ most_entries * entry_bytes c.args.f
short c = omega (arith, c.entry_bytes-w.ensures, c.if-w-shape.false)

whole_entries : (c : After-bad_entry) → length c.args.shape.now % entry_bytes c.args.f ≡ 0
whole_entries c = subst (λ w. length c.args.shape.now % w ≡ 0) c.entry_bytes-w.ensures c.if-shape-w-ne0.false

pub returns-then-is_empty : goal.returns-then-is_empty
returns-then-is_empty c =
    let f = c.args.f in
    let s = c.args.shape.now in
    elim c.then-is_empty.branch [
      | then-is_empty-via-then-is_empty w ↦ refused_empty f s (eqb-true (length s) 0 (sym w.if-is_empty.ensures))
      | then-is_empty-via-else-is_empty+then-w-shape w ↦ refused_long f s (omega (arith, c.entry_bytes-w.ensures, w.if-w-shape.true))
      | then-is_empty-via-else-is_empty+else-w-shape+then-shape-w-ne0 w ↦
          refused_ragged f s (subst (λ n. length s % n ≡ 0 → ⊥) c.entry_bytes-w.ensures w.if-shape-w-ne0.true)
    ]

pub returns-in-Some : goal.returns-in-Some
returns-in-Some c =
    let at = (goal.at.returns-in-Some c).After-bad_entry in
    refused_6 c.args.f c.args.shape.now (some_bytes at) (short at) (whole_entries at) c.in-Some.bad (sym c.in-Some.ensures.0)

pub returns-in-None : goal.returns-in-None
returns-in-None c =
    let s = c.args.shape.now in
    let at = (goal.at.returns-in-None c).After-bad_entry in
    subst (λ n. record { number = 0; place = 0; rest = length s / n } ≡ shape_reply c.args.f s) (sym c.entry_bytes-w.ensures)
    (accepted c.args.f s (some_bytes at) (short at) (whole_entries at) (sym c.in-None.ensures.0))
