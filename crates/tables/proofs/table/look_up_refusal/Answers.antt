-- `table::look_up_refusal`: each test decides one refusal. Assumes nothing.
use native.Mathlib.Omega.{arith}
use mathlib.Core.Path.{sym, ap}
use mathlib.Core.List.{List}
use Prim.Native.Nat.{ℕ}
use Rattle.std.proofs.lemmas.Result.{err_from_is_err_and}
use Rattle.paper.specs.Refusals.{refusal_number, refusal_place}
use Rattle.paper.specs.Calls.{Reply}
use Rattle.tables.proofs.Examine.{tests_refuse, tests_give, look_up-refused, look_up_past, look_up-row}
use Rattle.tables.proofs.table.look_up_refusal.Goals as goal

pub returns-in_err-rows : goal.returns-in_err-rows
returns-in_err-rows c =
    let p = err_from_is_err_and c.from_residual.result c.from_residual.ensures.1 in
    let e = c.in_err-rows.field-0.0 in
    let q = look_up-refused c.args.f c.args.table.now c.args.i (refusal_number e) (refusal_place e) (tests_refuse c.args.f c.args.table.now e c.in_err-rows.ensures) in
    rw (p.1, p.2) (sym (ap (λ (r : Reply (List ℕ)). r.number) q), sym (ap (λ (r : Reply (List ℕ)). r.place) q))

pub returns-then-rows-i : goal.returns-then-rows-i
returns-then-rows-i c =
    let g = tests_give c.args.f c.args.table.now c.in_ok-rows.rows c.in_ok-rows.ensures in
    let q = look_up_past c.args.f c.args.table.now c.args.i g.0 (omega (arith, g.1)) in
    (sym (ap (λ (r : Reply (List ℕ)). r.number) q), sym (ap (λ (r : Reply (List ℕ)). r.place) q))

pub returns : goal.returns
returns c =
    let g = tests_give c.args.f c.args.table.now c.in_ok-rows.rows c.in_ok-rows.ensures in
    let q = look_up-row c.args.f c.args.table.now c.args.i g.0 (omega (arith, g.1)) in
    (sym (ap (λ (r : Reply (List ℕ)). r.number) q), sym (ap (λ (r : Reply (List ℕ)). r.place) q))
