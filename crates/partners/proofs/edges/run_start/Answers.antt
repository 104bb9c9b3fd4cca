-- `partners::edges::run_start`: a row that begins no run is passed. Assumes nothing.
use Rattle.std.proofs.Common.{◌≡◌, ℕ, zero, suc, ◌-◌, ◌<◌, false, List, sym, ◌∙◌, ap, arith}
use native.Mathlib.Nat.{not-suc-le-zero}
use Rattle.closest.specs.Runs.{begins, start_of}
use Rattle.closest.proofs.Starts.{start_first, start_begins, start_on}
use Rattle.partners.proofs.Rows.{begins-within, on_above}
use Rattle.partners.proofs.edges.run_start.Goals as goal

-- a row that begins no run is of the run of the row before it
start_back : (levels : List ℕ) (l i : ℕ) → 0 < i → begins levels l i ≡ false → start_of levels l (i - 1) ≡ start_of levels l i
start_back levels l zero pos on = absurd (not-suc-le-zero pos)
start_back levels l (suc i) pos on = let back : suc i - 1 ≡ i = omega arith in ap (start_of levels l) back ∙ sym (start_on levels l i on)

pub returns-then-levels-i : goal.returns-then-levels-i
returns-then-levels-i c =
    let a = c.args in
    let i = c.loop-i.i - 1 in
    sym (start_begins a.levels.now a.l i
    (begins-within a.levels.now a.l c.run_bound-bound.result i c.run_bound-bound.ensures (c.type_inv.levels i).fits c.if-levels-i.true)) ∙ c.loop-i.invariant.1

pub loop-i-preserved : goal.loop-i-preserved
loop-i-preserved c =
    let a = c.args in
    let i = c.loop-i.i - 1 in
    let past : 0 < i = omega arith in (
      omega (arith, past),
      start_back a.levels.now a.l i past
          (on_above a.levels.now a.l c.run_bound-bound.result i c.run_bound-bound.ensures (c.type_inv.levels i).fits c.if-levels-i.false) ∙ c.loop-i.invariant.1,
    )

pub returns : goal.returns
returns c =
    let a = c.args in
    let first : c.loop-i.i - 1 ≡ 0 = omega arith in
    sym (start_first a.levels.now a.l) ∙ ap (start_of a.levels.now a.l) (sym first) ∙ c.loop-i.invariant.1
