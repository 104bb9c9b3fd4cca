-- The contract of each exported call, as this crate's source has it, says what that of Rattle's call says, at the width that the number names: of the numbers
-- that tell an answer it says what Rattle's says of that answer (`Says-told`). It asks nothing, settles the answer, and has each property that is proved of
-- Rattle's. A clause taken away or weakened is refused here. Assumes nothing.
use Prim.Native.Nat.{ℕ}
use mathlib.Core.Path.{◌≡◌, refl, sym, ◌∙◌, ap, ap₂}
use mathlib.Core.List.{List, ◌∷◌}
use lib.IntN.{◌+ℤ◌}
use Rattle.paper.specs.Calls.{Reply}
use Rattle.std.specs.Prelude.{Result, Ok, Err, IfOk}
use Rattle.paper.specs.declared.Width.{Width}
use Rattle.paper.specs.declared.refusal.Refusal.{Refusal}
use Rattle.settling.proofs.Settles.{Settled, Promises, Says-told}
use Rattle.totals.specs.Tape.{Tape, Sums, sum_of_type}
use Rattle.totals.specs.Total.{Total}
use Rattle.totals.specs.History.{after_all}
use Rattle.totals.specs.Told.{tape, summed, taken}
use Rattle.totals.specs.declared.TapeSums.{TapeSums}
use Rattle.totals.proofs.sum_tape.Reads as sum-tape'
use Rattle.totals.proofs.take_in.Reads as take_in'
use Rattle.totals_c.specs.Numbered.{width_of, format_numbered}
use Rattle.totals_c.specs.Told.{told_sums, told_taken}
use Rattle.totals_c.proofs.Told.{sums_same, taken_same}
use Rattle.totals_c.proofs.totals_sum_tape.Reads as sum-tape
use Rattle.totals_c.proofs.totals_take_in.Reads as take_in

-- the arguments of a call, or what it has of them at exit, as Rattle's call has them: a caller in C names the width by a number
abbrev wide : {X : Type 0} → ℕ × X → Width × X
wide a = (width_of a.0, a.1)

-- the same behind a total
abbrev wide_behind : {X : Type 0} → Total × (ℕ × X) → Total × (Width × X)
wide_behind a = (a.0, wide a.1)

pub sum_tape_says : Says-told wide wide told_sums summed sum-tape.Learnt sum-tape'.Learnt
sum_tape_says κs a r j e u x = (sym u ∙ x.0, together j u)
  where
    together : (j : Result TapeSums Refusal) → told_sums r ≡ summed j
        → IfOk j (λ s. s.shown +ℤ s.unshown ≡ sum_of_type (tape (format_numbered a.0) a.1.0.now a.1.1.0.now a.1.1.1.0))
    together (Ok s) u = ap (λ (y : Reply Sums). y.rest.shown +ℤ y.rest.unshown) (sym u) ∙ x.1 (ap (λ (y : Reply Sums). y.number) u)
    together (Err d) u = tt

pub take_in_says : Says-told wide_behind wide_behind told_taken taken take_in.Learnt take_in'.Learnt
take_in_says κs a r j e u x = sym u ∙ x

pub sum_tape_settled : Settled sum-tape.Asked sum-tape.Learnt (λ κs r e. r)
sum_tape_settled = ((λ κs a. tt), λ κs a r s e f x y. sums_same r s (x.0 ∙ sym y.0))

pub take_in_settled : Settled take_in.Asked take_in.Learnt (λ κs r e. r)
take_in_settled = ((λ κs a. tt), λ κs a r s e f x y. taken_same r s (x ∙ sym y))

-- Both sums that a caller is told, together, are the sum over all rows of the type.
pub sum_tape_together : Promises sum-tape.Learnt (λ κs a r e.
    r.number ≡ 0 → r.shown +ℤ r.unshown ≡ sum_of_type (tape (format_numbered a.0) a.1.0.now a.1.1.0.now a.1.1.1.0))
sum_tape_together κs a r e x = x.1

-- A history goes on from the answer's total as it does from the total handed in, with this tape before the others.
pub take_in_next : Promises take_in.Learnt (λ κs a r e.
    (ts : List Tape)
    → after_all r.total ts ≡ after_all a.0 (tape (format_numbered a.1.0) a.1.1.0.now a.1.1.1.0.now a.1.1.1.1.0 ∷ ts))
take_in_next κs a r e x ts = ap (λ (y : Reply Total). after_all y.rest ts) x
