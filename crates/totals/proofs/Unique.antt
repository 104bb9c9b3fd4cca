-- The contract of each call, as the root file has it, asks nothing and settles the answer, and whatever it allows after a history is what the history's
-- tapes add up to. A clause taken away or weakened is refused here. Assumes nothing.
use mathlib.Core.Path.{◌≡◌, sym, ◌∙◌, ap}
use mathlib.Core.List.{List, ◌∷◌}
use Rattle.std.specs.Prelude.{Result, Ok, Err, IfOk}
use lib.IntN.{◌+ℤ◌}
use Rattle.paper.specs.Widths.{format_of}
use Rattle.paper.specs.Calls.{Reply}
use Rattle.paper.specs.declared.refusal.Refusal.{Refusal}
use Rattle.paper.proofs.Refusals.{numbered, same_refusal, same_answer}
use Rattle.settling.proofs.Settles.{Settled, Promises}
use Rattle.totals.specs.Tape.{Tape, Sums, no_sums, sum_of_type}
use Rattle.totals.specs.Total.{Total}
use Rattle.totals.specs.History.{after_all}
use Rattle.totals.specs.Told.{tape, sums_told, summed, taken}
use Rattle.totals.specs.declared.TapeSums.{TapeSums}
use Rattle.totals.specs.declared.NotTaken.{NotTaken}
use Rattle.totals.proofs.sum_tape.Reads as sum-tape
use Rattle.totals.proofs.take_in.Reads as take_in

-- an answer is what it says
sums_same : (r s : Result TapeSums Refusal) → summed r ≡ summed s → r ≡ s
sums_same r s e = same_answer no_sums sums_told (λ a b. ap {B = TapeSums} (λ (x : Sums). record { shown = x.shown; unshown = x.unshown })) r s e

taken-same : (r s : Result Total NotTaken) → taken r ≡ taken s → r ≡ s
taken-same (Ok x) (Ok y) e = ap Ok (ap (λ (z : Reply Total). z.rest) e)
taken-same (Ok x) (Err n) e = absurd (numbered n.refusal (sym (ap (λ (z : Reply Total). z.number) e)))
taken-same (Err n) (Ok y) e = absurd (numbered n.refusal (ap (λ (z : Reply Total). z.number) e))
taken-same (Err n) (Err m) e = ap Err (λ i. record {
  refusal = same_refusal n.refusal m.refusal (ap (λ (z : Reply Total). z.number) e) (ap (λ (z : Reply Total). z.place) e) i;
  total = (e i).rest;
})

pub sum_tape_settled : Settled sum-tape.Asked sum-tape.Learnt (λ κs r e. r)
sum_tape_settled = ((λ κs a. tt), λ κs a r s e f x y. sums_same r s (x.0 ∙ sym y.0))

pub take_in_settled : Settled take_in.Asked take_in.Learnt (λ κs r e. r)
take_in_settled = ((λ κs a. tt), λ κs a r s e f x y. taken-same r s (x ∙ sym y))

-- Both sums that a caller is told, together, are the sum over all rows of the type.
pub sum_tape_together : Promises sum-tape.Learnt (λ κs a r e.
    IfOk r (λ s. s.shown +ℤ s.unshown ≡ sum_of_type (tape (format_of a.0) a.1.0.now a.1.1.0.now a.1.1.1.0)))
sum_tape_together κs a r e x = x.1

-- A history goes on from the answer's total, which is the one handed in where the tape is refused, as it does from the total handed in with this tape
-- before the others.
pub take_in_next : Promises take_in.Learnt (λ κs a r e.
    (ts : List Tape)
    → after_all (taken r).rest ts ≡ after_all a.0 (tape (format_of a.1.0) a.1.1.0.now a.1.1.1.0.now a.1.1.1.1.0 ∷ ts))
take_in_next κs a r e x ts = ap (λ (y : Reply Total). after_all y.rest ts) x
