-- What both calls answer, in the words of the definitions: what the public contracts name. Assumes nothing.
use Rattle.std.specs.Prelude.{ℕ, List, Result, Ok, Err}
use Rattle.paper.specs.Format.{Format}
use Rattle.paper.specs.Calls.{Reply}
use Rattle.paper.specs.Refusals.{refusal_number, refusal_place, reply_of}
use Rattle.paper.specs.declared.refusal.Refusal.{Refusal}
use Rattle.totals.specs.Tape.{Tape, Sums, no_sums}
use Rattle.totals.specs.Total.{Total}
use Rattle.totals.specs.declared.TapeSums.{TapeSums}
use Rattle.totals.specs.declared.NotTaken.{NotTaken}

abbrev pub tape : Format → List ℕ → List ℕ → ℕ → Tape
tape f table shape entry = record { format = f; table = table; shape = shape; entry = entry }

-- both sums
abbrev pub sums_told : TapeSums → Sums
sums_told r = record { shown = r.shown; unshown = r.unshown }

-- number, place, both sums
abbrev pub summed : Result TapeSums Refusal → Reply Sums
summed r = reply_of no_sums sums_told r

-- number, place, the total that the answer has
abbrev pub taken : Result Total NotTaken → Reply Total
taken (Ok x) = record { number = 0; place = 0; rest = x }
taken (Err n) = record { number = refusal_number n.refusal; place = refusal_place n.refusal; rest = n.total }
