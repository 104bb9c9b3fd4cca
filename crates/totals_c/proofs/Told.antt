-- Laws of the structs for C: each is what it tells. Assumes nothing.
use mathlib.Core.Path.{◌≡◌, ap}
use Rattle.paper.specs.Calls.{Reply}
use Rattle.totals.specs.Tape.{Sums}
use Rattle.totals.specs.Total.{Total}
use Rattle.totals_c.specs.Told.{told_sums, told_taken}
use Rattle.totals_c.specs.declared.answers.TapeSumsNumbers.{TapeSumsNumbers}
use Rattle.totals_c.specs.declared.answers.TakenIn.{TakenIn}

-- two answers that are one reply are one
pub sums_same : (r s : TapeSumsNumbers) → told_sums r ≡ told_sums s → r ≡ s
sums_same r s = ap {B = TapeSumsNumbers} (λ (x : Reply Sums). record {
  number = x.number;
  place = x.place;
  shown = x.rest.shown;
  unshown = x.rest.unshown;
})

pub taken_same : (r s : TakenIn) → told_taken r ≡ told_taken s → r ≡ s
taken_same r s = ap {B = TakenIn} (λ (x : Reply Total). record { number = x.number; place = x.place; total = x.rest })
