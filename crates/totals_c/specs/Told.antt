-- What the structs for C tell, in the words of the definitions. Assumes nothing.
use Rattle.paper.specs.Calls.{Reply}
use Rattle.totals.specs.Tape.{Sums}
use Rattle.totals.specs.Total.{Total}
use Rattle.totals_c.specs.declared.answers.TapeSumsNumbers.{TapeSumsNumbers}
use Rattle.totals_c.specs.declared.answers.TakenIn.{TakenIn}

-- number, place, both sums
abbrev pub told_sums : TapeSumsNumbers → Reply Sums
told_sums r = record { number = r.number; place = r.place; rest = record { shown = r.shown; unshown = r.unshown } }

-- number, place, the total
abbrev pub told_taken : TakenIn → Reply Total
told_taken r = record { number = r.number; place = r.place; rest = r.total }
