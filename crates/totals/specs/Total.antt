-- A running total over a history of tapes. Assumes nothing.
use Rattle.std.specs.Prelude.{ℕ, suc, ◌*◌, Bool, not, ◌||◌, leb, pos, ◌+ℤ◌}
use Rattle.paper.specs.Format.{most_rows}
use Rattle.paper.specs.Calls.{Answer, given, ◌>>=◌, refuse, Reply, reply}
use Rattle.totals.specs.Sums.{within}
use Rattle.totals.specs.Tape.{Tape, most_value, Sums, sums_of}
use Rattle.totals.specs.declared.Total as Declared

-- both sums over the tapes taken in, and how many these are: the very struct that the calls take and give
abbrev pub Total : Type 0
Total = Declared.Total

-- before the first tape
abbrev pub nothing : Total
nothing = record { shown = pos 0; unshown = pos 0; tapes = 0 }

-- 1,000 tapes at most
abbrev pub most_tapes : ℕ
most_tapes = 1000

-- what the values of one tape can add up to: 1.024 × 10^15
abbrev pub most_sum : ℕ
most_sum = most_rows * most_value

-- A total that has 1,000 tapes or more, or a sum beyond ±1.024 × 10^15 a tape.
unfoldable pub cannot_be : Total → Bool
cannot_be x = leb most_tapes x.tapes || not (within (x.tapes * most_sum) x.shown) || not (within (x.tapes * most_sum) x.unshown)

-- the total with one tape more
abbrev pub with : Total → Sums → Total
with x s = record { shown = x.shown +ℤ s.shown; unshown = x.unshown +ℤ s.unshown; tapes = suc x.tapes }

-- The refusals of the tape; then 18, a total handed in that cannot be one; or the total with this tape.
unfoldable pub total_with : Total → Tape → Answer Total
total_with x t = do
  s ← sums_of t
  _ ← refuse 18 (cannot_be x)
  given (with x s)

-- A refused tape leaves the total as it was.
unfoldable pub take_in : Total → Tape → Reply Total
take_in x t = reply x (total_with x t)
