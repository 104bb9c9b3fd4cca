-- The mark that was found last is a word before the last, and the next is one behind it.
use Rattle.std.proofs.Common.{ℕ, ◌-◌, ◌<◌, Option, None, Some, IfSome}
use Rattle.histories.proofs.months.print_months.Given as goal

-- how many words stand from a mark on
abbrev words_left : ℕ → Option ℕ → ℕ
words_left last None = 0
words_left last (Some mark) = last - mark

abbrev pub invariant-loop-mark : goal.invariant-loop-mark
invariant-loop-mark g l = IfSome l.mark (λ at. at < l.last)

abbrev pub decreases-loop-mark : goal.decreases-loop-mark
decreases-loop-mark g l = words_left l.last l.mark
