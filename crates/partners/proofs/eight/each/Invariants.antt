use Rattle.std.proofs.Common.{◌≡◌, ℕ, ◌<◌, length, get_or}
use Rattle.partners.proofs.eight.each.Given as goal

-- what is put at the places before this one is an answer of the closure there
abbrev pub invariant-loop-e : goal.invariant-loop-e
invariant-loop-e g l =
    (length l.all ≡ 8)
    × ((j : ℕ) → j < l.e → goal.F-post g l.put (get_or l.a j 0) (get_or l.b j 0) (get_or l.c j 0) (get_or l.all j 0))
