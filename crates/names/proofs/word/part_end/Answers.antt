-- `word::part_end`: no byte passed is a dot. Assumes nothing.
use native.Mathlib.Omega.{arith}
use Rattle.names.proofs.Parting.{part_ends}
use Rattle.names.proofs.word.part_end.Goals as goal

pub returns-then-word-q-eq46 : goal.returns-then-word-q-eq46
returns-then-word-q-eq46 c = part_ends _ _ _ (omega arith) (omega arith) c.loop-q.invariant (λ _. c.if-word-q-eq46.true)

pub returns : goal.returns
returns c = part_ends _ _ _ (omega arith) (omega arith) (λ j le lt. c.loop-q.invariant j le (omega arith)) (λ lt. let z : ⊥ = omega arith in absurd z)
