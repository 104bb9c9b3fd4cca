-- What `lent::store` keeps while it stores: the first summaries stand at the front of what was lent. Assumes nothing.
use Rattle.std.proofs.Common.{◌≡◌}
use Rattle.adorned.proofs.Fronts.{front}
use Rattle.adorned.proofs.lent.store.Given as goal

abbrev pub invariant-loop-k : goal.invariant-loop-k
invariant-loop-k l = l.summaries ≡ front l.k l.all l.fn.summaries
