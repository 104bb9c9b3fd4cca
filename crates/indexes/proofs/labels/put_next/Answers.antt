-- `labels::put_next` meets its contract. Assumes nothing.
use Rattle.indexes.proofs.Filled.{placing_step}
use Rattle.indexes.proofs.labels.put_next.Goals as goal

pub loop-i-preserved : goal.loop-i-preserved
loop-i-preserved c = placing_step c.loop-i.invariant c.loop-i-test.true c.requires.1 c.next_alike.ensures
