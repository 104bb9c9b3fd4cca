-- The first lines of the new table pass 1 to 4.
use Rattle.cases.proofs.Chained.{past4}
use Rattle.cases.proofs.chain.reshape_again.Goals as goal

pub returns : goal.returns
returns c = past4 _ c.reshape.ensures (rw (c.record_bytes.ensures.0) (c.requires.1))
