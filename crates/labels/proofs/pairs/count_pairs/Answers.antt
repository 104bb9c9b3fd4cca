-- `pairs::count_pairs`: the last may be a half pair. Assumes nothing.
use Rattle.labels.proofs.Listed.{count-is}
use Rattle.labels.proofs.pairs.count_pairs.Goals as goal

pub returns : goal.returns
returns c = count-is c.args.list.now
