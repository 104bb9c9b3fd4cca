-- `build::put_index` meets its contract. Assumes nothing.
use borrow.Author.Rules.{rules}
use Rattle.indexes.proofs.Built.{indexed}
use Rattle.indexes.proofs.build.put_index.Goals as goal

pub returns : goal.returns
returns c =
    indexed _ _ _ _ _ _ _ _ _ c.requires.0 c.row_levels.ensures c.row_labels.ensures (search rules) (search rules) c.requires.2 c.requires.3
    c.put_last.ensures c.put_next.ensures
