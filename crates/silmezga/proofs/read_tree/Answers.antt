-- `silmezga::read_tree` meets its contract. Assumes nothing.
use Rattle.octets.proofs.Laws.{format_served}
use Rattle.silmezga.proofs.Trees.{format_labelled}
use Rattle.silmezga.proofs.read_tree.Goals as goal

pub read_tree-requires : goal.read_tree-requires
read_tree-requires c = (format_served _ c.args.width c.format_of.ensures, format_labelled _ c.args.width c.format_of.ensures)
