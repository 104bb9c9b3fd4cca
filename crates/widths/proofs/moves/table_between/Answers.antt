-- `moves::table_between`: both formats are served. Assumes nothing.
use Rattle.octets.proofs.Laws.{format_served}
use Rattle.widths.proofs.moves.table_between.Goals as goal

pub move_table-requires : goal.move_table-requires
move_table-requires c = (format_served _ c.args.from c.format_of.ensures, format_served _ c.args.to c.format_of-2.ensures)
