-- `records::move_record`: the list, then the rest behind it. Assumes nothing.
use Rattle.widths.proofs.Moving.{record_written}
use Rattle.widths.proofs.records.move_record.Goals as goal

pub returns : goal.returns
returns c = record_written c.args.r.now c.args.from c.args.to c.args.at c.args.new.now _ _ c.put_list.ensures c.put.ensures
