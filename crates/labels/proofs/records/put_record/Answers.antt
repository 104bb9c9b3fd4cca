-- `records::put_record`: what stands before the labels, what they become, and what stands past them. Assumes nothing.
use Rattle.labels.proofs.Written.{record_written}
use Rattle.labels.proofs.records.put_record.Goals as goal

pub returns : goal.returns
returns c =
    let a = c.args in
    record_written _ a.from a.n a.r.now c.requires.0 a.at a.new.now _ _ _ c.put.ensures c.put_labels.ensures c.put-2.ensures
