-- `put_number`: what is still to be written are the components from place k on. Assumes nothing.
use Rattle.octets.proofs.Writing.{all_left, all_written, number_written, numbers_end}
use native.Mathlib.Omega.{arith}
use Rattle.lines.proofs.put.put_number.Goals as goal

pub loop-k-init : goal.loop-k-init
loop-k-init c = all_left c.args.new.now c.args.at _ _ (omega arith)

pub loop-k-preserved : goal.loop-k-preserved
loop-k-preserved c =
    number_written c.loop-k.k c.args.number c.loop-k.invariant (omega arith) c.put_word.new.new c.put_word.ensures

pub returns : goal.returns
returns c =
    all_written c.loop-k.invariant (numbers_end c.args.number c.loop-k.k (omega arith))
