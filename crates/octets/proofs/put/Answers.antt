-- `put`: at first all bytes are to be written, each turn writes one, and in the end none is left. Assumes nothing.
use Rattle.std.proofs.Common.{arith}
use lib.ListN.{drop_of_length-le}
use Rattle.octets.proofs.Writing.{all_left, all_written, byte_written}
use Rattle.octets.proofs.put.Goals as goal

pub loop-k-init : goal.loop-k-init
loop-k-init c = all_left c.args.out.now c.args.at c.args.text.now _ (omega arith)

pub loop-k-preserved : goal.loop-k-preserved
loop-k-preserved c = byte_written c.loop-k.k c.args.text.now c.loop-k.invariant c.loop-k-test.true

pub returns : goal.returns
returns c = all_written c.loop-k.invariant (drop_of_length-le c.args.text.now {i = c.loop-k.k} c.loop-k-test.false)
