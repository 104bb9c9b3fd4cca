-- `put_value`: at first all bytes are to be written, each turn writes one, and in the end none is left. Assumes nothing.
use Rattle.std.proofs.Common.{arith}
use lib.ListN.{drop_of_length-le}
use Rattle.octets.proofs.Writing.{all_left, all_written, byte_written}
use Rattle.lines.proofs.put.put_value.Goals as goal

pub loop-k-init : goal.loop-k-init
loop-k-init c = all_left c.args.new.now c.args.at _ _ (omega arith)

pub loop-k-preserved : goal.loop-k-preserved
loop-k-preserved c = byte_written c.loop-k.k c.args.value c.loop-k.invariant (omega (arith, c.well_formed))

pub returns : goal.returns
returns c = all_written c.loop-k.invariant (drop_of_length-le c.args.value {i = c.loop-k.k} (omega (arith, c.well_formed)))
