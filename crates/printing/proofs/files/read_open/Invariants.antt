-- What is read lies within the buffer, and each turn reads on.
use Rattle.std.proofs.Common.{length, ◌-◌}
use Rattle.io.specs.Counts.{IsPrefixLen}
use Rattle.printing.proofs.files.read_open.Given as goal

abbrev pub invariant-loop-n : goal.invariant-loop-n
invariant-loop-n g l = IsPrefixLen l.n l.buffer

abbrev pub decreases-loop-n : goal.decreases-loop-n
decreases-loop-n g l = length l.initial.buffer - l.n
