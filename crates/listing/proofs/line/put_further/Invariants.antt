-- `line::put_further`: the numbers so far are put, each of them takes at most 21 bytes. Assumes nothing.
use Prim.Native.Nat.{◌+◌, ◌*◌, ◌≤◌}
use Rattle.names.specs.Put.{Put}
use Rattle.listing.proofs.Dewey.{further}
use Rattle.listing.proofs.line.put_further.Given as goal

abbrev pub invariant-loop-k : goal.invariant-loop-k
invariant-loop-k l = (l.p ≤ l.at + 21 * l.k) × Put l.fn.out l.at (further l.k l.held) l.out l.p
