-- `line::put_brackets`: an opening bracket, or the closing ones from each level on are still to be put. Assumes nothing.
use Prim.Native.Nat.{◌+◌, ◌*◌, ◌-◌, ◌≤◌}
use Rattle.spelling.proofs.Left.{Left}
use Rattle.spelling.proofs.Parts.{closings}
use Rattle.spelling.proofs.line.put_brackets.Given as goal

abbrev pub invariant-loop-k : goal.invariant-loop-k
invariant-loop-k l = (l.p ≤ l.at + 2 * (l._k - l.m)) × Left l.fn.out l.at (closings (l.l - l.m)) l.out l.p (closings (l.l - l._k))
