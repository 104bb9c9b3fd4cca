-- `line::put_path`: the labels from each on are still to be put, and a dot and a name take at most ten bytes. Assumes nothing.
use Prim.Native.Nat.{◌+◌, ◌*◌, ◌≤◌}
use lib.ListN.{take, drop}
use Rattle.paper.specs.Format.{words}
use Rattle.spelling.specs.Line.{path_text}
use Rattle.spelling.proofs.Left.{Left}
use Rattle.spelling.proofs.line.put_path.Given as goal

abbrev pub invariant-loop-k : goal.invariant-loop-k
invariant-loop-k l =
    let labels = take l.n (words l.f.levels l.entry 4) in
    (l.p ≤ l.at + 10 * l.k) × Left l.fn.out l.at (path_text labels) l.out l.p (path_text (drop l.k labels))
