-- `line::put_line`: the entries from each on are still to be put, and each takes at most 95 bytes. Assumes nothing.
use Prim.Native.Nat.{◌*◌, ◌≤◌}
use Rattle.octets.specs.Served.{most_levels}
use Rattle.spelling.specs.Line.{shape_line}
use Rattle.spelling.proofs.Walk.{Going}
use Rattle.spelling.proofs.line.put_line.Given as goal

abbrev pub invariant-loop-e : goal.invariant-loop-e
invariant-loop-e l = (l.p ≤ 95 * l.e) × (l.level ≤ most_levels) × Going l.f l.shape l.fn.out 0 (shape_line l.f l.shape) l.out l.p l.level l.e
