-- `list::list_types`: after i rows their types are listed. Assumes nothing.
use Prim.Native.Nat.{◌≤◌}
use Rattle.types.proofs.Listed.{Walk}
use Rattle.types.proofs.list.list_types.Given as goal

abbrev pub invariant-loop-i : goal.invariant-loop-i
invariant-loop-i l = Walk l.f l.table l.i l.count l.types l.parents l.labels l.stack × (l.last ≤ 64)
