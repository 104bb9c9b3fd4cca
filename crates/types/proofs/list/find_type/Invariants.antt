-- `list::find_type`: no type before type k has this parent and label. Assumes nothing.
use Rattle.types.proofs.Search.{Missed}
use Rattle.types.proofs.list.find_type.Given as goal

abbrev pub invariant-loop-k : goal.invariant-loop-k
invariant-loop-k l = Missed l.parents l.labels l.p l.a l.k
