-- `words::put_indent`: the indent of the levels so far is put, and each takes two bytes. Assumes nothing.
use Prim.Native.Nat.{◌+◌, ◌*◌, ◌-◌, ◌≤◌, max}
use Rattle.names.specs.Put.{Put}
use Rattle.screens.specs.Screens.{indent}
use Rattle.screens.proofs.words.put_indent.Given as goal

abbrev pub invariant-loop-l : goal.invariant-loop-l
invariant-loop-l l = (l._l ≤ max 1 l.level) × (l.p ≤ l.at + 2 * (l._l - 1)) × Put l.fn.out l.at (indent l._l) l.out l.p
