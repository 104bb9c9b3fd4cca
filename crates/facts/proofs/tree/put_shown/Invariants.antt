-- `tree::put_shown`: what is passed of the text is put as it is shown. Assumes nothing.
use Prim.Native.Nat.{◌+◌}
use mathlib.Core.Path.{◌≡◌}
use mathlib.Core.List.{map}
use lib.ListN.{take}
use Rattle.names.specs.Put.{Put}
use Rattle.facts.specs.Typed.{shown}
use Rattle.facts.proofs.tree.put_shown.Given as goal

abbrev pub invariant-loop-x : goal.invariant-loop-x
invariant-loop-x l = (l.p ≡ l.at + l.x-index) × Put l.fn.out l.at (map shown (take l.x-index l.text)) l.out l.p
