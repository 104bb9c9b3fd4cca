-- `matching::type_matches`: type q and the labels before the last that was compared are still to be compared. Assumes nothing.
use Rattle.typed.proofs.Compared.{Comparing}
use Rattle.typed.proofs.matching.type_matches.Given as goal

abbrev pub invariant-loop-j : goal.invariant-loop-j
invariant-loop-j l = Comparing l.parents l.labels l.count l.name l.size l.whole l.k l.q l.j
