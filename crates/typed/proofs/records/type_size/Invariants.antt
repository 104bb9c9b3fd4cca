-- `records::type_size`: the labels that are counted and those of type q are the type's. Assumes nothing.
use Rattle.typed.proofs.Sizes.{Counting}
use Rattle.typed.proofs.records.type_size.Given as goal

abbrev pub invariant-loop-n : goal.invariant-loop-n
invariant-loop-n l = Counting l.parents l.count l.k l.q l.n
