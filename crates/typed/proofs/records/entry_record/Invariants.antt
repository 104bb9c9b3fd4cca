-- `records::entry_record`: the labels of type q are still to be put. Assumes nothing.
use mathlib.Core.Path.{◌≡◌}
use lib.ListN.{length}
use Rattle.typed.proofs.Backwards.{Filling}
use Rattle.typed.proofs.records.entry_record.Given as goal

abbrev pub invariant-loop-j : goal.invariant-loop-j
invariant-loop-j l = record {
  long : length l.r ≡ 20;
  filling : Filling l.parents l.labels l.count l.level l.k l.r l.q l.j;
}
