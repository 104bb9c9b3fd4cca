-- `figures_of`: the figures of the entries passed stand in their places. Assumes nothing.
use Rattle.std.proofs.Common.{◌-◌, get_or}
use Rattle.reshaping.specs.Figures.{held_by, different_in, Holds}
use Rattle.reshaping.proofs.figures.figures_of.Given as goal

abbrev pub invariant-loop-e : goal.invariant-loop-e
invariant-loop-e l = record {
  held_are : Holds (λ e. held_by l.types l.rows (get_or l.wanted e 0)) l.e l.held;
  copies_are : Holds (λ e. get_or l.lines e 0 - different_in l.types l.rows (get_or l.wanted e 0) l.shows e) l.e l.copies;
  different_are : Holds (λ e. different_in l.types l.rows (get_or l.wanted e 0) l.shows e) l.e l.different;
}
