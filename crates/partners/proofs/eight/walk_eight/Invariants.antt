-- `eight::walk_eight`: where a turn begins each place holds what is found of the rows before. Assumes nothing.
use Rattle.std.proofs.Common.{◌-◌, ◌≤◌}
use Rattle.partners.proofs.Walked.{WalkedTo}
use Rattle.partners.proofs.eight.walk_eight.Given as goal

abbrev pub invariant-loop-i : goal.invariant-loop-i
invariant-loop-i l = (l.i ≤ l.rows) × WalkedTo l.levels l.types l.bounds l.over l.own l.i l.found l.parents l.children

abbrev pub decreases-loop-i : goal.decreases-loop-i
decreases-loop-i l = l.rows - l.i
