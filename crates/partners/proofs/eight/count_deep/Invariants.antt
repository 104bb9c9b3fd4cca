-- `eight::count_deep`: all rows from the first that came next on are counted, each deeper than the bound. Assumes nothing.
use Rattle.std.proofs.Common.{◌≡◌}
use Rattle.partners.proofs.Deep.{CountedDeep, up_to}
use Rattle.partners.proofs.eight.count_deep.Given as goal

abbrev pub invariant-loop-row : goal.invariant-loop-row
invariant-loop-row l =
    (l.now.row ≡ l.row) × CountedDeep l.levels l.types l.rows l.over l.own l.bound l.fn.at (up_to l.now.parents l.now.children l.row)
