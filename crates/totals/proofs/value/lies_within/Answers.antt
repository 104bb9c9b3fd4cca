-- `lies_within`: not below −n, and not above n. Assumes nothing.
use Rattle.totals.proofs.Signs.{too_low, not_too_low}
use Rattle.totals.proofs.value.lies_within.Goals as goal

pub returns-then-most-v : goal.returns-then-most-v
returns-then-most-v c = not_too_low c.args.n c.args.v c.requires c.ranges.v c.if-most-v.true

pub returns-else-most-v : goal.returns-else-most-v
returns-else-most-v c = too_low c.args.n c.args.v c.requires c.ranges.v c.if-most-v.false
