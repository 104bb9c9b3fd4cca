-- A number not below 0 is its digits; any other is a hyphen and its size.
use native.Mathlib.Omega.{arith}
use Rattle.names.proofs.Putting.{put_as}
use Rattle.billing.proofs.Signs.{below_text, not_below_text}
use Rattle.billing.proofs.text.put_signed.Goals as goal

pub returns-then-v-lt0 : goal.returns-then-v-lt0
returns-then-v-lt0 c = (put_as c.put_after.ensures.0 (below_text c.args.v c.ranges.v c.if-v-lt0.true), omega (arith, c.put_after.ensures.1))

pub returns-else-v-lt0 : goal.returns-else-v-lt0
returns-else-v-lt0 c = (put_as c.put_number.ensures.0 (not_below_text c.args.v c.ranges.v c.if-v-lt0.false), omega (arith, c.put_number.ensures.1))
