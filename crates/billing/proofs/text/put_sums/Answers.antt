-- Both sums, each behind its words.
use native.Mathlib.Omega.{arith}
use Rattle.names.proofs.Putting.{put_then, put_as}
use Rattle.billing.specs.Billing.{sums_text}
use Rattle.billing.proofs.Signs.{held_text}
use Rattle.billing.proofs.text.put_sums.Goals as goal

pub returns : goal.returns
unfolding sums_text
returns c =
    let first = put_as c.put_signed-sum.ensures.0 (held_text c.args.shown c.ranges.shown) in
    let second = put_as c.put_signed.ensures.0 (held_text c.args.unshown c.ranges.unshown) in
    let room = c.put_bytes-word.ensures.ends in
    let room2 = c.put_bytes-word2.ensures.ends in (
      put_then (put_then (put_then c.put_bytes-word.ensures first) c.put_bytes-word2.ensures) second,
      omega (arith, room, room2, c.put_signed-sum.ensures.1, c.put_signed.ensures.1),
    )
