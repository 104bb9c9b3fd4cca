-- The folder, both sums, and the end of the line.
use Rattle.names.proofs.Putting.{put_then, put_as}
use Rattle.billing.specs.Billing.{counted_text}
use Rattle.billing.proofs.Signs.{held_sums}
use Rattle.billing.proofs.text.put_counted.Goals as goal

pub returns-clause-put : goal.returns-clause-put
unfolding counted_text
returns-clause-put c =
    let both = put_as c.put_sums-sums.ensures.0 (held_sums c.args.shown c.args.unshown c.ranges.shown c.ranges.unshown) in
    put_then (put_then c.put_bytes-folder.ensures both) c.put_byte.ensures
