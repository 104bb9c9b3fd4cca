-- Both sums, the number of tapes, and the end of the line.
use Rattle.std.proofs.Common.{rules}
use Rattle.names.proofs.Putting.{put_then, put_as}
use Rattle.billing.specs.Billing.{total_text}
use Rattle.billing.proofs.Signs.{held_sums}
use Rattle.billing.proofs.text.put_total.Goals as goal

pub returns-clause-put : goal.returns-clause-put
unfolding total_text
returns-clause-put c =
    let both = put_as c.put_sums-sums.ensures.0 (held_sums c.args.total.shown c.args.total.unshown (search rules) (search rules)) in
    let parts = put_then (put_then (put_then c.put_bytes-word.ensures both) c.put_bytes-word2.ensures) c.put_number-tapes.ensures.0 in
    put_then parts c.put_byte.ensures
