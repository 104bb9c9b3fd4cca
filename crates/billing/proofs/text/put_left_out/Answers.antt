-- The word, the number, and the end of the line.
use Rattle.names.proofs.Putting.{put_then}
use Rattle.billing.specs.Billing.{left_out_text}
use Rattle.billing.proofs.text.put_left_out.Goals as goal

pub returns-clause-put : goal.returns-clause-put
unfolding left_out_text
returns-clause-put c = put_then (put_then c.put_bytes-word.ensures c.put_number-number.ensures.0) c.put_byte.ensures
