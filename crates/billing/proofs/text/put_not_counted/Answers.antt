-- The folder, its refusal, what that means, and the end of the line.
use Rattle.names.proofs.Putting.{put_then}
use Rattle.billing.specs.Billing.{not_counted_text}
use Rattle.billing.proofs.text.put_not_counted.Goals as goal

pub returns-clause-put : goal.returns-clause-put
unfolding not_counted_text
returns-clause-put c =
    let numbered = put_then (put_then c.put_bytes-folder.ensures c.put_bytes-word.ensures) c.put_number-first.ensures.0 in
    let parts = put_then (put_then numbered c.put_after-second.ensures.0) c.put_bytes-words.ensures in
    put_then parts c.put_byte.ensures
