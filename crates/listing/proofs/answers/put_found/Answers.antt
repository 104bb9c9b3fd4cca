-- `answers::put_found`: the word, three numbers, and the end of the line. Assumes nothing.
use Rattle.grammar.specs.Text.{followed, parted}
use Rattle.listing.specs.Listing.{verdict_text}
use Rattle.names.proofs.Putting.{put_then, put_last}
use Rattle.listing.proofs.answers.put_found.Goals as goal

pub returns-clause-put : goal.returns-clause-put
unfolding followed parted verdict_text
returns-clause-put c =
    let values = put_then c.put_after-left.ensures.0 (put_last c.put_after-right.ensures.0) in
    let parts = put_then c.put_bytes-word.ensures (put_then c.put_after-told.ensures.0 values) in
    put_then parts c.put_byte.ensures
