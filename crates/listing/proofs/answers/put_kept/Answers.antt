-- `answers::put_kept`: the word, the number, and the end of the line. Assumes nothing.
use Rattle.grammar.specs.Text.{followed, parted}
use Rattle.listing.specs.Listing.{verdict_text}
use Rattle.names.proofs.Putting.{put_then, put_last}
use Rattle.listing.proofs.answers.put_kept.Goals as goal

pub returns-clause-put : goal.returns-clause-put
unfolding followed parted verdict_text
returns-clause-put c =
    put_then (put_then c.put_bytes-word.ensures (put_last c.put_after-told.ensures.0)) c.put_byte.ensures
