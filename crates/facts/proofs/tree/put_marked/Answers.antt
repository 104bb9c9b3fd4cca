-- `tree::put_marked`: the text on a line, and the mark on the next. Assumes nothing.
use Rattle.names.proofs.Putting.{put_then, put_last}
use Rattle.facts.specs.Typed.{marked_text}
use Rattle.facts.proofs.tree.put_marked.Goals as goal

pub returns-clause-put : goal.returns-clause-put
unfolding marked_text
returns-clause-put c =
    let below = put_then c.put_spaces-gap.ensures.0 (put_last c.put_bytes.ensures) in
    put_then c.put_bytes-word.ensures (put_then c.put_shown-line.ensures.0 (put_then c.put_byte-below.ensures below))
