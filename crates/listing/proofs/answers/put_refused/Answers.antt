-- `answers::put_refused`: the word, the number, the place, and the end of the line. Assumes nothing.
use native.Mathlib.Omega.{arith}
use Rattle.grammar.specs.Text.{followed, parted}
use Rattle.listing.specs.Listing.{refused_text}
use Rattle.names.proofs.Putting.{put_then, put_last, put_figure}
use Rattle.listing.proofs.answers.put_refused.Goals as goal

pub returns-clause-put : goal.returns-clause-put
unfolding followed parted refused_text
returns-clause-put c =
    let a = c.args in
    let first = put_figure c.put_after-first.ensures.0 a.number (omega arith) in
    let second = put_figure c.put_after-second.ensures.0 a.place (omega arith) in
    let parts = put_then c.put_bytes-word.ensures (put_then first (put_last second)) in
    put_then parts c.put_byte.ensures
