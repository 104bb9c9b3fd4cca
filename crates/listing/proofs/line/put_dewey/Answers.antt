-- `line::put_dewey`: the components that the level counts, of those that there are. Assumes nothing.
use mathlib.Core.Path.{sym, ◌∙◌, ap}
use Prim.Native.Nat.{min}
use lib.ListN.{get_or}
use Rattle.paper.specs.Tables.{row_of}
use Rattle.listing.specs.Listing.{dewey_text}
use Rattle.names.proofs.Putting.{put_as}
use Rattle.listing.proofs.Dewey.{take_words}
use Rattle.listing.proofs.line.put_dewey.Goals as goal

pub returns : goal.returns
unfolding row_of
returns c =
    let a = c.args in
    let row = a.row.now in
    let least = c.min-n.ensures ∙ ap (λ k. min k a.f.levels) c.wide.ensures.0 in
    let all = sym (take_words (get_or row 0 0) a.f.levels c.min-n.result row 4 least) in
    (put_as c.put_list.ensures.0 (ap dewey_text all), c.put_list.ensures.1)
