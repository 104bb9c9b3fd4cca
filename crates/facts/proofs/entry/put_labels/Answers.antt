-- `entry::put_labels`: the labels that the length counts, of those that there are. Assumes nothing.
use mathlib.Core.Path.{sym, ◌∙◌, ap}
use Prim.Native.Nat.{min}
use lib.ListN.{get_or}
use Rattle.paper.specs.Shapes.{entry_of}
use Rattle.names.proofs.Putting.{put_as}
use Rattle.listing.proofs.Dewey.{take_words}
use Rattle.facts.specs.Facts.{names_text, labels_text}
use Rattle.facts.proofs.entry.put_labels.Goals as goal

pub returns : goal.returns
unfolding entry_of labels_text
returns c =
    let a = c.args in
    let entry = a.entry.now in
    let least = c.min-n.ensures ∙ ap (λ k. min k a.f.levels) c.wide.ensures.0 in
    let all = sym (take_words (get_or entry 1 0) a.f.levels c.min-n.result entry 4 least) in
    (put_as c.put_names.ensures.0 (ap names_text all), c.put_names.ensures.1)
