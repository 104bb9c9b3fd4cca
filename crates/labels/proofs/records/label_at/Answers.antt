-- `records::label_at`: the number there is that of the list. Assumes nothing.
use mathlib.Core.Path.{sym, ◌∙◌}
use Rattle.tables.proofs.Laws.{words-at}
use Rattle.labels.proofs.records.label_at.Goals as goal

pub returns : goal.returns
returns c = let a = c.args in (c.word.ensures.0 ∙ sym (words-at a.n a.r.now a.from a.k c.requires.1), c.word.ensures.1)
