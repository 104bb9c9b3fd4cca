-- The first of the marked places are lent, and come back as adorning leaves them.
use Rattle.cases.proofs.Marks.{left_of}
use Rattle.cases.proofs.marked.lend.Goals as goal

pub returns : goal.returns
returns c = left_of _ _ c.args.n c.marks-places.result c.requires c.marks-places.ensures c.silmezga_adorn-answer.result c.silmezga_adorn-answer.new.summaries c.silmezga_adorn-answer.ensures.result_value c.silmezga_adorn-answer.ensures.summaries_after
