-- `words::put_with_article`: the article, a space, and the name. Assumes nothing.
use native.Mathlib.Omega.{arith}
use Rattle.names.proofs.Putting.{put_then}
use Rattle.screens.specs.Screens.{with_article}
use Rattle.screens.proofs.words.put_with_article.Goals as goal

pub returns : goal.returns
unfolding with_article
returns c =
    (put_then c.put_article-article.ensures.0 (put_then c.put_byte-gap.ensures c.put_name.ensures.0), omega arith)
