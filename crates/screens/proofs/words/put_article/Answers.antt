-- `words::put_article`: `an` or `a`, by whether the name begins with a vowel. Assumes nothing.
use native.Mathlib.Omega.{arith}
use Rattle.grammar.specs.Names.{name_text}
use Rattle.names.proofs.Putting.{put_as}
use Rattle.screens.proofs.Articles.{article_an, article_a}
use Rattle.screens.proofs.words.put_article.Goals as goal

pub returns-then-vowel_first : goal.returns-then-vowel_first
returns-then-vowel_first c =
    let an = article_an (name_text c.args.label) c.vowel_first.result c.vowel_first.ensures c.if-vowel_first.true in
    (put_as c.put_bytes.ensures an, omega arith)

pub returns-else-vowel_first : goal.returns-else-vowel_first
returns-else-vowel_first c =
    let a = article_a (name_text c.args.label) c.vowel_first.result c.vowel_first.ensures c.if-vowel_first.false in
    (put_as c.put_bytes-else-vowel_first.ensures a, omega arith)
