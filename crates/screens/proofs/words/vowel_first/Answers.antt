-- `words::vowel_first`: a label with no name is a number, and what is held for a name is the name. Assumes nothing.
use native.Mathlib.Omega.{arith}
use mathlib.Core.Path.{◌∙◌}
use Rattle.names.proofs.Naming.{no_name_below, no_name_above}
use Rattle.screens.proofs.Articles.{number-first, name_first}
use Rattle.screens.proofs.words.vowel_first.Goals as goal
use Rattle.screens.proofs.words.vowel_first.Goals.{then-label-lt1-via-then-label-lt1, then-label-lt1-via-else-label-lt1+then-label-gt20}

pub returns-then-label-lt1 : goal.returns-then-label-lt1
returns-then-label-lt1 c =
    elim c.then-label-lt1.branch [
      | then-label-lt1-via-then-label-lt1 w ↦ number-first _ (no_name_below _ w.if-label-lt1.true)
      | then-label-lt1-via-else-label-lt1+then-label-gt20 w ↦ number-first _ (no_name_above _ w.if-label-gt20.true)
    ]

pub returns : goal.returns
returns c = c.is_vowel.ensures ∙ name_first c.args.label _ c.name_bytes-name.result.now (omega arith) (omega arith) c.name_bytes-name.ensures.name
