-- `entry::put_names`: the names of the labels so far are put, each of them takes at most 21 bytes. Assumes nothing.
use native.Mathlib.Omega.{arith}
use mathlib.Core.Path.{◌≡◌, ap}
use Rattle.grammar.specs.Text.{space, followed}
use Rattle.grammar.specs.Names.{name_text}
use Rattle.names.proofs.Putting.{put_none, put_then, put_as}
use Rattle.listing.proofs.Dewey.{leading, leading_put}
use Rattle.facts.specs.Facts.{names_text}
use Rattle.facts.proofs.entry.put_names.Goals as goal

pub loop-k-init : goal.loop-k-init
unfolding followed
loop-k-init c = (omega arith, put_none _ _)

pub loop-k-preserved : goal.loop-k-preserved
loop-k-preserved c =
    let said = leading_put name_text space c.args.entry.now 4 c.loop-k.k c.word.result c.word.ensures.0 in (
      omega (arith, c.put_name-p.ensures.1, c.put_byte-gap.ensures.ends),
      said c.loop-k.invariant.1 (put_then c.put_byte-gap.ensures c.put_name-p.ensures.0),
    )

pub returns : goal.returns
unfolding names_text
returns c =
    let all : c.loop-k.k ≡ c.args.n = omega arith in
    (put_as c.loop-k.invariant.1 (ap (leading name_text space c.args.entry.now 4) all), omega arith)
