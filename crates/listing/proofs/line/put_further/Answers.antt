-- `line::put_further`: the numbers so far are put, each of them takes at most 21 bytes. Assumes nothing.
use native.Mathlib.Omega.{arith}
use mathlib.Core.Path.{◌≡◌, ap}
use Rattle.grammar.specs.Text.{dot, decimal, followed}
use Rattle.names.proofs.Putting.{put_none, put_as}
use Rattle.listing.proofs.Dewey.{further, leading_put}
use Rattle.listing.proofs.line.put_further.Goals as goal

pub loop-k-init : goal.loop-k-init
unfolding followed
loop-k-init c = (omega arith, put_none _ _)

pub loop-k-preserved : goal.loop-k-preserved
loop-k-preserved c =
    let said = leading_put decimal dot c.args.held.now 6 c.loop-k.k c.word.result c.word.ensures.0 in
    (omega (arith, c.put_after-p.ensures.1), said c.loop-k.invariant.1 c.put_after-p.ensures.0)

pub returns : goal.returns
returns c =
    let all : c.loop-k.k ≡ c.args.n = omega arith in
    (put_as c.loop-k.invariant.1 (ap (λ k. further k c.args.held.now) all), omega arith)
