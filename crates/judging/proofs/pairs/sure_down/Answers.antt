use Rattle.std.proofs.Common.{sym, ◌∙◌, ap, drop}
use Rattle.shapes.specs.Ways.{way_at}
use Rattle.judging.specs.Pairs.{sure_on}
use Rattle.judging.proofs.Ways.{fits_read, sure_found, sure_lost, sure_step}
use Rattle.judging.proofs.pairs.sure_down.Goals as goal

pub returns-then-wide-l : goal.returns-then-wide-l
returns-then-wide-l c =
    let a = c.args in
    sym (sure_found (fits_read c.wide-size.ensures.0 c.requires) a.edges c.loop-i.i c.loop-i-test.true a.full c.wide-c.result c.wide.result a.l
    c.wide-c.ensures.0 c.wide.ensures.0 c.if-wide-l.true) ∙ c.loop-i.invariant
    ∙ ap (λ n. sure_on a.edges a.full a.l (drop a.k (way_at a.ways.now a.e n))) c.wide-size.ensures.0

pub returns-then-not-full-c : goal.returns-then-not-full-c
returns-then-not-full-c c =
    let a = c.args in
    sym (sure_lost (fits_read c.wide-size.ensures.0 c.requires) a.edges c.loop-i.i c.loop-i-test.true a.full c.wide-c.result c.wide.result a.l
    c.wide-c.ensures.0 c.wide.ensures.0 c.if-wide-l.false c.if-not-full-c.true) ∙ c.loop-i.invariant
    ∙ ap (λ n. sure_on a.edges a.full a.l (drop a.k (way_at a.ways.now a.e n))) c.wide-size.ensures.0

pub loop-i-preserved : goal.loop-i-preserved
loop-i-preserved c =
    let a = c.args in
    sym (sure_step (fits_read c.wide-size.ensures.0 c.requires) a.edges c.loop-i.i c.loop-i-test.true a.full c.wide-c.result c.wide.result a.l
    c.wide-c.ensures.0 c.wide.ensures.0 c.if-wide-l.false c.if-not-full-c.false) ∙ c.loop-i.invariant
