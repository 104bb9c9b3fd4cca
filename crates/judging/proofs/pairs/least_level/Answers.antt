use Rattle.std.proofs.Common.{◌∙◌}
use Rattle.judging.proofs.Ways.{fits_read, lowest_step}
use Rattle.judging.proofs.pairs.least_level.Goals as goal

pub loop-i-preserved : goal.loop-i-preserved
loop-i-preserved c =
    lowest_step (fits_read c.wide-size.ensures.0 c.requires) c.args.edges c.loop-i.i c.loop-i-test.true c.wide-c.result c.wide.result c.loop-i.least
    c.min-least.result c.wide-c.ensures.0 c.wide.ensures.0 c.min-least.ensures ∙ c.loop-i.invariant
