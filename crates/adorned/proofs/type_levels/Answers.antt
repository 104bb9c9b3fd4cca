-- `type_levels`: a row's type is one of 64, and has its level. Assumes nothing.
use native.Mathlib.Omega.{arith}
use mathlib.Core.Path.{◌≡◌, refl, ◌∙◌}
use lib.ListN.{length-set}
use Rattle.adorned.proofs.Walks.{levels_more}
use Rattle.adorned.proofs.type_levels.Goals as goal

pub bounds-found-wide : goal.bounds-found-wide
bounds-found-wide c = omega (arith, c.wide.ensures.0, c.requires.type_few c.loop-i.i c.loop-i-test.true)

pub loop-i-preserved : goal.loop-i-preserved
loop-i-preserved c =
    let v = c.loop-i in
    record {
      long = length-set _ _ _ ∙ v.invariant.long;
      leveled = levels_more _ _ _ v.i _ _ c.wide.ensures.0 refl (omega (arith, c.requires.type_few v.i c.loop-i-test.true)) v.invariant.leveled;
    }

pub returns : goal.returns
returns c = let all : c.loop-i.i ≡ c.args.rows = omega arith in rw (← all) c.loop-i.invariant.leveled
