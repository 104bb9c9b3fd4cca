-- `count_rows`: a row of the type counts, another does not. Assumes nothing.
use Prim.Native.Nat.{◌<◌}
use native.Mathlib.Omega.{arith}
use mathlib.Core.Path.{◌≡◌, sym, ◌∙◌}
use lib.ListN.{length, get_or, take}
use lib.Seq.{get_or-take, length-take-le}
use Rattle.closest.proofs.Counts.{counting_more, counting_same, counting_end}
use Rattle.closest.proofs.count_rows.Goals as goal

pub returns : goal.returns
returns c =
    let a = c.args in
    let v = c.loop-i in
    (counting_end _ _ _ _ v.invariant (omega (arith, c.loop-i-test.false, length-take-le a.rows a.types.now c.requires)), omega (arith, v.invariant.counted))
