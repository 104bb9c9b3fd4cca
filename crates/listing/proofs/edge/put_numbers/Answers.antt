-- `edge::put_numbers`: four numbers, a space before each. Assumes nothing.
use native.Mathlib.Omega.{arith}
use Rattle.grammar.specs.Text.{followed}
use Rattle.names.proofs.Putting.{put_then, put_last}
use Rattle.listing.proofs.edge.put_numbers.Goals as goal

pub returns : goal.returns
unfolding followed
returns c =
    let parents = put_then c.put_after-few.ensures.0 (put_last c.put_after.ensures.0) in
    let children = put_then c.put_after-fewest.ensures.0 (put_then c.put_after-most.ensures.0 parents) in
    (children, omega (arith, c.put_after-fewest.ensures.1, c.put_after-most.ensures.1, c.put_after-few.ensures.1, c.put_after.ensures.1))
