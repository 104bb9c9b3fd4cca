use Rattle.std.proofs.Common.{◌≡◌, arith, subst}
use Rattle.partners.specs.Eight.{places}
use Rattle.partners.proofs.Groups.{Halves, halves_spread}
use Rattle.partners.proofs.edges.spread.Goals as goal

pub returns : goal.returns
returns c =
    let q : c.loop-e.e ≡ places = omega arith in
    halves_spread _ _ (subst (λ n. Halves c.args.low c.args.high n c.loop-e.all) q c.loop-e.invariant)
