use Rattle.std.proofs.Common.{rules}
use Rattle.partners.proofs.eight.greatest.Goals as goal

pub returns : goal.returns
returns c e lt = let w = c.each.ensures e lt in search rules
