-- The number's digits, compared with the word.
use native.Mathlib.Omega.{arith}
use mathlib.Core.Path.{sym, ◌∙◌}
use Rattle.billing.proofs.Spelled.{put_first}
use Rattle.billing.proofs.entry.spells.Goals as goal

pub returns : goal.returns
returns c =
    let is = put_first c.put_number-k.ensures.0 (omega (arith, c.put_number-k.ensures.1, c.put_number-k.ensures.0.ends)) in
    (λ e. c.same.ensures.0 e ∙ is, λ e. c.same.ensures.1 (e ∙ sym is))
