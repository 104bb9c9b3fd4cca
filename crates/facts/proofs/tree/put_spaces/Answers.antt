-- `tree::put_spaces`: the spaces stand between what stands before their place and behind it. Assumes nothing.
use Prim.Native.Nat.{ℕ}
use native.Mathlib.Omega.{arith}
use mathlib.Core.Path.{◌≡◌, refl}
use lib.ListN.{replicate, length-replicate}
use Rattle.std.proofs.lemmas.List.Edits.{sets-eq}
use Rattle.std.proofs.lemmas.Grind.{common_steps}
use Rattle.grammar.specs.Text.{space}
use Rattle.facts.proofs.tree.put_spaces.Goals as goal

pub returns : goal.returns
returns c =
    let filled : c.fill.new.self ≡ replicate c.args.n space = grind (arith, common_steps, c.fill.ensures.after (λ y e. e)) in (
      record { written = grind (arith, common_steps, sets-eq, length-replicate {A = ℕ}, filled); ends = grind (arith, length-replicate {A = ℕ}) },
      refl,
    )
