-- What a reshape promises of a chain: what it leaves is a source, and a source passes 1 to 4. Assumes nothing.
use Prim.Native.Nat.{ℕ, ◌*◌, ◌≤◌, ◌<◌}
use native.Mathlib.Nat.{mul_comm}
use native.Mathlib.Omega.{arith}
use mathlib.Core.Path.{◌≡◌, refl, sym, ap, subst}
use mathlib.Core.Logic.{◌⊎◌, inl}
use mathlib.Core.List.{List}
use lib.ListN.{length, take, length-take}
use Rattle.paper.specs.Format.{Format, row_bytes}
use Rattle.paper.specs.Tables.{rows}
use Rattle.paper.specs.Calls.{Reply, given, tests1_4}
use Rattle.paper.specs.Sound.{SoundSource}
use Rattle.paper.proofs.Calls.{reshape_past4}
use Rattle.paper.proofs.Sound.{source_whole}
use Rattle.reshaping.specs.Reshaped.{reshaped, Reshapes}
use Rattle.std.specs.Prelude.{Result, Ok, Err}
use Rattle.paper.specs.Refusals.{number_in}
use Rattle.paper.specs.declared.refusal.Refusal.{Refusal}
use Rattle.cases.specs.Chain.{Source}

module _ {f : Format} {t s new sources new' sources' : List ℕ} where
  -- an accepted reshape of at most 1,024 lines leaves a source
  pub leaves_source : {n : ℕ} → Reshapes f t s new sources (record { number = 0; place = 0; rest = n }) new' sources' → n ≤ 1024 → Source f new' n
  leaves_source {n} p le =
      let at : n * row_bytes f ≡ row_bytes f * n = mul_comm n (row_bytes f) in
      let source = subst (λ k. SoundSource f s (take k new') n) at (p.sound refl le) in
      let within : n * row_bytes f ≤ length (take (row_bytes f * n) new') = source_whole f s (take (row_bytes f * n) new') n source in
      (omega (arith, within, at, length-take (row_bytes f * n) new'), source.passes)

  -- what passes 1 to 4 is reshaped, or refused by a number past 4
  pub past4 : (r : Result ℕ Refusal) → Reshapes f t s new sources (reshaped r) new' sources' → tests1_4 f t ≡ given (rows f t)
      → (number_in r ≡ 0) ⊎ (4 < number_in r)
  past4 (Ok n) p passes = inl refl
  past4 (Err e) p passes =
      subst (λ k. (k ≡ 0) ⊎ (4 < k)) (sym (ap (λ (x : Reply ℕ). x.number) p.answer)) (reshape_past4 f t passes s new sources)
