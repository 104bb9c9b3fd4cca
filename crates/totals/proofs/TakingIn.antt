-- A tape that was added up, taken into a total: what is answered, and that both new sums fit into 64 bits. Assumes nothing.
use Prim.Native.Nat.{ℕ, ◌+◌, ◌*◌, ◌^◌, ◌≤◌, ◌<◌}
use native.Mathlib.Numerals.{add-one}
use native.Mathlib.Omega.{arith}
use mathlib.Core.Path.{◌≡◌, refl, sym, ◌∙◌, ap, ap₂, subst}
use mathlib.Core.Bool.{Bool, true, false, not, ◌||◌}
use lib.Dec.{leb}
use lib.IntN.{ℤ, nat_abs, ◌+ℤ◌}
use mir.Syntax.{w64}
use mir.Val.{SFits, to_z, of_z}
use mir.Facts.{to_z-of_z}
use Rattle.std.specs.Prelude.{Ok, Err}
use Rattle.paper.specs.Calls.{Answer, refused, given, Reply, reply}
use Rattle.paper.specs.declared.refusal.Refusal.{Refusal}
use Rattle.paper.specs.declared.refusal.Refusal.TheVariants.{NoTotal}
use Rattle.paper.proofs.Refusals.{numbered as never_0}
use Rattle.totals.specs.Sums.{within}
use Rattle.totals.specs.Tape.{Tape, Sums, no_sums, sums_of, sum_tape}
use Rattle.totals.specs.Total.{Total, most_tapes, most_sum, cannot_be, with, total_with, take_in}
use Rattle.totals.specs.Told.{summed, taken}
use Rattle.totals.specs.declared.TapeSums.{TapeSums}
use Rattle.totals.proofs.Refusals.{Numbered, numbered, is_numbered}
use Rattle.totals.proofs.Integers.{within_le, sfits}
use Rattle.totals.proofs.Taking.{ending, Sound, can_be, grown}
use Rattle.totals.proofs.Tapes.{tape-within}

-- ---- whether the total cannot be one, by its three tests
pub cannot_is : (x : Total) (a p q : Bool) → leb most_tapes x.tapes ≡ a → within (x.tapes * most_sum) x.shown ≡ p
    → within (x.tapes * most_sum) x.unshown ≡ q → a || not p || not q ≡ cannot_be x
unfolding cannot_be
cannot_is x a p q e f g i = sym e i || not (sym f i) || not (sym g i)

-- ---- a sum over n tapes and what one more adds, as 64 bits hold them
module _ (n : ℕ) (few : n < most_tapes) (a b : ℤ) (old : nat_abs a ≤ n * most_sum) (new : nat_abs b ≤ most_sum) where
  held : (z : ℤ) → nat_abs z ≤ 2 ^ 62 → to_z w64 (of_z w64 z) ≡ z
  held z h = to_z-of_z {w = w64} (sfits z h)

  both_held : to_z w64 (of_z w64 a) +ℤ to_z w64 (of_z w64 b) ≡ a +ℤ b
  both_held = ap₂ ◌+ℤ◌ (held a (omega (arith, old, few))) (held b (omega (arith, new)))

  small : nat_abs (a +ℤ b) ≤ 2 ^ 62
  small = omega (arith, grown most_sum n a b old new, few)

  pub sum_fits : SFits w64 (to_z w64 (of_z w64 a) +ℤ to_z w64 (of_z w64 b))
  sum_fits = subst (SFits w64) (sym both_held) (sfits (a +ℤ b) small)

  pub sum_held : to_z w64 (of_z w64 (to_z w64 (of_z w64 a) +ℤ to_z w64 (of_z w64 b))) ≡ a +ℤ b
  sum_held = to_z-of_z {w = w64} sum_fits ∙ both_held

-- ---- the answer
module _ (x : Total) (t : Tape) where
  -- how it ends, by what the tape says
  ends : (a : Answer Sums) → Numbered a → (full : Bool)
      → let y = reply no_sums a in
      ((y.number ≡ 0 → ⊥) → record { number = y.number; place = y.place; rest = x } ≡ ending x a full)
      × (y.number ≡ 0 → full ≡ true → record { number = 18; place = 0; rest = x } ≡ ending x a full)
      × (y.number ≡ 0 → full ≡ false → record { number = 0; place = 0; rest = with x y.rest } ≡ ending x a full)
  ends (refused k p) n full = (
    λ ne. refl,
    λ e. let z : ⊥ = omega (arith, e, is_numbered k n) in absurd z,
    λ e. let z : ⊥ = omega (arith, e, is_numbered k n) in absurd z,
  )
  ends (given s) n full = (λ ne. absurd (ne refl), λ e f i. ending x (given s) (sym f i), λ e f i. ending x (given s) (sym f i))

  -- refused as the tape is
  pub as_summed : (d : Refusal) → summed (Err d) ≡ sum_tape t → taken (Err (record { refusal = d; total = x })) ≡ take_in x t
  unfolding take_in total_with sum_tape
  as_summed d told =
      (λ i. record { number = (told i).number; place = (told i).place; rest = x })
      ∙ (ends (sums_of t) (numbered t) (cannot_be x)).0 (λ e. never_0 d (ap (λ (y : Reply Sums). y.number) told ∙ e))

  module _ (s : TapeSums) (told : summed (Ok s) ≡ sum_tape t) where
    accepted : (sum_tape t).number ≡ 0
    accepted = sym (ap (λ (y : Reply Sums). y.number) told)

    -- 18
    pub total-refused : cannot_be x ≡ true → taken (Err (record { refusal = NoTotal; total = x })) ≡ take_in x t
    unfolding take_in total_with sum_tape
    total-refused full = (ends (sums_of t) (numbered t) (cannot_be x)).1 accepted full

    module _ (can : cannot_be x ≡ false) where
      pub tapes_few : x.tapes < most_tapes
      tapes_few = (can_be x can).0

      pub sums_sound : Sound most_sum x
      sums_sound = (can_be x can).1

      pub tape-sound : (nat_abs s.shown ≤ most_sum) × (nat_abs s.unshown ≤ most_sum)
      tape-sound =
          let within_both = tape-within t accepted in (
            within_le most_sum s.shown (ap (λ (y : Reply Sums). within most_sum y.rest.shown) told ∙ within_both.0),
            within_le most_sum s.unshown (ap (λ (y : Reply Sums). within most_sum y.rest.unshown) told ∙ within_both.1),
          )

      -- the total with the tape
      pub total_with_lem : (a b : ℤ) → a ≡ x.shown +ℤ s.shown → b ≡ x.unshown +ℤ s.unshown
          → taken (Ok (record { shown = a; unshown = b; tapes = x.tapes + 1 })) ≡ take_in x t
      unfolding take_in total_with sum_tape
      total_with_lem a b e f =
          (λ i. record { number = 0; place = 0; rest = record { shown = e i; unshown = f i; tapes = add-one x.tapes i } })
          ∙ (λ i. record { number = 0; place = 0; rest = with x (told i).rest })
          ∙ (ends (sums_of t) (numbered t) (cannot_be x)).2 accepted can
