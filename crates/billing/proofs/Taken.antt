-- A tape that was handed to a total, and its line: its refusal, or what the total has grown by, which is what the tape adds by itself. Assumes nothing.
use Prim.Native.Nat.{ℕ, ◌*◌, ◌^◌, ◌≤◌, ◌<◌}
use native.Mathlib.Omega.{arith}
use mathlib.Core.Path.{◌≡◌, sym, ◌∙◌, ap, ap₂, subst}
use mathlib.Core.Bool.{Bool, true, false, not}
use mathlib.Core.List.{List}
use lib.Dec.{eqb}
use lib.IntN.{ℤ, nat_abs, ◌+ℤ◌, ◌-ℤ◌, +ℤ_comm, +ℤ-neg_ℤ_cancel}
use mir.Syntax.{w64}
use mir.Val.{SFits}
use mir.Facts.{to_z-of_z}
use borrow.Author.Tests.{eq-eqb, ne_eqb}
use Rattle.paper.specs.Calls.{Reply}
use Rattle.totals.specs.Tape.{Tape, Sums, sum_tape}
use Rattle.totals.specs.Total.{Total, most_tapes, most_sum, with, take_in}
use Rattle.totals.specs.Told.{taken}
use Rattle.std.specs.Prelude.{Ok, Err}
use Rattle.paper.specs.Refusals.{refusal_number, refusal_place}
use Rattle.paper.proofs.Refusals.{numbered}
use Rattle.totals.specs.declared.NotTaken.{NotTaken}
use Rattle.totals.proofs.Integers.{within_le, sfits}
use Rattle.totals.proofs.Taking.{taken_adds, can_be, grown}
use Rattle.totals.proofs.Tapes.{tape-within}
use Rattle.billing.specs.Billing.{counted_text, not_counted_text, tape_text}
use Rattle.billing.proofs.Signs.{held}

-- what a sum has grown by, as 64 bits hold it: it fits, and is what was added
abbrev pub Grows : ℤ → ℤ → ℤ → Type 0
Grows before after added = SFits w64 (held after -ℤ held before) × (held (held after -ℤ held before) ≡ added)

-- A sum over n tapes grows by what one more adds.
grows : (n : ℕ) → n < most_tapes → (a b c : ℤ) → nat_abs a ≤ n * most_sum → nat_abs b ≤ most_sum → c ≡ a +ℤ b → Grows a c b
grows n few a b c old new is = (fits, to_z-of_z {w = w64} fits ∙ difference)
  where
    is_held : (z : ℤ) → nat_abs z ≤ 2 ^ 62 → held z ≡ z
    is_held z h = to_z-of_z {w = w64} (sfits z h)

    difference : held c -ℤ held a ≡ b
    difference =
        ap₂ ◌-ℤ◌ (ap held is ∙ is_held (a +ℤ b) (omega (arith, grown most_sum n a b old new, few))) (is_held a (omega (arith, old, few)))
        ∙ ap (λ z. z -ℤ a) (+ℤ_comm a b)
        ∙ +ℤ-neg_ℤ_cancel b a

    fits : SFits w64 (held c -ℤ held a)
    fits = subst (SFits w64) (sym difference) (sfits b (omega (arith, new)))

-- ---- the line
-- the line by the answer and what the tape adds by itself
abbrev line_by : List ℕ → Reply Total → Sums → Bool → List ℕ
line_by name y s accepted = elim accepted [ true ↦ counted_text name s.shown s.unshown | false ↦ not_counted_text name y.number y.place ]

module _ (x : Total) (t : Tape) where
  pub refused_line : (n : NotTaken) → taken (Err n) ≡ take_in x t → (name : List ℕ)
      → not_counted_text name (refusal_number n.refusal) (refusal_place n.refusal) ≡ tape_text name x t
  unfolding tape_text
  refused_line n told name =
      ap (line_by name (taken (Err n)) (sum_tape t).rest) (sym (ne_eqb (refusal_number n.refusal) 0 (numbered n.refusal)))
      ∙ ap (λ y. line_by name y (sum_tape t).rest (eqb y.number 0)) told

  module _ (after : Total) (told : taken (Ok after) ≡ take_in x t) where
    pub accepted : (take_in x t).number ≡ 0
    accepted = sym (ap (λ y. y.number) told)

    after-is : after ≡ with x (sum_tape t).rest
    after-is = ap (λ y. y.rest) told ∙ (taken_adds x t accepted).2

    pub shown_grows : Grows x.shown after.shown (sum_tape t).rest.shown
    shown_grows =
        let (few, (old, _)) = can_be x (taken_adds x t accepted).1 in
        let new = within_le most_sum (sum_tape t).rest.shown (tape-within t (taken_adds x t accepted).0).0 in
        grows x.tapes few x.shown (sum_tape t).rest.shown after.shown old new (ap (λ y. y.shown) after-is)

    pub unshown_grows : Grows x.unshown after.unshown (sum_tape t).rest.unshown
    unshown_grows =
        let (few, (_, old)) = can_be x (taken_adds x t accepted).1 in
        let new = within_le most_sum (sum_tape t).rest.unshown (tape-within t (taken_adds x t accepted).0).1 in
        grows x.tapes few x.unshown (sum_tape t).rest.unshown after.unshown old new (ap (λ y. y.unshown) after-is)

    pub counted_line : (name : List ℕ)
        → counted_text name (held (held after.shown -ℤ held x.shown)) (held (held after.unshown -ℤ held x.unshown))
        ≡ tape_text name x t
    unfolding tape_text
    counted_line name =
        ap₂ (counted_text name) shown_grows.1 unshown_grows.1
        ∙ ap (line_by name (take_in x t) (sum_tape t).rest) (sym (eq-eqb (take_in x t).number 0 accepted))

  -- A tape is refused by its number, and the answer has the total afterwards.
  pub after_told : (after : Total) → taken (Ok after) ≡ take_in x t
      → (false ≡ not (eqb (take_in x t).number 0)) × (after ≡ (take_in x t).rest)
  after_told after told = (ap (λ y. not (eqb y.number 0)) told, ap (λ y. y.rest) told)

  pub refused_told : (n : NotTaken) → taken (Err n) ≡ take_in x t
      → (true ≡ not (eqb (take_in x t).number 0)) × (n.total ≡ (take_in x t).rest)
  refused_told n told =
      (ap not (sym (ne_eqb (refusal_number n.refusal) 0 (numbered n.refusal))) ∙ ap (λ y. not (eqb y.number 0)) told, ap (λ y. y.rest) told)
