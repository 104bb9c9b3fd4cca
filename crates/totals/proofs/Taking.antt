-- One tape taken in: what becomes of the number and of the total, and which totals can be one. Assumes nothing.
use Prim.Native.Nat.{ℕ, suc, ◌*◌, ◌≤◌, ◌<◌}
use native.Mathlib.Omega.{arith}
use mathlib.Core.Path.{◌≡◌, refl, ◌∙◌, ap, ap₂}
use mathlib.Core.Bool.{Bool, true, false, not, ◌||◌, true≢false}
use lib.Dec.{leb}
use lib.IntN.{ℤ, nat_abs, ◌+ℤ◌}
use borrow.Author.Tests.{leb-false, le-leb}
use Rattle.paper.specs.Calls.{Answer, refused, given, ◌>>=◌, refuse, Reply, reply}
use Rattle.totals.specs.Sums.{within}
use Rattle.totals.specs.Tape.{Tape, Sums, no_sums, sums_of, sum_tape}
use Rattle.totals.specs.Total.{Total, most_tapes, most_sum, cannot_be, with, total_with, take_in}
use Rattle.totals.proofs.Integers.{within_le, le_within, size_sum}
use Rattle.totals.proofs.Refusals.{Numbered, numbered, is_numbered}

-- how taking in ends, by what the tape adds and whether the total cannot be one
abbrev pub ending : Total → Answer Sums → Bool → Reply Total
ending x a full = reply x (a >>= (λ s. refuse 18 full >>= (λ _. given (with x s))))

-- A refused tape leaves the total as it was.
pub refused_changes_nothing : (x : Total) (t : Tape) → ((take_in x t).number ≡ 0 → ⊥) → (take_in x t).rest ≡ x
unfolding take_in total_with
refused_changes_nothing x t = go (sums_of t) (cannot_be x)
  where
    go : (a : Answer Sums) (full : Bool) → ((ending x a full).number ≡ 0 → ⊥) → (ending x a full).rest ≡ x
    go (refused k p) full ne = refl
    go (given s) true ne = refl
    go (given s) false ne = absurd (ne refl)

-- A tape that is taken in is accepted by itself, the total can be one, and both sums of the tape are added.
pub taken_adds : (x : Total) (t : Tape) → (take_in x t).number ≡ 0
    → ((sum_tape t).number ≡ 0) × (cannot_be x ≡ false) × ((take_in x t).rest ≡ with x (sum_tape t).rest)
unfolding take_in total_with sum_tape
taken_adds x t = go (sums_of t) (cannot_be x) (numbered t)
  where
    go : (a : Answer Sums) (full : Bool) → Numbered a → (ending x a full).number ≡ 0
        → ((reply no_sums a).number ≡ 0) × (full ≡ false) × ((ending x a full).rest ≡ with x (reply no_sums a).rest)
    go (refused k p) full n e = let z : ⊥ = omega (arith, is_numbered k n) in absurd z
    go (given s) true n e = let z : ⊥ = omega arith in absurd z
    go (given s) false n e = (refl, refl, refl)

-- A total that can be one refuses what the tape by itself refuses, and nothing else.
pub number-alone : (x : Total) (t : Tape) → cannot_be x ≡ false → (take_in x t).number ≡ (sum_tape t).number
unfolding take_in total_with sum_tape
number-alone x t e = ap (λ full. (ending x (sums_of t) full).number) e ∙ go (sums_of t)
  where
    go : (a : Answer Sums) → (ending x a false).number ≡ (reply no_sums a).number
    go (refused k p) = refl
    go (given s) = refl

-- A total that cannot be one is refused with 18, for a tape that is accepted by itself.
pub number_18 : (x : Total) (t : Tape) → cannot_be x ≡ true → (sum_tape t).number ≡ 0 → (take_in x t).number ≡ 18
unfolding take_in total_with sum_tape
number_18 x t e alone = ap (λ full. (ending x (sums_of t) full).number) e ∙ go (sums_of t) (numbered t) alone
  where
    go : (a : Answer Sums) → Numbered a → (reply no_sums a).number ≡ 0 → (ending x a true).number ≡ 18
    go (refused k p) n e = let z : ⊥ = omega (arith, is_numbered k n) in absurd z
    go (given s) n e = refl

-- A tape by itself is never refused with 18.
pub never_18_alone : (t : Tape) → (sum_tape t).number ≡ 18 → ⊥
unfolding sum_tape
never_18_alone t = go (sums_of t) (numbered t)
  where
    go : (a : Answer Sums) → Numbered a → (reply no_sums a).number ≡ 18 → ⊥
    go (refused k p) n e = omega (arith, is_numbered k n)
    go (given s) n e = omega arith

-- ---- which totals can be one
-- No tape is added to a full total.
pub full_cannot_be : (x : Total) → x.tapes ≡ most_tapes → cannot_be x ≡ true
unfolding cannot_be
full_cannot_be x e =
    ap (λ full. full || not (within (x.tapes * most_sum) x.shown) || not (within (x.tapes * most_sum) x.unshown))
    (le-leb most_tapes x.tapes (omega (arith, e)))

-- both sums are within what so many tapes of size m can add up to
abbrev pub Sound : ℕ → Total → Type 0
Sound m x = (nat_abs x.shown ≤ x.tapes * m) × (nat_abs x.unshown ≤ x.tapes * m)

-- Such a total cannot be one only if it is full.
pub cannot_be_lem : (x : Total) → Sound most_sum x → cannot_be x ≡ leb most_tapes x.tapes
unfolding cannot_be
cannot_be_lem x (s, u) =
    ap₂ (λ p q. leb most_tapes x.tapes || not p || not q)
    (le_within (x.tapes * most_sum) x.shown s) (le_within (x.tapes * most_sum) x.unshown u)
    ∙ or_none (leb most_tapes x.tapes)
  where
    or_none : (b : Bool) → b || false || false ≡ b
    or_none true = refl
    or_none false = refl

-- With one figure of size m more, the sum is within one m more.
pub grown : (m n : ℕ) (a b : ℤ) → nat_abs a ≤ n * m → nat_abs b ≤ m → nat_abs (a +ℤ b) ≤ suc n * m
grown m n a b old new = omega (arith, size_sum a b)

-- A total that can be one has room for a tape, and sums that so many tapes can add up to.
pub can_be : (x : Total) → cannot_be x ≡ false → (x.tapes < most_tapes) × Sound most_sum x
unfolding cannot_be
can_be x = go (leb most_tapes x.tapes) (within (x.tapes * most_sum) x.shown) (within (x.tapes * most_sum) x.unshown) refl refl refl
  where
    go : (full s u : Bool) → leb most_tapes x.tapes ≡ full → within (x.tapes * most_sum) x.shown ≡ s
        → within (x.tapes * most_sum) x.unshown ≡ u → full || not s || not u ≡ false → (x.tapes < most_tapes) × Sound most_sum x
    go true s u f e d z = absurd (true≢false z)
    go false false u f e d z = absurd (true≢false z)
    go false true false f e d z = absurd (true≢false z)
    go false true true f e d z = (
      leb-false most_tapes x.tapes f,
      (within_le (x.tapes * most_sum) x.shown e, within_le (x.tapes * most_sum) x.unshown d),
    )
