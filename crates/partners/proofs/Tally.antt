-- How many numbers pass a test. Assumes nothing.
use Prim.Native.Nat.{ℕ, zero, suc, ◌+◌, ◌≤◌, ◌<◌, zero-le}
use native.Mathlib.Nat.{not-suc-le-zero}
use native.Mathlib.Omega.{arith}
use mathlib.Core.Path.{◌≡◌, refl, sym, ◌∙◌, ap, ap₂}
use mathlib.Core.Logic.{⊎_elim}
use mathlib.Core.Bool.{Bool, true, false}
use mathlib.Core.List.{List, []}
use lib.ListN.{length}
use Rattle.paper.specs.Lists.{keep, count}
use Rattle.paper.proofs.Kept.{put_if}
use Rattle.types.proofs.Step.{below}

-- 1 for yes
abbrev pub one : Bool → ℕ
one b = elim b [ true ↦ 1 | false ↦ 0 ]

-- how many of the first n numbers pass
abbrev pub tally : (ℕ → Bool) → ℕ → ℕ
tally p zero = 0
tally p (suc n) = tally p n + one (p n)

one_le : (b : Bool) → one b ≤ 1
one_le true = omega arith
one_le false = omega arith

put_length : (b : Bool) (x : ℕ) (xs : List ℕ) → length (put_if b x xs) ≡ one b + length xs
put_length true x xs = omega arith
put_length false x xs = omega arith

module _ (p : ℕ → Bool) where
  keep-more : (i n : ℕ) → length (keep p (count i (suc n))) ≡ length (keep p (count i n)) + one (p (i + n))
  keep-more i zero = let e : i + 0 ≡ i = omega arith in omega (arith, put_length (p i) i [], ap (λ j. one (p j)) e)
  keep-more i (suc n) =
      let e : suc i + n ≡ i + suc n = omega arith in
      omega (
        arith,
        put_length (p i) i (keep p (count (suc i) (suc n))),
        put_length (p i) i (keep p (count (suc i) n)),
        keep-more (suc i) n,
        ap (λ j. one (p j)) e,
      )

  pub keep_tally : (n : ℕ) → length (keep p (count 0 n)) ≡ tally p n
  keep_tally zero = refl
  keep_tally (suc n) = let e : 0 + n ≡ n = omega arith in omega (arith, keep-more 0 n, keep_tally n, ap (λ j. one (p j)) e)

  pub tally_le : (n : ℕ) → tally p n ≤ n
  tally_le zero = zero-le
  tally_le (suc n) = omega (arith, tally_le n, one_le (p n))

  -- none more, where none of the others passes
  pub tally_cut : (n m : ℕ) → n ≤ m → ((j : ℕ) → n ≤ j → j < m → p j ≡ false) → tally p m ≡ tally p n
  tally_cut n zero le none = let e : 0 ≡ n = omega arith in ap (tally p) e
  tally_cut n (suc m) le none = ⊎_elim
      (λ lt. omega (arith, tally_cut n m (omega arith) (λ j a b. none j a (omega arith)), ap one (none m (omega arith) (omega arith))))
      (λ e. ap (tally p) (sym e)) (below n (suc m) (omega arith))

  pub tally_has : (n : ℕ) → 0 < tally p n → (j : ℕ) × (j < n) × (p j ≡ true)
  tally_has zero pos = absurd (not-suc-le-zero pos)
  tally_has (suc n) pos = go (p n) refl (tally_has n)
    where
      go : (b : Bool) → p n ≡ b → (0 < tally p n → (j : ℕ) × (j < n) × (p j ≡ true)) → (j : ℕ) × (j < suc n) × (p j ≡ true)
      go true e ih = (n, omega arith, e)
      go false e ih = let (j, lt, q) = ih (omega (arith, ap one e)) in (j, omega arith, q)

  pub has_tally : (n j : ℕ) → j < n → p j ≡ true → 0 < tally p n
  has_tally zero j lt e = absurd (not-suc-le-zero lt)
  has_tally (suc n) j lt e = ⊎_elim (λ a. omega (arith, has_tally n j (omega arith) e)) (λ q. omega (arith, ap one (sym (ap p q) ∙ e)))
      (below j n (omega arith))

pub tally_same : (p q : ℕ → Bool) (n : ℕ) → ((j : ℕ) → j < n → p j ≡ q j) → tally p n ≡ tally q n
tally_same p q zero e = refl
tally_same p q (suc n) e = ap₂ (λ x b. x + one b) (tally_same p q n (λ j lt. e j (omega arith))) (e n (omega arith))
