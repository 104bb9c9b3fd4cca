-- An array of 16 that is a list and zeros behind it. Assumes nothing.
use Prim.Native.Nat.{ℕ, zero, suc, ◌+◌, ◌-◌, ◌≤◌, ◌<◌}
use native.Mathlib.Nat.{not-suc-le-zero, le_of_suc-le-suc, zero-add}
use native.Mathlib.Omega.{arith}
use mathlib.Core.Path.{◌≡◌, refl, sym, ◌∙◌, ap}
use mathlib.Core.Bool.{Bool, true, false}
use mathlib.Core.List.{List, ◌++◌, map}
use lib.Dec.{leb}
use lib.ListN.{length, get_or, replicate, get_or-replicate, length-map, get_or-append}
use lib.Seq.{get_or-take, get_or-append-add, ext_get_or}
use borrow.Author.Tests.{leb-true, leb-false}
use Rattle.paper.specs.Lists.{count, padded}
use Rattle.paper.proofs.Reread.{length-padded}

length-count : (i m : ℕ) → length (count i m) ≡ m
length-count i zero = refl
length-count i (suc m) = ap suc (length-count (suc i) m)

count_at : (g : ℕ → ℕ) (i m e : ℕ) → e < m → get_or (map g (count i m)) e 0 ≡ g (i + e)
count_at g i zero e lt = absurd (not-suc-le-zero lt)
count_at g i (suc m) zero lt = ap g (omega arith)
count_at g i (suc m) (suc e) lt = count_at g (suc i) m e (le_of_suc-le-suc lt) ∙ ap g (omega arith)

module _ (g : ℕ → ℕ) (m : ℕ) where
  abbrev figures : List ℕ
  figures = map g (count 0 m)

  many : length figures ≡ m
  many = length-map (count 0 m) g ∙ length-count 0 m

  within : (e : ℕ) → e < m → e < 16 → get_or (padded 16 figures) e 0 ≡ g e
  within e le lt =
      get_or-take 16 (figures ++ replicate 16 0) e 0 lt ∙ get_or-append figures (replicate 16 0) 0 e (omega (arith, many)) ∙ count_at g 0 m e le ∙ ap g (zero-add e)

  past : (e : ℕ) → m ≤ e → e < 16 → get_or (padded 16 figures) e 0 ≡ 0
  past e le lt =
      let q : e ≡ length figures + (e - m) = omega (arith, many) in
      get_or-take 16 (figures ++ replicate 16 0) e 0 lt ∙ ap (λ i. get_or (figures ++ replicate 16 0) i 0) q ∙ get_or-append-add figures (replicate 16 0) (e - m) 0
      ∙ get_or-replicate 16 (e - m) 0 0 (omega arith)

-- an array that holds what g says at the first m places and zeros past them
pub padded-by : (xs : List ℕ) (g : ℕ → ℕ) (m : ℕ) → length xs ≡ 16 → m ≤ 16 → ((e : ℕ) → e < m → get_or xs e 0 ≡ g e)
    → ((e : ℕ) → m ≤ e → e < 16 → get_or xs e 0 ≡ 0) → xs ≡ padded 16 (map g (count 0 m))
padded-by xs g m long few held rest =
    ext_get_or 0 xs (padded 16 (map g (count 0 m))) (long ∙ sym (length-padded 16 (map g (count 0 m)))) (λ e lt. place e (omega arith) (leb m e) refl)
  where
    place : (e : ℕ) → e < 16 → (b : Bool) → leb m e ≡ b → get_or xs e 0 ≡ get_or (padded 16 (map g (count 0 m))) e 0
    place e lt true q = rest e (leb-true m e q) lt ∙ sym (past g m e (leb-true m e q) lt)
    place e lt false q = held e (leb-false m e q) ∙ sym (within g m e (leb-false m e q) lt)
