-- The word that stands at a place of a text. Assumes nothing.
use Prim.Native.Nat.{ℕ, suc, ◌+◌, ◌-◌, ◌≤◌, ◌<◌}
use native.Mathlib.Numerals.{add-one}
use native.Mathlib.Omega.{arith}
use mathlib.Core.Path.{◌≡◌, refl, sym, ◌∙◌, ap}
use mathlib.Core.Bool.{Bool, true, false, not, ◌&&◌, ◌||◌}
use mathlib.Core.List.{List, [], ◌∷◌}
use borrow.Author.Tests.{ne_eqb}
use lib.Dec.{eqb}
use lib.ListN.{length, get_or, take, drop, length-take}
use lib.Seq.{drop-cons}
use Rattle.grammar.specs.Text.{space}
use Rattle.paper.specs.Lists.{place}
use Rattle.grammar.specs.Grammar.{open_byte, close_byte, plain, run}
use Rattle.grammar.proofs.Tokens.{run-plain}

pub plain_byte : (b : ℕ) → (b ≡ space → ⊥) → (b ≡ open_byte → ⊥) → (b ≡ close_byte → ⊥) → plain b ≡ true
plain_byte b no-space no_open no-close = λ i. not (ne_eqb b space no-space i) && not (ne_eqb b open_byte no_open i || ne_eqb b close_byte no-close i)

-- A byte above the brackets is plain.
pub plain_above : (b : ℕ) → close_byte < b → plain b ≡ true
plain_above b above = plain_byte b (λ e. omega (arith, above, e)) (λ e. omega (arith, above, e)) (λ e. omega (arith, above, e))

pub run_on : (text : List ℕ) (p : ℕ) → p < length text → plain (get_or text p 0) ≡ true → length (run (drop p text)) ≡ suc (length (run (drop (p + 1) text)))
run_on text p lt e =
    ap (λ bs. length (run bs)) (drop-cons text p 0 lt) ∙ ap length (run-plain (get_or text p 0) (drop (suc p) text) e)
    ∙ ap (λ q. suc (length (run (drop q text)))) (sym (add-one p))

-- a byte that no word holds
abbrev pub bounds : ℕ → Bool
bounds b = eqb b space || eqb b open_byte || eqb b close_byte

-- The word ends at the first of those.
pub run_ends : (bs : List ℕ) → length (run bs) ≡ place bounds bs
run_ends [] = refl
run_ends (b ∷ bs) = go (eqb b space) (eqb b open_byte) (eqb b close_byte) (run_ends bs)
  where
    go : (s o c : Bool) → length (run bs) ≡ place bounds bs → length (elim (not s && not (o || c)) as (λ _. List ℕ) [ true ↦ b ∷ run bs | false ↦ [] ])
        ≡ elim (s || o || c) as (λ _. ℕ) [ true ↦ 0 | false ↦ suc (place bounds bs) ]
    go true o c ih = refl
    go false true c ih = refl
    go false false true ih = refl
    go false false false ih = ap suc ih

take-run : (bs : List ℕ) → take (length (run bs)) bs ≡ run bs
take-run [] = refl
take-run (b ∷ bs) = go (plain b) (take-run bs)
  where
    run_by : Bool → List ℕ
    run_by t = elim t [ true ↦ b ∷ run bs | false ↦ [] ]

    go : (t : Bool) → take (length (run bs)) bs ≡ run bs → take (length (run_by t)) (b ∷ bs) ≡ run_by t
    go true ih = ap {B = List ℕ} (λ r. b ∷ r) ih
    go false ih = refl

-- The bytes from a word's first to its end are the word.
pub word_bytes : (text : List ℕ) (p e : ℕ) → e ≡ p + length (run (drop p text)) → take (e - p) (drop p text) ≡ run (drop p text)
word_bytes text p e ends =
    let size : e - p ≡ length (run (drop p text)) = omega (arith, ends) in
    ap (λ n. take n (drop p text)) size ∙ take-run (drop p text)

pub run_short : (bs : List ℕ) → length (run bs) ≤ length bs
run_short bs = omega (arith, ap length (take-run bs), length-take (length (run bs)) bs)
