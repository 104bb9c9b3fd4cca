-- Which names begin with a vowel. Assumes nothing.
use Prim.Native.Nat.{ℕ, zero, suc, ◌+◌, ◌/◌, ◌%◌, ◌≤◌, ◌<◌}
use native.Mathlib.Omega.{arith}
use mathlib.Core.Path.{◌≡◌, refl, sym, ◌∙◌, ap, ap₂}
use mathlib.Core.Bool.{Bool, true, false, not, ◌||◌}
use mathlib.Core.List.{List, [], ◌∷◌, ◌++◌}
use lib.Dec.{eqb, ltb}
use lib.ListN.{get_or}
use borrow.Author.Tests.{eq-eqb, ne_eqb, eqb-true, eqb-false, ltb-true, not-true}
use Rattle.std.specs.List.{list_any}
use Rattle.paper.specs.Lists.{any, first_or, count}
use Rattle.paper.proofs.Lists.{all-has, has-count}
use Rattle.grammar.specs.Text.{ascii, digit, digits_in, decimal}
use Rattle.grammar.specs.Names.{named, name_of, name_text}
use Rattle.names.proofs.Naming.{has_name}
use Rattle.screens.specs.Screens.{vowel, article}

-- A wrong definition is refused first by the sample that it breaks, so the samples stand before the laws.

-- ---- a byte
-- A comparison may be turned around.
turned : (x y : ℕ) → eqb x y ≡ eqb y x
turned x y = go (eqb x y) refl
  where
    go : (t : Bool) → eqb x y ≡ t → eqb x y ≡ eqb y x
    go true e = e ∙ sym (eq-eqb y x (sym (eqb-true x y e)))
    go false e = e ∙ sym (ne_eqb y x (λ q. eqb-false x y e (sym q)))

-- What is found among some bytes is one of them.
found : (b : ℕ) (ks : List ℕ) → list_any (λ k. eqb k b) ks ≡ any (eqb b) ks
found b [] = refl
found b (k ∷ ks) = ap₂ (λ s t. s || t) (turned k b) (found b ks)

-- Among the five it is a vowel.
pub among_vowels : (b : ℕ) (r : Bool) → r ≡ list_any (λ k. eqb k b) (ascii "aeiou") → r ≡ vowel b
unfolding vowel
among_vowels b r e = e ∙ found b (ascii "aeiou")

-- ---- a number
-- the text begins with a digit
data Figure : List ℕ → Type 0 where
  figure : (d : ℕ) {rest : List ℕ} → d < 10 → Figure (digit d ∷ rest)

-- So does a longer one.
longer : {a : List ℕ} (b : List ℕ) → Figure a → Figure (a ++ b)
longer b (figure d lt) = figure d lt

-- A number's digits begin with one.
digits_figure : (f n : ℕ) → n ≤ f → Figure (digits_in f n)
unfolding digits_in
digits_figure zero n le = figure n (omega arith)
digits_figure (suc f) n le = by_test (ltb n 10) refl (digits_figure f (n / 10) (omega arith))
  where
    by_test : (b : Bool) → ltb n 10 ≡ b → Figure (digits_in f (n / 10))
        → Figure (elim b [ true ↦ digit n ∷ [] | false ↦ digits_in f (n / 10) ++ (digit (n % 10) ∷ []) ])
    by_test true e h = figure n (omega (arith, ltb-true))
    by_test false e h = longer (digit (n % 10) ∷ []) h

-- the digit is no vowel
plain : ℕ → Bool
plain d = not (vowel (digit d))

-- No digit is one.
digit_no_vowel : (d : ℕ) → d < 10 → vowel (digit d) ≡ false
unfolding vowel plain
digit_no_vowel d lt = not-true (vowel (digit d)) (all-has plain d (count 0 10) refl (has-count 0 10 d (omega arith) (omega arith)))

-- So a text that begins with a digit begins with no vowel.
figure_no_vowel : {t : List ℕ} → Figure t → vowel (first_or 0 t) ≡ false
figure_no_vowel (figure d lt) = digit_no_vowel d lt

-- Nor does a label that prints as a number.
pub number-first : (l : ℕ) → decimal l ≡ name_text l → false ≡ vowel (first_or 0 (name_text l))
unfolding decimal
number-first l e = sym (figure_no_vowel (digits_figure l l (omega arith))) ∙ ap (λ t. vowel (first_or 0 t)) e

-- ---- a name
-- A text begins with its byte 0.
first_byte : (text : List ℕ) → get_or text 0 0 ≡ first_or 0 text
first_byte [] = refl
first_byte (x ∷ xs) = refl

-- A label that has a name begins with a vowel where what is held for the name does.
pub name_first : (l k : ℕ) (held : List ℕ) → l ≡ k + 1 → k < named → held ≡ name_of k → vowel (get_or held 0 0) ≡ vowel (first_or 0 (name_text l))
name_first l k held e lt is = ap vowel (first_byte held ∙ ap (first_or 0) (is ∙ has_name l k e (omega arith)))

-- ---- the article
module _ (name : List ℕ) (b : Bool) (is : b ≡ vowel (first_or 0 name)) where
  pub article_an : b ≡ true → ascii "an" ≡ article name
  unfolding article
  article_an e = let first : vowel (first_or 0 name) ≡ true = sym is ∙ e in rw (first, article) refl

  pub article_a : b ≡ false → ascii "a" ≡ article name
  unfolding article
  article_a e = let first : vowel (first_or 0 name) ≡ false = sym is ∙ e in rw (first, article) refl
