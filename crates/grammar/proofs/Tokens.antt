-- The tokens of a text, from its first byte on: what a space, a bracket and a word give. Assumes nothing.
use Prim.Native.Nat.{ℕ, suc, ◌+◌}
use native.Mathlib.Omega.{arith}
use mathlib.Core.Path.{◌≡◌, refl, sym, ◌∙◌, ap, ap₂, subst}
use mathlib.Core.Bool.{Bool, true, false, not, ◌&&◌, ◌||◌, true≢false}
use mathlib.Core.List.{List, [], ◌∷◌}
use borrow.Author.Tests.{not-true}
use lib.Dec.{eqb}
use lib.ListN.{length, drop}
use Rattle.paper.proofs.Lists.{both}
use Rattle.grammar.specs.Text.{space}
use Rattle.grammar.specs.Grammar.{Token, opening, closing, word, open_byte, close_byte, bracket, plain, run, token_at, begins, Placed, tokens_from}

-- of the byte before, only whether it is plain matters
pub tokens_before : (a c : ℕ) → plain a ≡ plain c → (i : ℕ) (bs : List ℕ) → tokens_from a i bs ≡ tokens_from c i bs
unfolding tokens_from
tokens_before a c e i [] = refl
tokens_before a c e i (b ∷ bs) = rw (e, tokens_from) refl

pub tokens-space : (i : ℕ) (bs : List ℕ) → tokens_from space i (space ∷ bs) ≡ tokens_from space (suc i) bs
unfolding tokens_from
tokens-space i bs = refl

pub tokens_open : (i : ℕ) (bs : List ℕ)
    → tokens_from space i (open_byte ∷ bs) ≡ record { at = i; token = opening } ∷ tokens_from space (suc i) bs
unfolding tokens_from
tokens_open i bs = ap {B = List Placed} (λ ts. record { at = i; token = opening } ∷ ts) (tokens_before open_byte space refl (suc i) bs)

pub tokens_close : (i : ℕ) (bs : List ℕ)
    → tokens_from space i (close_byte ∷ bs) ≡ record { at = i; token = closing } ∷ tokens_from space (suc i) bs
unfolding tokens_from
tokens_close i bs = ap {B = List Placed} (λ ts. record { at = i; token = closing } ∷ ts) (tokens_before close_byte space refl (suc i) bs)

-- ---- words
-- a plain byte is no bracket
pub plain-bracket : (b : ℕ) → plain b ≡ true → bracket b ≡ false
plain-bracket b e = not-true (bracket b) (both (not (eqb b space)) (not (bracket b)) e).1

neither : (p q : Bool) → p || q ≡ false → (p ≡ false) × (q ≡ false)
neither true q e = absurd (true≢false e)
neither false q e = (refl, e)

-- a word begins at a plain byte, unless one such stands before it
begins-word : (a b : ℕ) → plain b ≡ true → begins a b ≡ not (plain a)
begins-word a b e = ap₂ (λ x y. x || (y && not (plain a))) (plain-bracket b e) e

-- before another byte it does not matter what stands
begins_other : (a c b : ℕ) → plain b ≡ false → begins a b ≡ begins c b
begins_other a c b e =
    ap (λ x. bracket b || (x && not (plain a))) e ∙ sym (ap (λ x. bracket b || (x && not (plain c))) e)

pub run-plain : (b : ℕ) (bs : List ℕ) → plain b ≡ true → run (b ∷ bs) ≡ b ∷ run bs
run-plain b bs e = ap {B = List ℕ} (λ x. elim x [ true ↦ b ∷ run bs | false ↦ [] ]) e

pub run_other : (b : ℕ) (bs : List ℕ) → plain b ≡ false → run (b ∷ bs) ≡ []
run_other b bs e = ap {B = List ℕ} (λ x. elim x [ true ↦ b ∷ run bs | false ↦ [] ]) e

word_at : (b : ℕ) (bs : List ℕ) → plain b ≡ true → token_at b bs ≡ word (run (b ∷ bs))
word_at b bs e =
    let none = neither (eqb b open_byte) (eqb b close_byte) (plain-bracket b e) in
    ap₂ {C = Token} (λ x y. elim x [ true ↦ opening | false ↦ elim y [ true ↦ closing | false ↦ word (run (b ∷ bs)) ] ]) none.0 none.1

-- where no token begins, the text goes on
tokens_on : (a i b : ℕ) (bs : List ℕ) → begins a b ≡ false → tokens_from a i (b ∷ bs) ≡ tokens_from b (suc i) bs
unfolding tokens_from
tokens_on a i b bs e = rw (e, tokens_from) refl

-- within a word, the next tokens are those behind its run
within_word : (b : ℕ) → plain b ≡ true → (i : ℕ) (bs : List ℕ)
    → tokens_from b i bs ≡ tokens_from space (i + length (run bs)) (drop (length (run bs)) bs)
unfolding tokens_from
within_word b e i [] = refl
within_word b e i (c ∷ bs) = go (plain c) refl (λ q. within_word c q (suc i) bs)
  where
    Behind : List ℕ → Type 0
    Behind r = tokens_from b i (c ∷ bs) ≡ tokens_from space (i + length r) (drop (length r) (c ∷ bs))

    go : (p : Bool) → plain c ≡ p → (plain c ≡ true → tokens_from c (suc i) bs ≡ tokens_from space (suc i + length (run bs)) (drop (length (run bs)) bs))
        → Behind (run (c ∷ bs))
    go true q rest =
        let place : suc i + length (run bs) ≡ i + suc (length (run bs)) = omega arith in
        subst Behind (sym (run-plain c bs q))
        (tokens_on b i c bs (begins-word b c q ∙ ap not e) ∙ rest q ∙ ap (λ n. tokens_from space n (drop (length (run bs)) bs)) place)
    go false q rest = subst Behind (sym (run_other c bs q)) (other ∙ ap (λ n. tokens_from space n (c ∷ bs)) (omega arith))
      where
        other : tokens_from b i (c ∷ bs) ≡ tokens_from space i (c ∷ bs)
        other = rw (begins_other b space c q, tokens_from) refl

pub tokens-word : (i b : ℕ) (bs : List ℕ) → plain b ≡ true
    → tokens_from space i (b ∷ bs)
    ≡ record { at = i; token = word (run (b ∷ bs)) } ∷ tokens_from space (i + length (run (b ∷ bs))) (drop (length (run (b ∷ bs))) (b ∷ bs))
unfolding tokens_from
tokens-word i b bs e =
    let rest : tokens_from b i (b ∷ bs) ≡ tokens_from b (suc i) bs = tokens_on b i b bs (begins-word b b e ∙ ap not e) in
    first ∙ ap₂ {C = List Placed} (λ t ts. record { at = i; token = t } ∷ ts) (word_at b bs e) (sym rest ∙ within_word b e i (b ∷ bs))
  where
    first : tokens_from space i (b ∷ bs) ≡ record { at = i; token = token_at b bs } ∷ tokens_from b (suc i) bs
    first = rw (begins-word space b e, tokens_from) refl
