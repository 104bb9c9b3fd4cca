-- A name is told by its first byte and its length. Assumes nothing.
use Prim.Native.Nat.{ℕ, ◌+◌, ◌*◌, ◌%◌, ◌≤◌, ◌<◌}
use native.Mathlib.Omega.{arith}
use mathlib.Core.Path.{◌≡◌, refl, sym, ◌∙◌, ap, ap₂}
use mathlib.Core.Bool.{Bool, true, false, true≢false}
use mathlib.Core.List.{List, [], ◌∷◌, map}
use lib.Dec.{eqb, leb, ltb}
use lib.ListN.{length, get_or}
use borrow.Author.Tests.{eqb-true, leb-true, lt-ltb}
use Rattle.std.specs.Prelude.{Option, unwrap_or}
use Rattle.std.specs.Bool.{then_some}
use Rattle.paper.specs.Lists.{first_or, place, count, same}
use Rattle.paper.proofs.Lists.{same_eq, eq_same}
use Rattle.grammar.specs.Names.{names, named, name_of}
use Rattle.grammar.proofs.LabelNames.{each_name}
use Rattle.names.specs.Word.{longest_name, Guessed, NamedBy}

-- where a first byte and a length stand in a table
abbrev pub sum : ℕ → ℕ → ℕ
sum first size = (first + 21 * size) % 64

-- at each place the name that stands there, 20 for none
unfoldable pub guesses : List ℕ
unfolding names
guesses = map (λ i. place (λ (w : List ℕ). eqb (sum (first_or 0 w) (length w)) i) names) (count 0 64)

found : ℕ → ℕ
unfolding names name_of guesses
found k = get_or guesses (sum (first_or 0 (name_of k)) (length (name_of k))) 0

found_right : (k : ℕ) → k < named → found k ≡ k
unfolding names name_of guesses found
found_right k lt = eqb-true (found k) k (each_name (λ k. eqb (found k) k) refl k lt)

-- no two names stand at one place, so each is found there
pub guessed_by : (first size r : ℕ) → r ≡ get_or guesses (sum first size) 0 → Guessed first size r
unfolding found
guessed_by first size r is k lt first-is size_is = is ∙ ap₂ (λ a b. get_or guesses (sum a b) 0) (sym first-is) (sym size_is) ∙ found_right k lt

-- what is found below the number of names is kept, and every name's place is below it
pub below_named : (first size r : ℕ) (o : Option ℕ) → Guessed first size r → o ≡ then_some (ltb r named) r → Guessed first size (unwrap_or o named)
below_named first size r o g e k lt first-is size_is =
    let is : r ≡ k = g k lt first-is size_is in
    rw (e ∙ ap (λ t. then_some t r) (lt-ltb r named (omega arith))) is

-- the first of a list
pub first_of_lem : (l : List ℕ) → get_or l 0 0 ≡ first_or 0 l
first_of_lem [] = refl
first_of_lem (x ∷ l) = refl

-- a name has a byte, and nine at the most
name_some : (k : ℕ) → k < named → 0 < length (name_of k)
unfolding names name_of
name_some k lt = leb-true 1 (length (name_of k)) (each_name (λ k. leb 1 (length (name_of k))) refl k lt)

name_most : (k : ℕ) → k < named → length (name_of k) ≤ longest_name
unfolding names name_of
name_most k lt = leb-true (length (name_of k)) longest_name (each_name (λ k. leb (length (name_of k)) longest_name) refl k lt)

-- ---- a part
module _ (part : List ℕ) where
  none_named : ((k : ℕ) → k < named → name_of k ≡ part → ⊥) → NamedBy part 0
  none_named no_name = record { few = omega arith; name_is = λ lt. absurd (let z : ⊥ = omega arith in z); name_none = λ _. no_name }

  pub empty_part : length part ≡ 0 → NamedBy part 0
  empty_part e = none_named (λ k lt q. let z : ⊥ = omega (arith, name_some k lt, ap length q, e) in z)

  pub long_part : 9 < length part → NamedBy part 0
  long_part lt = none_named (λ k l q. let z : ⊥ = omega (arith, name_most k l, ap length q, lt) in z)

  module _ (k : ℕ) (guessed : Guessed (first_or 0 part) (length part) k) where
    guess_right : (j : ℕ) → j < named → name_of j ≡ part → k ≡ j
    guess_right j lt q = guessed j lt (ap (first_or 0) q) (ap length q)

    pub other_part : same (name_of k) part ≡ false → NamedBy part 0
    other_part e =
        none_named (λ j lt q. true≢false (sym (eq_same (ap name_of (guess_right j lt q) ∙ q)) ∙ e))

    pub named_part : k < named → same (name_of k) part ≡ true → NamedBy part (k + 1)
    named_part lt e = record {
      few = omega arith;
      name_is = λ _. ap name_of (omega arith) ∙ same_eq (name_of k) part e;
      name_none = λ z. absurd (let n : ⊥ = omega (arith, z) in n);
    }

    pub guessed_part : k < named → (t : Bool) → t ≡ same (name_of k) part → (o : Option ℕ) → o ≡ then_some t (k + 1) → NamedBy part (unwrap_or o 0)
    guessed_part lt true is o e = rw e (named_part lt (sym is))
    guessed_part lt false is o e = rw e (other_part (sym is))
