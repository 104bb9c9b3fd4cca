-- The parts of a word, walked from dot to dot. Assumes nothing.
use Prim.Native.Nat.{ℕ, zero, suc, ◌+◌, ◌-◌, ◌≤◌, ◌<◌}
use native.Mathlib.Omega.{arith}
use mathlib.Core.Path.{◌≡◌, refl, sym, ◌∙◌, ap}
use mathlib.Core.Bool.{Bool, true, false}
use mathlib.Core.List.{List, [], ◌∷◌}
use lib.Dec.{ltb}
use lib.ListN.{length, get_or, take, drop, drop_of_length-le}
use lib.Seq.{drop-cons}
use borrow.Author.Tests.{ltb-true, ltb-false, le-leb, lt-leb, eq-eqb, ne_eqb}
use Rattle.grammar.specs.Text.{dot}
use Rattle.grammar.specs.Reader.{onto, parts}
use Rattle.names.specs.Word.{parts_from, PartEnds}

-- ---- the parts of a text by its first byte
parts-dot : (b : ℕ) (bs : List ℕ) → b ≡ dot → parts (b ∷ bs) ≡ [] ∷ parts bs
unfolding parts
parts-dot b bs e = rw (eq-eqb b dot e, parts) refl

parts_other : (b : ℕ) (bs : List ℕ) → (b ≡ dot → ⊥) → parts (b ∷ bs) ≡ onto b (parts bs)
unfolding parts
parts_other b bs ne = rw (ne_eqb b dot ne, parts) refl

-- ---- the parts from a place on
pub from-within : (w : List ℕ) (p : ℕ) → p ≤ length w → parts_from p w ≡ parts (drop p w)
unfolding parts_from
from-within w p le = rw (le-leb p (length w) le, parts_from) refl

pub from_past : (w : List ℕ) (p : ℕ) → length w < p → parts_from p w ≡ []
unfolding parts_from
from_past w p lt = rw (lt-leb p (length w) lt, parts_from) refl

module _ (w : List ℕ) where
  -- at the end of the word one more, which is empty
  from_end : (p : ℕ) → p ≡ length w → parts_from p w ≡ [] ∷ parts_from (suc p) w
  unfolding parts
  from_end p e =
      from-within w p (omega arith) ∙ ap parts (drop_of_length-le w {i = p} (omega arith)) ∙ ap (λ ps. [] ∷ ps) (sym (from_past w (suc p) (omega arith)))

  from-dot : (p : ℕ) → p < length w → get_or w p 0 ≡ dot → parts_from p w ≡ [] ∷ parts_from (suc p) w
  from-dot p lt e =
      from-within w p (omega arith)
      ∙ ap parts (drop-cons w p 0 lt)
      ∙ parts-dot (get_or w p 0) (drop (suc p) w) e
      ∙ ap (λ ps. [] ∷ ps) (sym (from-within w (suc p) lt))

  from_other : (p : ℕ) → p < length w → (get_or w p 0 ≡ dot → ⊥) → parts_from p w ≡ onto (get_or w p 0) (parts_from (suc p) w)
  from_other p lt ne =
      from-within w p (omega arith)
      ∙ ap parts (drop-cons w p 0 lt)
      ∙ parts_other (get_or w p 0) (drop (suc p) w) ne
      ∙ ap (onto (get_or w p 0)) (sym (from-within w (suc p) lt))

  -- Where a dot stands at byte q, or the word ends there, an empty part ends there.
  pub ends_here : (q : ℕ) → q ≤ length w → (q < length w → get_or w q 0 ≡ dot) → parts_from q w ≡ [] ∷ parts_from (suc q) w
  ends_here q le e = go (ltb q (length w)) refl
    where
      go : (b : Bool) → ltb q (length w) ≡ b → parts_from q w ≡ [] ∷ parts_from (suc q) w
      go true t = let lt = ltb-true q (length w) t in from-dot q lt (e lt)
      go false t = from_end q (omega (arith, ltb-false q (length w) t))

  -- The bytes before it that are no dots are the part's.
  ends_after : (n p q : ℕ) → p + n ≡ q → q ≤ length w → ((j : ℕ) → p ≤ j → j < q → get_or w j 0 ≡ dot → ⊥)
      → parts_from q w ≡ [] ∷ parts_from (suc q) w → parts_from p w ≡ take n (drop p w) ∷ parts_from (suc q) w
  ends_after zero p q e le ne here = ap (λ i. parts_from i w) (omega arith) ∙ here
  ends_after (suc n) p q e le ne here =
      let lt : p < length w = omega arith in
      from_other p lt (ne p (omega arith) (omega arith))
      ∙ ap (onto (get_or w p 0)) (ends_after n (suc p) q (omega arith) le (λ j l. ne j (omega arith)) here)
      ∙ ap (λ l. take (suc n) l ∷ parts_from (suc q) w) (sym (drop-cons w p 0 lt))

  pub part_ends : (p q : ℕ) → p ≤ q → q ≤ length w → ((j : ℕ) → p ≤ j → j < q → get_or w j 0 ≡ dot → ⊥) → (q < length w → get_or w q 0 ≡ dot)
      → PartEnds w p q
  part_ends p q le most ne e = record {
    begins = le;
    within = most;
    first = ends_after (q - p) p q (omega arith) most ne (ends_here q most e);
  }
