-- The walk over the types that finds the one that a name matches. Assumes nothing.
use Prim.Native.Nat.{ℕ, suc, ◌+◌, ◌≤◌, ◌<◌}
use native.Mathlib.Numerals.{add-one}
use native.Mathlib.Omega.{arith}
use mathlib.Core.Path.{◌≡◌, refl, sym, ◌∙◌, ap, ap₂}
use mathlib.Core.Logic.{◌⊎◌, inl, inr, ⊎_elim}
use mathlib.Core.Bool.{Bool, true, false}
use mathlib.Core.List.{List, [], ◌∷◌}
use lib.ListN.{length, get_or, take, drop, drop_of_length-le}
use lib.Seq.{drop-cons, take_all}
use borrow.Author.Tests.{eq-eqb, ne_eqb}
use Rattle.paper.specs.Lists.{Has, keep, place}
use Rattle.paper.specs.Format.{most_types}
use Rattle.grammar.specs.Grammar.{Name}
use Rattle.grammar.specs.Typed.{matches}
use Rattle.names.specs.Word.{Holds}
use Rattle.names.specs.declared.word.Word.{Word}
use Rattle.types.specs.Types.{Told}
use Rattle.typed.specs.Matching.{sole_number, Ends, Sole}
use Rattle.typed.proofs.Suffix.{name_with, matches_short}

-- ---- one that passes a test, in any list
module _ {A : Type 0} (p : A → Bool) where
  pub place_here : (x : A) (xs : List A) → p x ≡ true → place p (x ∷ xs) ≡ 0
  place_here x xs e = rw (e, place) refl

  pub place-later : (x : A) (xs : List A) → p x ≡ false → place p (x ∷ xs) ≡ suc (place p xs)
  place-later x xs e = rw (e, place) refl

  pub keep_here : (x : A) (xs : List A) → p x ≡ true → keep p (x ∷ xs) ≡ x ∷ keep p xs
  keep_here x xs e = rw (e, keep) refl

  pub keep-later : (x : A) (xs : List A) → p x ≡ false → keep p (x ∷ xs) ≡ keep p xs
  keep-later x xs e = rw (e, keep) refl

  -- where none passes, none is kept
  pub keep-none : (xs : List A) → ((x : A) → Has x xs → p x ≡ false) → keep p xs ≡ []
  keep-none [] none = refl
  keep-none (x ∷ xs) none = keep-later x xs (none x (inl refl)) ∙ keep-none xs (λ y h. none y (inr h))

  -- Before element k none passes, and `found` says so, or one does, and it is `found`.
  abbrev pub Sought : List A → ℕ → ℕ → Type 0
  Sought xs found k =
      ((found ≡ most_types) × (place p xs ≡ k + place p (drop k xs)) × (length (keep p xs) ≡ length (keep p (drop k xs))))
      ⊎ ((found < most_types) × (place p xs ≡ found) × (length (keep p xs) ≡ suc (length (keep p (drop k xs)))))

  module _ (xs : List A) (found k : ℕ) (s : Sought xs found k) where
    module _ (x : A) (next : drop k xs ≡ x ∷ drop (suc k) xs) where
      after : drop (k + 1) xs ≡ drop (suc k) xs
      after = ap (λ n. drop n xs) (add-one k)

      -- the next element does not pass
      pub sought_past : p x ≡ false → Sought xs found (k + 1)
      sought_past e =
          let pl : place p (drop k xs) ≡ suc (place p (drop (k + 1) xs)) =
          ap (place p) next ∙ place-later x (drop (suc k) xs) e ∙ ap (λ l. suc (place p l)) (sym after) in
          let kl : length (keep p (drop k xs)) ≡ length (keep p (drop (k + 1) xs)) =
          ap (λ l. length (keep p l)) next ∙ ap length (keep-later x (drop (suc k) xs) e) ∙ ap (λ l. length (keep p l)) (sym after) in
          ⊎_elim (λ t. inl (t.0, omega (arith, t.1), t.2 ∙ kl)) (λ t. inr (t.0, t.1, t.2 ∙ ap suc kl)) s

      -- it passes
      one_more : p x ≡ true → length (keep p (drop k xs)) ≡ suc (length (keep p (drop (k + 1) xs)))
      one_more e = ap (λ l. length (keep p l)) next ∙ ap length (keep_here x (drop (suc k) xs) e) ∙ ap (λ l. suc (length (keep p l))) (sym after)

      pub sought_here : p x ≡ true → most_types ≤ found → k < most_types → Sought xs k (k + 1)
      sought_here e none lt =
          ⊎_elim (λ t. inr (lt, omega (arith, t.1, ap (place p) next ∙ place_here x (drop (suc k) xs) e), t.2 ∙ one_more e))
          (λ t. let z : ⊥ = omega (arith, t.0) in absurd z) s

      pub sought_twice : p x ≡ true → found < most_types → length (keep p xs) ≡ 1 → ⊥
      sought_twice e some one = ⊎_elim (λ t. omega (arith, t.0)) (λ t. omega (arith, t.2, one_more e)) s

    -- no element is left
    pub sought_end : drop k xs ≡ [] → ((found ≡ most_types) × (length (keep p xs) ≡ 0)) ⊎ ((found ≡ place p xs) × (length (keep p xs) ≡ 1))
    sought_end done =
        let kl : length (keep p (drop k xs)) ≡ 0 = ap (λ l. length (keep p l)) done in
        ⊎_elim (λ t. inl (t.0, t.2 ∙ kl)) (λ t. inr (sym t.1, t.2 ∙ ap suc kl)) s

-- ---- the number of the one type that a name matches
module _ (ts : List (List ℕ)) (n : Name) where
  pub sole_one : length (keep (matches n) ts) ≡ 1 → sole_number ts n ≡ place (matches n) ts
  unfolding sole_number
  sole_one e = rw (eq-eqb (length (keep (matches n) ts)) 1 e, sole_number) refl

  pub sole_none : (length (keep (matches n) ts) ≡ 1 → ⊥) → sole_number ts n ≡ most_types
  unfolding sole_number
  sole_none ne = rw (ne_eqb (length (keep (matches n) ts)) 1 ne, sole_number) refl

-- ---- the walk
-- a name of which all labels are kept
pub held_name : (r : Word) (n : Name) → Holds r n → r.size ≤ 8 → n ≡ name_with r.whole (take r.size r.labels)
held_name r n h le =
    let all : take 8 n.labels ≡ n.labels = take_all 8 n.labels (omega (arith, h.size_is)) in
    ap₂ name_with (sym h.whole_is) (sym (h.labels_are ∙ all))

module _ (parents labels : List ℕ) (count : ℕ) (n : Name) where
  -- whatever types are listed, those before type k are looked at
  abbrev pub Seeking : ℕ → ℕ → Type 0
  Seeking found k = (ts : List (List ℕ)) → Told ts parents labels count → Sought (matches n) ts found k

  module _ (found k : ℕ) (s : Seeking found k) where
    module _ (lt : k < count) where
      next : (ts : List (List ℕ)) → Told ts parents labels count → drop k ts ≡ get_or ts k [] ∷ drop (suc k) ts
      next ts told = drop-cons ts k [] (omega (arith, told.count-is))

      pub seeking_past : Ends parents labels count n k false → Seeking found (k + 1)
      seeking_past e ts told = sought_past (matches n) ts found k (s ts told) (get_or ts k []) (next ts told) (sym (e ts told))

      pub seeking_here : Ends parents labels count n k true → most_types ≤ found → Seeking k (k + 1)
      seeking_here e none ts told =
          sought_here (matches n) ts found k (s ts told) (get_or ts k []) (next ts told) (sym (e ts told)) none (omega (arith, told.few))

      pub seeking_twice : Ends parents labels count n k true → found < most_types → Sole parents labels count n most_types
      seeking_twice e some ts listed =
          sym (sole_none ts n (sought_twice (matches n) ts found k (s ts listed.told) (get_or ts k []) (next ts listed.told) (sym (e ts listed.told)) some))

    pub seeking_end : count ≤ k → Sole parents labels count n found
    seeking_end le ts listed =
        ⊎_elim (λ t. t.0 ∙ sym (sole_none ts n (λ e. omega (arith, e, t.1)))) (λ t. t.0 ∙ sym (sole_one ts n t.1))
        (sought_end (matches n) ts found k (s ts listed.told) (drop_of_length-le ts {i = k} (omega (arith, listed.told.count-is))))

  -- a name of more labels than any type has
  pub seeking_long : 8 < length n.labels → Sole parents labels count n most_types
  seeking_long lt ts listed =
      let none = keep-none (matches n) ts (λ v h. matches_short n.whole n.labels v (omega (arith, listed.short v h))) in
      sym (sole_none ts n (λ e. omega (arith, e, ap length none)))
