-- The records of entries, one after the other, and the shape that they are. Assumes nothing.
use Prim.Native.Nat.{ℕ, suc, ◌+◌, ◌*◌, ◌≤◌, ◌<◌}
use native.Mathlib.Nat.{mul-add, mul-one}
use native.Mathlib.Numerals.{add-one}
use native.Mathlib.Omega.{arith}
use mathlib.Core.Path.{◌≡◌, refl, sym, ◌∙◌, ap, ap₂}
use mathlib.Core.Logic.{inl, inr}
use mathlib.Core.Bool.{Bool, true, false}
use mathlib.Core.List.{List, [], ◌∷◌, ◌++◌, map}
use lib.Dec.{eqb}
use lib.ListN.{length, get_or, take, drop, length-take, drop_of_length-le}
use lib.Seq.{sets, drop-cons, get_or-take, length-take-le}
use borrow.Author.Tests.{eqb-true, eqb-false}
use Rattle.paper.specs.Lists.{Has, keep, place, first_or}
use Rattle.paper.specs.Format.{Format, most_types, entry_bytes}
use Rattle.paper.proofs.Lists.{get_d_has}
use Rattle.octets.proofs.Writing.{Writing, part_written, all_written}
use Rattle.grammar.specs.Typed.{Wanted, matches, matched, entry_back, shape_back}
use Rattle.grammar.proofs.Fitting.{entry-size}
use Rattle.typed.specs.Matching.{sole_number, Listed}
use Rattle.typed.specs.Entries.{Within, EntryIs, entries_back, EntriesPut}
use Rattle.typed.proofs.Soles.{place_here, place-later, keep_here, keep-later, sole_one, sole_none}

-- ---- records
module _ (f : Format) (ts : List (List ℕ)) where
  -- the first of the records that are left, and the rest
  next_entry : (ls ks : List ℕ) (e : ℕ) → e < length ls → e < length ks
      → entries_back f ts (drop e ls) (drop e ks) ≡ entry_back f (get_or ls e 0) (get_or ts (get_or ks e 0) []) ++ entries_back f ts (drop (suc e) ls) (drop (suc e) ks)
  unfolding entries_back
  next_entry ls ks e a b = ap₂ (entries_back f ts) (drop-cons ls e 0 a) (drop-cons ks e 0 b)

  no_entry : (ks : List ℕ) → entries_back f ts [] ks ≡ []
  unfolding entries_back
  no_entry ks = refl

-- ---- the walk
module _ (f : Format) (parents labels : List ℕ) (count : ℕ) (levels types : List ℕ) (entries w : ℕ) (before : List ℕ) where
  -- the records from e on are still to be put
  abbrev pub Putting : List ℕ → ℕ → Type 0
  Putting new e = (ts : List (List ℕ)) → Listed ts parents labels count → Within f ts
      → Writing before 0 (entries_back f ts (take entries levels) (take entries types)) new (w * e)
      (entries_back f ts (drop e (take entries levels)) (drop e (take entries types)))

  module _ (new : List ℕ) (e : ℕ) (p : Putting new e) where
    pub putting_on : w ≡ entry_bytes f → e < entries → entries ≤ length levels → entries ≤ length types → get_or types e 0 < count → (r : List ℕ)
        → EntryIs f parents labels count (get_or levels e 0) (get_or types e 0) r → {new' : List ℕ} → new' ≡ sets new (w * e) (take w r) → Putting new' (e + 1)
    putting_on ew lt ll lt' known r is {new'} en ts listed within =
        let k = get_or types e 0 in
        let ls = take entries levels in
        let ks = take entries types in
        let v = get_or ts k [] in
        let own : take w r ≡ entry_back f (get_or levels e 0) v =
        ap (λ n. take n r) ew ∙ is ts listed (within v (get_d_has [] ts k (omega (arith, listed.told.count-is)))) in
        let next : entries_back f ts (drop e ls) (drop e ks) ≡ take w r ++ entries_back f ts (drop (e + 1) ls) (drop (e + 1) ks) =
        next_entry f ts ls ks e (omega (arith, length-take-le entries levels ll)) (omega (arith, length-take-le entries types lt'))
        ∙ ap₂ (λ l n. entry_back f l (get_or ts n []) ++ entries_back f ts (drop (suc e) ls) (drop (suc e) ks)) (get_or-take entries levels e 0 lt)
        (get_or-take entries types e 0 lt)
        ∙ ap₂ (λ l n. l ++ entries_back f ts (drop n ls) (drop n ks)) (sym own) (sym (add-one e)) in
        part_written (p ts listed within) (take w r) (entries_back f ts (drop (e + 1) ls) (drop (e + 1) ks)) next new' en (w * (e + 1))
        (omega (arith, ap length own, entry-size f (get_or levels e 0) v, mul-add w e 1, mul-one w))

    pub putting_end : entries ≤ e → EntriesPut f levels types entries parents labels count before new
    putting_end le ts listed within =
        all_written (p ts listed within)
        (ap (λ l. entries_back f ts l (drop e (take entries types))) (drop_of_length-le (take entries levels) {i = e} (omega (arith, length-take entries levels)))
        ∙ no_entry f ts (drop e (take entries types)))

-- ---- the shape
-- the first that is kept stands at the place of the first that passes
first_kept : {A : Type 0} (p : A → Bool) (d : A) (xs : List A) → first_or d (keep p xs) ≡ get_or xs (place p xs) d
first_kept p d [] = refl
first_kept p d (x ∷ xs) = go (p x) refl (first_kept p d xs)
  where
    go : (b : Bool) → p x ≡ b → first_or d (keep p xs) ≡ get_or xs (place p xs) d → first_or d (keep p (x ∷ xs)) ≡ get_or (x ∷ xs) (place p (x ∷ xs)) d
    go true e ih = ap (first_or d) (keep_here p x xs e) ∙ sym (ap (λ n. get_or (x ∷ xs) n d) (place_here p x xs e))
    go false e ih = ap (first_or d) (keep-later p x xs e) ∙ ih ∙ sym (ap (λ n. get_or (x ∷ xs) n d) (place-later p x xs e))

-- where one is kept, its place is in the list
pub kept_place : {A : Type 0} (p : A → Bool) (xs : List A) → 0 < length (keep p xs) → place p xs < length xs
kept_place p [] lt = lt
kept_place p (x ∷ xs) lt = go (p x) refl (kept_place p xs)
  where
    go : (b : Bool) → p x ≡ b → (0 < length (keep p xs) → place p xs < length xs) → place p (x ∷ xs) < length (x ∷ xs)
    go true e ih = omega (arith, place_here p x xs e)
    go false e ih = omega (arith, place-later p x xs e, ih (omega (arith, ap length (keep-later p x xs e))))

module _ (ts : List (List ℕ)) (few : length ts ≤ most_types) where
  -- that type is the one
  sole_type : (e : Wanted) → sole_number ts e.name < length ts → get_or ts (sole_number ts e.name) [] ≡ first_or [] (matched ts e)
  unfolding matched
  sole_type e lt = go (eqb (length (keep (matches e.name) ts)) 1) refl
    where
      go : (b : Bool) → eqb (length (keep (matches e.name) ts)) 1 ≡ b → get_or ts (sole_number ts e.name) [] ≡ first_or [] (keep (matches e.name) ts)
      go true q =
          ap (λ n. get_or ts n []) (sole_one ts e.name (eqb-true (length (keep (matches e.name) ts)) 1 q)) ∙ sym (first_kept (matches e.name) [] ts)
      go false q = let z : ⊥ = omega (arith, sole_none ts e.name (eqb-false (length (keep (matches e.name) ts)) 1 q)) in absurd z

  -- The records of entries whose names match one type each are the shape.
  pub shape_back_lem : (f : Format) (es : List Wanted) → ((e : Wanted) → Has e es → sole_number ts e.name < length ts)
      → entries_back f ts (map (λ (e : Wanted). e.level) es) (map (λ (e : Wanted). sole_number ts e.name) es) ≡ shape_back f ts es
  unfolding entries_back shape_back
  shape_back_lem f [] known = refl
  shape_back_lem f (e ∷ es) known =
      ap₂ (λ v l. entry_back f e.level v ++ l) (sole_type e (known e (inl refl))) (shape_back_lem f es (λ x h. known x (inr h)))
