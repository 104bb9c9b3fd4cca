-- The walk that numbers the types of a shape's entries. Assumes nothing.
use Prim.Native.Nat.{ℕ, suc, ◌+◌, ◌≤◌, ◌<◌}
use native.Mathlib.Numerals.{add-one}
use native.Mathlib.Omega.{arith}
use mathlib.Core.Path.{◌≡◌, refl, sym, ◌∙◌, ap, ap₂, subst}
use mathlib.Core.Logic.{⊎_elim}
use mathlib.Core.Bool.{Bool, true, false, not, false≢true}
use mathlib.Core.List.{List, map}
use lib.Dec.{ltb}
use lib.ListN.{length, get_or, take, drop, set}
use borrow.Author.Tests.{lt-ltb, le-ltb}
use lib.Seq.{get_or-set_same, get_or-set_other}
use Rattle.paper.specs.Lists.{Has, any, place, first_place, same}
use Rattle.paper.specs.Format.{Format, entry_bytes, byte, words, whole}
use Rattle.paper.specs.Tables.{type_number}
use Rattle.paper.specs.Calls.{refused, refuse_at}
use Rattle.paper.specs.Shapes.{Entry, entry_of, entries, named}
use Rattle.paper.proofs.Lists.{same_eq, same_self, any_has, has_any}
use Rattle.paper.proofs.Tables.{number_at}
use Rattle.paper.proofs.Calls.{count_entries}
use Rattle.tables.proofs.Rows.{rec}
use Rattle.types.proofs.Step.{below}
use Rattle.types.proofs.Listed.{at_drop}
use Rattle.shapes.proofs.Entries.{entry, entries_from_lem, entries_end}
use Rattle.shapes.proofs.Down.{number-none}
use Rattle.types.specs.Types.{Told}
use Rattle.shapes.specs.EntryTypes.{Numbers, TypesAre}

-- the number of the labels that are read from entry i is that of the type that it names
pub read_numbers : (f : Format) (s parents labels : List ℕ) (count i : ℕ) (b : List ℕ) (size k : ℕ) → b ≡ rec (entry_bytes f) i s → size ≡ byte b 1
    → Numbers parents labels count (take size (words f.levels b 4)) k → Numbers parents labels count (named (entry f s i)) k
unfolding entry_of
read_numbers f s parents labels count i b size k eb ez num ts told =
    num ts told ∙ ap₂ (λ z c. type_number ts (take z (words f.levels c 4))) (ez ∙ ap (λ c. byte c 1) eb) eb

-- ---- numbers and places
-- a number below the count is a listed type's
number_any : (ts : List (List ℕ)) (v : List ℕ) → type_number ts v < length ts → any (same v) ts ≡ true
number_any ts v lt = go (any (same v) ts) refl
  where
    go : (b : Bool) → any (same v) ts ≡ b → any (same v) ts ≡ true
    go true e = e
    go false e =
        let z : ⊥ = omega (arith, number-none ts v (λ h. false≢true (sym e ∙ has_any (same v) v ts h (same_self v)))) in absurd z

-- the count is no listed type's number
number-not : (ts : List (List ℕ)) (v : List ℕ) → length ts ≤ type_number ts v → any (same v) ts ≡ false
number-not ts v le = go (any (same v) ts) refl
  where
    go : (b : Bool) → any (same v) ts ≡ b → any (same v) ts ≡ false
    go true e =
        let (x, h, q) = any_has (same v) ts e in
        let z : ⊥ = omega (arith, (number_at v ts (subst (λ u. Has u ts) (sym (same_eq v x q)) h)).0) in absurd z
    go false e = e

-- ---- the walk: entries before i have their numbers, and from i on the first whose type is missing is the shape's
module _ (f : Format) (s parents labels : List ℕ) (count : ℕ) where
  abbrev missing : List (List ℕ) → Entry → Bool
  missing ts e = not (any (same (named e)) ts)

  abbrev number : List (List ℕ) → Entry → ℕ
  number ts e = type_number ts (named e)

  abbrev pub Numbered : ℕ → List ℕ → Type 0
  Numbered i ks = (ts : List (List ℕ)) → Told ts parents labels count
      → (place (missing ts) (entries f s) ≡ i + place (missing ts) (drop i (entries f s)))
      × ((j : ℕ) → j < i → (get_or ks j 0 ≡ get_or (map (number ts) (entries f s)) j 0) × (get_or ks j 0 < count))

  module _ (i : ℕ) (ks : List ℕ) (num : Numbered i ks) (lt : i < whole (entry_bytes f) s) (k : ℕ) (is : Numbers parents labels count (named (entry f s i)) k) where
    pub numbered_step : i < length ks → k < count → Numbered (i + 1) (set ks i k)
    numbered_step room lk ts told =
        let here : missing ts (entry f s i) ≡ false = ap not (number_any ts (named (entry f s i)) (omega (arith, is ts told, told.count-is))) in
        let past : place (missing ts) (drop i (entries f s)) ≡ suc (place (missing ts) (drop (suc i) (entries f s))) =
        ap (place (missing ts)) (entries_from_lem f s i lt) ∙ rw (here, place) refl in
        let next : place (missing ts) (drop (i + 1) (entries f s)) ≡ place (missing ts) (drop (suc i) (entries f s)) =
        ap (λ m. place (missing ts) (drop m (entries f s))) (add-one i) in
        (omega (arith, (num ts told).0), λ j lj. ⊎_elim (earlier j) (own j) (below j i lj))
      where
        earlier : (j : ℕ) → j < i → (get_or (set ks i k) j 0 ≡ get_or (map (number ts) (entries f s)) j 0) × (get_or (set ks i k) j 0 < count)
        earlier j lj =
            let e = get_or-set_other ks i j k 0 (λ e. omega (arith, e)) in
            let (is_number, known) = (num ts told).1 j lj in (e ∙ is_number, omega (arith, e))

        own : (j : ℕ) → j ≡ i → (get_or (set ks i k) j 0 ≡ get_or (map (number ts) (entries f s)) j 0) × (get_or (set ks i k) j 0 < count)
        own j e =
            let here = ap (λ m. get_or (set ks i k) m 0) e ∙ get_or-set_same ks i k 0 room in
            (here ∙ is ts told ∙ sym (ap (λ m. get_or (map (number ts) (entries f s)) m 0) e ∙ at_drop (number ts) 0 (entries f s) i (entry f s i) (drop (suc i) (entries f s)) (entries_from_lem f s i lt)), omega (arith, here))

    pub numbered_stop : count ≤ k → (ts : List (List ℕ)) → Told ts parents labels count → refuse_at 7 (first_place (missing ts) (entries f s)) ≡ refused 7 i
    numbered_stop le ts told =
        let here : missing ts (entry f s i) ≡ true = ap not (number-not ts (named (entry f s i)) (omega (arith, is ts told, told.count-is))) in
        let at : place (missing ts) (drop i (entries f s)) ≡ 0 = ap (place (missing ts)) (entries_from_lem f s i lt) ∙ rw (here, place) refl in
        let first : place (missing ts) (entries f s) ≡ i = omega (arith, (num ts told).0) in
        let inside : ltb (place (missing ts) (entries f s)) (length (entries f s)) ≡ true =
        lt-ltb (place (missing ts) (entries f s)) (length (entries f s)) (omega (arith, count_entries f s)) in
        rw (inside, first, first_place) refl

  pub numbered_end : (i : ℕ) (ks : List ℕ) → Numbered i ks → (n : ℕ) → n ≡ whole (entry_bytes f) s → i ≡ n
      → (ts : List (List ℕ)) → Told ts parents labels count → TypesAre ts (entries f s) n ks
  numbered_end i ks num n e q ts told =
      let at : place (missing ts) (drop i (entries f s)) ≡ 0 =
      ap (place (missing ts)) (entries_end f s i (omega arith)) in
      record {
        none_missing = rw (le-ltb (place (missing ts) (entries f s)) (length (entries f s)) (omega (arith, count_entries f s, (num ts told).0)), first_place) refl;
        type_is = λ j lj. ((num ts told).1 j (omega arith)).0;
        known = λ j lj. omega (arith, ((num ts told).1 j (omega arith)).1, told.count-is);
      }
