-- The record of an entry: the labels of its type are put from the last upwards. Assumes nothing.
use Prim.Native.Nat.{ℕ, zero, suc, ◌+◌, ◌*◌, ◌-◌, ◌≤◌, ◌<◌}
use native.Mathlib.Omega.{arith}
use mathlib.Core.Path.{◌≡◌, refl, sym, ◌∙◌, ap, subst}
use mathlib.Core.Logic.{inl}
use mathlib.Core.List.{List, [], ◌∷◌, ◌++◌}
use lib.ListN.{length, get_or, take, drop, set, replicate}
use lib.Seq.{sets, sets-eq, length-sets, drop-drop, take-append-add}
use Rattle.paper.specs.Lists.{join_map, padded, up}
use Rattle.paper.specs.Format.{Format, bytes, entry_bytes}
use Rattle.paper.proofs.Lists.{join_append}
use Rattle.paper.proofs.Kept.{padded_longer}
use Rattle.paper.proofs.Bytes.{length_numbers}
use Rattle.octets.specs.Served.{Served}
use Rattle.octets.proofs.Writing.{Writing, all_left, part_written, all_written, set_first}
use Rattle.grammar.specs.Typed.{entry_back}
use Rattle.typed.specs.Matching.{Listed}
use Rattle.typed.specs.Entries.{Sized, EntryIs}
use Rattle.typed.proofs.Upwards.{Stands, stands_split, stands_up, stands_length}

-- ---- what is put from the last upwards
-- What lies before other values may as well be written first.
sets_first : (a b l : List ℕ) (i j : ℕ) → i + length a ≤ j → sets (sets l j b) i a ≡ sets (sets l i a) j b
sets_first [] b l i j le = refl
sets_first (x ∷ a) b l i j le = ap (λ m. sets m (suc i) a) (set_first b l i j x (omega arith)) ∙ sets_first a b (set l i x) (suc i) j (omega arith)

-- The last part of what is left is written.
last_written : {l₀ : List ℕ} {at : ℕ} {vs l : List ℕ} {i : ℕ} {rest : List ℕ} → Writing l₀ at vs l i rest → (a b : List ℕ) → rest ≡ a ++ b
    → (l' : List ℕ) (j : ℕ) → j ≡ i + length a → l' ≡ sets l j b → Writing l₀ at vs l' i a
last_written {l = l} {i = i} w a b e l' j ej el = record {
  asked =
      ap (λ m. sets m i a) el
      ∙ sets_first a b l i j (omega (arith, ej))
      ∙ (part_written (all_left l i (a ++ b) i refl) a b refl (sets l i a) refl j ej).asked
      ∙ ap (sets l i) (sym e)
      ∙ w.asked;
  as_long = ap length el ∙ length-sets l j b ∙ w.as_long;
}

-- ---- the record
-- a record with no label yet
abbrev pub blank : ℕ → ℕ → List ℕ
blank level size = level ∷ size ∷ replicate 18 0

-- of zeros those for m labels
zeros : (n m t : ℕ) → n + 2 * m ≤ t → take (2 * m) (drop n (replicate t 0)) ≡ join_map (bytes 2) (replicate m 0)
zeros zero zero t le = refl
zeros zero (suc m) zero le = let z : ⊥ = omega arith in absurd z
zeros zero (suc m) (suc zero) le = let z : ⊥ = omega arith in absurd z
zeros zero (suc m) (suc (suc t)) le =
    let two : 2 * suc m ≡ suc (suc (2 * m)) = omega arith in
    ap (λ n. take n (replicate (suc (suc t)) 0)) two ∙ ap (λ (l : List ℕ). 0 ∷ 0 ∷ l) (zeros zero m t (omega arith))
zeros (suc n) m zero le = let z : ⊥ = omega arith in absurd z
zeros (suc n) m (suc t) le = zeros n m t (omega arith)

module _ (f : Format) (served : Served f) (level : ℕ) (v : List ℕ) (fits : length v ≤ f.levels) where
  -- the labels, and the zeros behind them
  labels_back : take (2 * f.levels) (join_map (bytes 2) v ++ drop (length (join_map (bytes 2) v)) (replicate 16 0)) ≡ join_map (bytes 2) (padded f.levels v)
  labels_back =
      let w = join_map (bytes 2) v in
      let m = f.levels - length v in
      let long = length_numbers v in
      let all : 2 * f.levels ≡ length w + 2 * m = omega arith in
      let levels : f.levels ≡ length v + m = omega arith in
      ap (λ n. take n (w ++ drop (length w) (replicate 16 0))) all
      ∙ take-append-add w (drop (length w) (replicate 16 0)) (2 * m)
      ∙ ap (λ l. w ++ l) (zeros (length w) m 16 (omega (arith, served.shallow)))
      ∙ sym (join_append (bytes 2) v (replicate m 0))
      ∙ sym (ap (λ n. join_map (bytes 2) (padded n v)) levels ∙ ap (join_map (bytes 2)) (padded_longer (length v) m v refl))

  pub record_back : take (entry_bytes f) (sets (blank level (length v)) 4 (join_map (bytes 2) v)) ≡ entry_back f level v
  unfolding entry_back
  record_back =
      let w = join_map (bytes 2) v in
      let head = level ∷ length v ∷ 0 ∷ 0 ∷ [] in
      let long = length_numbers v in
      ap (take (entry_bytes f)) (sets-eq w (blank level (length v)) 4 (omega (arith, served.shallow)))
      ∙ ap (λ l. take (entry_bytes f) (head ++ w ++ l)) (sym (drop-drop (length w) 4 (blank level (length v))))
      ∙ take-append-add head (w ++ drop (length w) (replicate 16 0)) (2 * f.levels)
      ∙ ap (λ l. head ++ l) labels_back

-- ---- the walk
module _ (parents labels : List ℕ) (count level k : ℕ) where
  -- The first j labels are still to be put, those of type q.
  abbrev pub Filling : List ℕ → ℕ → ℕ → Type 0
  Filling r q j = (ts : List (List ℕ)) → Listed ts parents labels count
      → (v : List ℕ)
      × Stands ts count q v
      × (length v ≡ j)
      × Writing (blank level (length (get_or ts k []))) 4 (join_map (bytes 2) (get_or ts k [])) r 4 (join_map (bytes 2) v)

  pub filling_start : (size : ℕ) → Sized parents count k size → k < count → Filling (blank level size) k size
  filling_start size is lt ts listed =
      let v = get_or ts k [] in
      let w = join_map (bytes 2) v in
      let e = is ts labels listed in (
        v,
        inl (lt, refl),
        sym e,
        subst (λ n. Writing (blank level (length v)) 4 w (blank level n) 4 w) (sym e) (all_left (blank level (length v)) 4 w 4 refl),
      )

  module _ (r : List ℕ) (q j : ℕ) (c : Filling r q j) where
    pub filling_up : q < count → {p : ℕ} → p ≡ get_or parents q 0 → {r' : List ℕ} → r' ≡ sets r (4 + 2 * (j - 1)) (bytes 2 (get_or labels q 0))
        → Filling r' p (j - 1)
    filling_up lt ep {r'} er ts listed =
        let told = listed.told in
        let (v, s, long, w) = c ts listed in
        let split = ap (join_map (bytes 2)) (stands_split ts parents labels count told q v s lt) ∙ join_append (bytes 2) (up v) (get_or labels q 0 ∷ []) in
        let less = stands_length ts parents labels count told q v s lt in (
          up v,
          subst (λ n. Stands ts count n (up v)) (sym ep) (stands_up ts parents labels count told q v s lt),
          omega (arith, less, long),
          last_written w (join_map (bytes 2) (up v)) (bytes 2 (get_or labels q 0)) split r' (4 + 2 * (j - 1)) (omega (arith, length_numbers (up v), less, long)) er,
        )

    pub filling_end : j ≡ 0 → (f : Format) → Served f → EntryIs f parents labels count level k r
    filling_end done f served ts listed fits =
        let (v, s, long, w) = c ts listed in
        ap (take (entry_bytes f)) (all_written w (none v (long ∙ done))) ∙ record_back f served level (get_or ts k []) fits
      where
        none : (v : List ℕ) → length v ≡ 0 → join_map (bytes 2) v ≡ []
        none [] e = refl
        none (x ∷ v) e = let z : ⊥ = omega (arith, e) in absurd z
