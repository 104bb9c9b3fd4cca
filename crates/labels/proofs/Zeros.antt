-- The zeros past an entry's type are no labels: what is looked for in the records is looked for in the rows and the types. Assumes nothing.
use Prim.Native.Nat.{ℕ, zero, suc, ◌≤◌}
use mathlib.Core.Path.{◌≡◌, refl, sym, ◌∙◌, ap, ap₂}
use mathlib.Core.Bool.{Bool, true, false, not, ◌&&◌, ◌||◌}
use mathlib.Core.List.{List, [], ◌∷◌, ◌++◌, map}
use mathlib.Core.Option.{Option, none, some}
use lib.Dec.{eqb, leb}
use lib.ListN.{take, drop}
use borrow.Author.Tests.{eqb-true, leb-true}
use Rattle.paper.specs.Lists.{Has, all, any, place, first_place, join_map, between}
use Rattle.paper.specs.Format.{Format, head_bytes, row_bytes, entry_bytes, words, records, whole}
use Rattle.paper.specs.Tables.{Row, row_of, rows}
use Rattle.paper.specs.Shapes.{Entry, entry_of, entries, named, bad_entry}
use Rattle.paper.specs.Labels.{most_old, old_range, Pair, listed, taken, occurring, pair_kept, bad_pair_from, bad_pair, label_at}
use Rattle.paper.proofs.Lists.{both, or_none, has-map}
use Rattle.paper.proofs.Kept.{any_same, first-same}
use Rattle.paper.proofs.Shapes.{each_part}
use Rattle.tables.specs.Place.{place_of}
use Rattle.tables.proofs.Walks.{count-records}
use Rattle.labels.specs.Records.{standing}
use Rattle.labels.proofs.Standing.{any_append, any_join}

module _ (p : ℕ → Bool) (none-zero : p 0 ≡ false) where
  all-zeros : (xs : List ℕ) → all (eqb 0) xs ≡ true → any p xs ≡ false
  all-zeros [] h = refl
  all-zeros (x ∷ xs) h =
      let (z, zs) = both (eqb 0 x) (all (eqb 0) xs) h in
      ap₂ ◌||◌ (ap p (sym (eqb-true 0 x z)) ∙ none-zero) (all-zeros xs zs)

  past_zeros : (k : ℕ) (xs : List ℕ) → all (eqb 0) (drop k xs) ≡ true → any p (take k xs) ≡ any p xs
  past_zeros zero xs h = sym (all-zeros xs h)
  past_zeros (suc k) [] h = refl
  past_zeros (suc k) (x ∷ xs) h = ap (λ t. p x || t) (past_zeros k xs h)

  -- ---- a table and a sound shape
  module _ (f : Format) (b s : List ℕ) where
    abbrev row-records : List (List ℕ)
    row-records = records (row_bytes f) (whole (row_bytes f) b) b

    abbrev entry-records : List (List ℕ)
    entry-records = records (entry_bytes f) (whole (entry_bytes f) s) s

    row_any : (r : List ℕ) → p (row_of (old_range f) r).label ≡ any p (words 1 r label_at)
    unfolding row_of
    row_any r = sym (or_none _)

    pub rows-first : first_place (λ (r : Row). p r.label) (rows (old_range f) b)
        ≡ place_of (place (λ (r : List ℕ). any p (words 1 r label_at)) row-records) (whole (row_bytes f) b)
    unfolding rows place_of
    rows-first =
        first-same (λ (r : Row). p r.label) (λ (r : List ℕ). any p (words 1 r label_at)) (row_of (old_range f)) row-records (λ r _. row_any r)
        ∙ ap (place_of (place (λ (r : List ℕ). any p (words 1 r label_at)) row-records)) (count-records (row_bytes f) (whole (row_bytes f) b) b)

    module _ (sound : bad_entry (old_range f) (entries (old_range f) s) ≡ none) where
      entry_any : (r : List ℕ) → Has r entry-records → any p (named (entry_of (old_range f) r)) ≡ any p (words f.levels r head_bytes)
      unfolding entries entry_of
      entry_any r h =
          let e = entry_of (old_range f) r in
          past_zeros e.size e.labels
          (each_part (old_range f) (entries (old_range f) s) sound e (has-map (entry_of (old_range f)) r entry-records h)).1.zeros

      pub entries-first : first_place (λ (e : Entry). any p (named e)) (entries (old_range f) s)
          ≡ place_of (place (λ (r : List ℕ). any p (words f.levels r head_bytes)) entry-records) (whole (entry_bytes f) s)
      unfolding entries place_of
      entries-first =
          first-same (λ (e : Entry). any p (named e)) (λ (r : List ℕ). any p (words f.levels r head_bytes)) (entry_of (old_range f)) entry-records entry_any
          ∙ ap (place_of (place (λ (r : List ℕ). any p (words f.levels r head_bytes)) entry-records)) (count-records (entry_bytes f) (whole (entry_bytes f) s) s)

      pub occurring_any : any p (standing f b s) ≡ any p (occurring (rows (old_range f) b) (entries (old_range f) s))
      unfolding standing occurring rows entries
      occurring_any =
          let old = old_range f in
          any_append p (join_map (λ (r : List ℕ). words 1 r label_at) row-records) (join_map (λ (r : List ℕ). words f.levels r head_bytes) entry-records)
          ∙ ap₂ ◌||◌
          (any_join p (λ (r : List ℕ). words 1 r label_at) row-records
          ∙ sym (any_same p (λ (r : Row). p r.label) (λ (r : Row). r.label) (rows old b) (λ r _. refl)
          ∙ any_same (λ (r : Row). p r.label) (λ (r : List ℕ). any p (words 1 r label_at)) (row_of old) row-records (λ r _. row_any r)))
          (any_join p (λ (r : List ℕ). words f.levels r head_bytes) entry-records
          ∙ sym (any_join p named (entries old s)
          ∙ any_same (λ (e : Entry). any p (named e)) (λ (r : List ℕ). any p (words f.levels r head_bytes)) (entry_of old) entry-records entry_any))
          ∙ sym (any_append p (map (λ (r : Row). r.label) (rows old b)) (join_map named (entries old s)))

-- ---- the pairs
module _ (f : Format) (ls ms : List ℕ) (same : (x : ℕ) → 1 ≤ x → any (eqb x) ls ≡ any (eqb x) ms) where
  -- the rules, from what the second and the third find
  abbrev rules : List Pair → Pair → Bool → Bool → Bool
  rules before p mid known =
      between (suc f.labels) p.old most_old && mid && not known && not (listed before p.old) && not (taken before p.new)

  -- A new label of 0 breaks a rule before it is looked for.
  kept_same : (before : List Pair) (p : Pair) → pair_kept f ls before p ≡ pair_kept f ms before p
  unfolding pair_kept
  kept_same before p = go (leb 1 p.new) refl
    where
      broken : (a u v c d : Bool) → a && false && u && c && d ≡ a && false && v && c && d
      broken true u v c d = refl
      broken false u v c d = refl

      go : (t : Bool) → leb 1 p.new ≡ t → pair_kept f ls before p ≡ pair_kept f ms before p
      go true e = ap (rules before p (between 1 p.new f.labels)) (same p.new (leb-true 1 p.new e))
      go false e =
          let mid : between 1 p.new f.labels ≡ false = ap (λ t. t && leb p.new f.labels) e in
          ap (λ m. rules before p m (any (eqb p.new) ls)) mid
          ∙ broken (between (suc f.labels) p.old most_old) (not (any (eqb p.new) ls)) (not (any (eqb p.new) ms)) (not (listed before p.old))
          (not (taken before p.new))
          ∙ sym (ap (λ m. rules before p m (any (eqb p.new) ms)) mid)

  bad_from : (i : ℕ) (before ps : List Pair) → bad_pair_from f ls i before ps ≡ bad_pair_from f ms i before ps
  bad_from i before [] = refl
  bad_from i before (p ∷ ps) =
      ap₂ (λ (t : Bool) (o : Option ℕ). elim t as (λ _. Option ℕ) [ true ↦ o | false ↦ some i ]) (kept_same before p)
      (bad_from (suc i) (before ++ (p ∷ [])) ps)

  pub bad_same : (ps : List Pair) → bad_pair f ls ps ≡ bad_pair f ms ps
  unfolding bad_pair
  bad_same ps = bad_from 0 [] ps
