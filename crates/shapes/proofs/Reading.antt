-- The reading of a shape's entries one after the other: what the arrays hold before entry i. Assumes nothing.
use Prim.Native.Nat.{ℕ, ◌+◌, ◌*◌, ◌-◌, ◌≤◌, ◌<◌}
use native.Mathlib.Omega.{arith}
use mathlib.Core.Path.{◌≡◌, refl, sym, ◌∙◌, ap, ap₂}
use mathlib.Core.Bool.{Bool, true, false}
use mathlib.Core.List.{List}
use mathlib.Core.Option.{none}
use lib.Dec.{ltb}
use lib.ListN.{length, get_or, set, length-set}
use lib.Seq.{get_or-set_same, get_or-set_other}
use borrow.Author.Count.{below_more}
use borrow.Author.Tests.{ltb-true, ltb-false}
use Rattle.paper.specs.Lists.{last_or, up}
use Rattle.paper.specs.Format.{Format, head_bytes, entry_bytes, byte, words, whole, most_entries}
use Rattle.paper.specs.Shapes.{entries, bad_entry, way, parent}
use Rattle.tables.proofs.Rows.{rec}
use Rattle.shapes.specs.Ways.{way_places, way_at, Put, Laid}
use Rattle.shapes.proofs.Places.{way_place, way_by, later}
use Rattle.shapes.proofs.Entries.{entry-size}
use Rattle.shapes.proofs.Fields.{shape, level-is, label_is, way_long, level_fits, first-level, way_last, way_above}

-- the arrays hold the entries before i
pub record Read (f : Format) (s : List ℕ) (i : ℕ) (levels labels parents ways : List ℕ) : Type 0 where
  pub laid : Laid (shape f s) i (record { levels = levels; labels = labels; parents = parents }) ways
  pub levels_long : length levels ≡ most_entries
  pub labels_long : length labels ≡ most_entries
  pub parents_long : length parents ≡ most_entries
  pub ways_long : length ways ≡ way_places * most_entries

-- what the reading of a shape of so many entries asks for
abbrev pub Asked : Format → List ℕ → ℕ → Type 0
Asked f s n =
    ((n ≡ whole (entry_bytes f) s) × (n ≤ most_entries) × (f.levels ≤ way_places)) × (bad_entry f (entries f s) ≡ none)

-- one element more is written
write_more : (g : ℕ → ℕ) (l : List ℕ) (i v : ℕ) → i < length l → ((e : ℕ) → e < i → get_or l e 0 ≡ g e) → v ≡ g i
    → (e : ℕ) → e < i + 1 → get_or (set l i v) e 0 ≡ g e
write_more g l i v lt old new =
    below_more (λ e. get_or (set l i v) e 0 ≡ g e) i (λ e le. get_or-set_other l i e v 0 (λ q. omega arith) ∙ old e le)
    (get_or-set_same l i v 0 lt ∙ new)

-- the bytes b of entry i are read
module _ (f : Format) (s : List ℕ) (n : ℕ) (asked : Asked f s n) (i : ℕ) (lt : i < n) (b : List ℕ) (eb : b ≡ rec (entry_bytes f) i s) where
  sound : bad_entry f (entries f s) ≡ none
  sound = asked.1

  inside : i < whole (entry_bytes f) s
  inside = omega (arith, asked.0.0)

  own_byte : (k : ℕ) → byte b k ≡ byte (rec (entry_bytes f) i s) k
  own_byte k = ap (λ x. byte x k) eb

  pub size-read : (z : ℕ) → z ≡ byte b 1 → (1 ≤ z) × (z ≤ f.levels)
  size-read z ez =
      let (lo, hi) = entry-size f s i inside sound in
      let e = own_byte 1 in
      (omega arith, omega arith)

  module _ (l : ℕ) (el : l ≡ byte b 0) where
    level : l ≡ get_or (shape f s).levels i 0
    level = el ∙ own_byte 0 ∙ sym (level-is f s sound i inside)

    pub level-read : (i < most_entries) × (1 ≤ l) × (l ≤ way_places) × (i ≡ 0 → l ≡ 1)
    level-read =
        let (lo, hi) = level_fits f s sound i inside in
        let e = own_byte 0 in
        let (count, few, deep) = asked.0 in
        (omega arith, omega arith, omega arith, λ z. el ∙ e ∙ first-level f s sound i inside z)

    module _ (levels labels parents ws : List ℕ) (read : Read f s i levels labels parents ws) (after : List ℕ) (put : Put ws i l after)
        (long : length after ≡ way_places * most_entries) where
      -- the ways before it stay
      old_way : (e : ℕ) → e < i → way_at after e (get_or (shape f s).levels e 0) ≡ way (shape f s) e
      old_way e le =
          let (m, hi) = way_long f s sound e (omega (arith, inside)) in
          let d = get_or (shape f s).levels e 0 in
          let deep = asked.0.2 in
          way_by after e d (omega (arith, level-read.0)) (way (shape f s) e) m
          (λ k lk. put.kept (way_places * e + k) (omega arith) ∙ sym (way_place ws e d k lk) ∙ ap (λ v. get_or v k 0) (read.laid.way_is e le))

      new_place : (k : ℕ) → k < l → get_or after (way_places * i + k) 0 ≡ get_or (way (shape f s) i) k 0
      new_place k lk = go (ltb (k + 1) l) refl
        where
          e : l ≡ byte (rec (entry_bytes f) i s) 0
          e = el ∙ own_byte 0

          go : (t : Bool) → ltb (k + 1) l ≡ t → get_or after (way_places * i + k) 0 ≡ get_or (way (shape f s) i) k 0
          go true q =
              let up : k + 1 < l = ltb-true (k + 1) l q in
              let pos : 1 ≤ i = later i l level-read.3 (omega arith) in
              let (m, same) = way_above f s sound i inside k (omega (arith, e)) in
              let d = get_or (shape f s).levels (i - 1) 0 in
              let ld : k < d = omega (arith, (way_long f s sound (i - 1) (omega (arith, inside))).0) in
              put.above k up ∙ sym (way_place ws (i - 1) d k ld) ∙ ap (λ v. get_or v k 0) (read.laid.way_is (i - 1) (omega arith)) ∙ sym same
          go false q =
              let last : k ≡ l - 1 = omega (arith, ltb-false (k + 1) l q) in
              ap (λ j. get_or after (way_places * i + j) 0) last ∙ put.own ∙ sym (way_last f s sound i inside)
              ∙ ap (λ j. get_or (way (shape f s) i) j 0) (omega (arith, e))

      new_way : way_at after i l ≡ way (shape f s) i
      new_way =
          let (m, hi) = way_long f s sound i inside in
          way_by after i l (omega (arith, level-read)) (way (shape f s) i) (m ∙ sym level) new_place

      pub read_more : (d a p z : ℕ) → d ≡ byte b 0 → z ≡ byte b 1 → a ≡ get_or (words f.levels b head_bytes) (z - 1) 0
          → p ≡ last_or 0 (up (way_at after i l)) → Read f s (i + 1) (set levels i d) (set labels i a) (set parents i p) after
      read_more d a p z ed ez ea ep =
          let x = read.laid in
          let ea' = ea ∙ ap₂ (λ w k. get_or (words f.levels w head_bytes) (k - 1) 0) eb (ez ∙ own_byte 1) ∙ sym (label_is f s sound i inside) in
          let in_entries = level-read.0 in
          record {
            laid = record {
              level = write_more (λ e. get_or (shape f s).levels e 0) levels i d (omega (arith, read.levels_long)) x.level (ed ∙ sym el ∙ level);
              label = write_more (λ e. get_or (shape f s).labels e 0) labels i a (omega (arith, read.labels_long)) x.label ea';
              parent_is = write_more (parent (shape f s)) parents i p (omega (arith, read.parents_long)) x.parent_is (ep ∙ ap (λ w. last_or 0 (up w)) new_way);
              way_is = below_more (λ e. way_at after e (get_or (shape f s).levels e 0) ≡ way (shape f s) e) i old_way (ap (way_at after i) (sym level) ∙ new_way);
            };
            levels_long = length-set levels i d ∙ read.levels_long;
            labels_long = length-set labels i a ∙ read.labels_long;
            parents_long = length-set parents i p ∙ read.parents_long;
            ways_long = long;
          }
