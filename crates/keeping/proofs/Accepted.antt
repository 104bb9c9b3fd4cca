-- What an accepted conversion gives: files that pass the tests before and after, and labels that stay apart. Assumes nothing.
use Prim.Native.Nat.{ℕ, ◌<◌}
use native.Mathlib.Omega.{arith}
use mathlib.Core.Path.{◌≡◌, refl, sym, ◌∙◌, subst}
use mathlib.Core.Logic.{⊎_elim}
use mathlib.Core.Bool.{Bool, true, false, ◌||◌, true≢false}
use mathlib.Core.List.{List, map}
use mathlib.Core.Option.{none}
use lib.Dec.{ltb}
use lib.ListN.{length}
use Rattle.paper.specs.Lists.{Has, any, first_place, join_map}
use Rattle.paper.specs.Format.{Format}
use Rattle.paper.specs.Tables.{Row, rows}
use Rattle.paper.specs.Shapes.{Entry, entries, named}
use Rattle.paper.specs.Calls.{given, refuse, refuse_at, tests1_3, tests5_6}
use Rattle.paper.specs.Labels.{old_range, Pair, occurring, bad_pair, unlisted, converted, table_with, shape_with, row_with, entry_with, Converted, converting}
use Rattle.paper.proofs.Lists.{has_left, has_right, has_append, has-map, has_join, map-has, join-has, has_any}
use Rattle.paper.proofs.Kept.{first-none}
use Rattle.paper.proofs.Shapes.{sound-named}
use Rattle.paper.proofs.Calls.{bind_given, refuse_at-given, given-same, passed1_3, passed5_6}
use Rattle.keeping.proofs.Pairs.{converted-small, converted_range, converted_apart}
use Rattle.keeping.proofs.ConvertedTests.{InRange, sound_label, table_passes, shape_passes}

none_of : {A : Type 0} (p : A → Bool) (xs : List A) → any p xs ≡ false → (x : A) → Has x xs → p x ≡ false
none_of p xs h x i = go (p x) refl
  where
    go : (t : Bool) → p x ≡ t → p x ≡ false
    go true e = absurd (true≢false (sym (has_any p x xs i e) ∙ h))
    go false e = e

-- ---- labels that occur
module _ (rs : List Row) (es : List Entry) where
  pub row_occurs : (r : Row) → Has r rs → Has r.label (occurring rs es)
  unfolding occurring
  row_occurs r h = has_left r.label (map (λ (r : Row). r.label) rs) (join_map named es) (has-map (λ (r : Row). r.label) r rs h)

  pub named_occurs : (e : Entry) → Has e es → (x : ℕ) → Has x (named e) → Has x (occurring rs es)
  unfolding occurring
  named_occurs e h x i = has_right x (map (λ (r : Row). r.label) rs) (join_map named es) (has_join named e x es h i)

  -- what holds of the labels of rows and of types holds of all that occur
  pub occurring-each : (P : ℕ → Type 0) → ((r : Row) → Has r rs → P r.label) → ((e : Entry) → Has e es → (x : ℕ) → Has x (named e) → P x)
      → (x : ℕ) → Has x (occurring rs es) → P x
  unfolding occurring
  occurring-each P row type x h =
      ⊎_elim (λ i. let (r, k, e) = map-has (λ (r : Row). r.label) x rs i in subst P (sym e) (row r k))
      (λ i. let (e, k, j) = join-has named x es i in type e k x j) (has_append x (map (λ (r : Row). r.label) rs) (join_map named es) h)

-- ---- what an accepted conversion gives: t and u are the table and the shape written for b and s
pub record Accepted (f : Format) (ps : List Pair) (b s t u : List ℕ) : Type 0 where
  pub table_before : tests1_3 (old_range f) b ≡ given (rows (old_range f) b)
  pub shape_before : tests5_6 (old_range f) s ≡ given (entries (old_range f) s)
  pub table-after : tests1_3 f t ≡ given (map (row_with ps) (rows (old_range f) b))
  pub shape-after : tests5_6 f u ≡ given (map (entry_with ps) (entries (old_range f) s))
  pub table : t ≡ table_with f ps b
  pub shape : u ≡ shape_with f ps s
  -- every label that occurs comes to lie in the new range, and no two become one
  pub range : (x : ℕ) → Has x (occurring (rows (old_range f) b) (entries (old_range f) s)) → InRange f (converted ps x)
  pub apart : (x y : ℕ) → Has x (occurring (rows (old_range f) b) (entries (old_range f) s))
      → Has y (occurring (rows (old_range f) b) (entries (old_range f) s)) → converted ps x ≡ converted ps y → x ≡ y

module _ (f : Format) (few : f.labels < 65536) (b s : List ℕ) (ps : List Pair) where
  -- what the tests of the list and of its labels leave
  accepted : tests1_3 (old_range f) b ≡ given (rows (old_range f) b) → tests5_6 (old_range f) s ≡ given (entries (old_range f) s)
      → let rs = rows (old_range f) b in let es = entries (old_range f) s in
      bad_pair f (occurring rs es) ps ≡ none → first_place (λ (r : Row). unlisted f ps r.label) rs ≡ none
      → first_place (λ (e : Entry). any (unlisted f ps) (named e)) es ≡ none → Accepted f ps b s (table_with f ps b) (shape_with f ps s)
  accepted table shape right in_rows in-types =
      let rs = rows (old_range f) b in
      let es = entries (old_range f) s in
      let ls = occurring rs es in
      let sound-rows = (passed1_3 (old_range f) b rs table).1 in
      let sound-types = (passed5_6 (old_range f) s es shape).1 in
      let row : (r : Row) → Has r rs → InRange f (converted ps r.label) = λ r h.
      converted_range f ls ps right r.label (sound_label (old_range f) rs sound-rows r h).0
      (first-none (λ (r : Row). unlisted f ps r.label) rs in_rows r h) in
      let type : (e : Entry) → Has e es → (x : ℕ) → Has x (named e) → InRange f (converted ps x) = λ e h x i.
      converted_range f ls ps right x (sound-named (old_range f) es sound-types e h x i).0
      (none_of (unlisted f ps) (named e) (first-none (λ (e : Entry). any (unlisted f ps) (named e)) es in-types e h) x i) in
      record {
        table_before = table;
        shape_before = shape;
        table-after = table_passes f ps few b rs table row;
        shape-after = shape_passes f ps few s es shape type (converted-small f ls ps right 0 (omega arith));
        table = refl;
        shape = refl;
        range = occurring-each rs es (λ x. InRange f (converted ps x)) row type;
        apart = converted_apart f ls ps right;
      }

  -- AN ACCEPTED CONVERSION writes a table and a shape that pass the tests of the new range, and keeps the labels apart.
  pub converting_passes : (m k : ℕ) (x : Converted) (t u : List ℕ) → converting f b s ps m k ≡ given (x, t, u) → Accepted f ps b s t u
  unfolding converting
  converting_passes m k x t u h =
      let (rs, h₁, k₁) = bind_given (tests1_3 (old_range f) b) _ (x, t, u) h in
      let (es, h₂, k₂) = bind_given (tests5_6 (old_range f) s) _ (x, t, u) k₁ in
      let (v₃, h₃, k₃) = bind_given (refuse_at 25 (bad_pair f (occurring rs es) ps)) _ (x, t, u) k₂ in
      let (v₄, h₄, k₄) = bind_given (refuse_at 26 (first_place (λ (r : Row). unlisted f ps r.label) rs)) _ (x, t, u) k₃ in
      let (v₅, h₅, k₅) = bind_given (refuse_at 26 (first_place (λ (e : Entry). any (unlisted f ps) (named e)) es)) _ (x, t, u) k₄ in
      let short = ltb m (length (table_with f ps b)) || ltb k (length (shape_with f ps s)) in
      let (v₆, h₆, k₆) = bind_given (refuse 29 short) _ (x, t, u) k₅ in
      let out = given-same (record { rows = length rs; entries = length es }, table_with f ps b, shape_with f ps s) (x, t, u) k₆ in
      let er = sym (passed1_3 (old_range f) b rs h₁).0 in
      let ee = sym (passed5_6 (old_range f) s es h₂).0 in
      let a = accepted (subst (λ z. tests1_3 (old_range f) b ≡ given z) er h₁) (subst (λ z. tests5_6 (old_range f) s ≡ given z) ee h₂)
      (subst (λ z. bad_pair f (occurring z (entries (old_range f) s)) ps ≡ none) er
      (subst (λ z. bad_pair f (occurring rs z) ps ≡ none) ee (refuse_at-given 25 (bad_pair f (occurring rs es) ps) v₃ h₃)))
      (subst (λ z. first_place (λ (r : Row). unlisted f ps r.label) z ≡ none) er
      (refuse_at-given 26 (first_place (λ (r : Row). unlisted f ps r.label) rs) v₄ h₄))
      (subst (λ z. first_place (λ (e : Entry). any (unlisted f ps) (named e)) z ≡ none) ee
      (refuse_at-given 26 (first_place (λ (e : Entry). any (unlisted f ps) (named e)) es) v₅ h₅)) in
      subst (λ (z : Converted × List ℕ × List ℕ). Accepted f ps b s z.1 z.2) out a
