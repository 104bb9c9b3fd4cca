-- The label lists of the rows of a sound table, row by row. Assumes nothing.
use Prim.Native.Nat.{ℕ, zero, suc, pred, ◌+◌, ◌*◌, ◌-◌, ◌≤◌, ◌<◌}
use native.Mathlib.Omega.{arith}
use mathlib.Core.Path.{◌≡◌, refl, sym, ◌∙◌, ap, ap₂, subst, subst₂}
use mathlib.Core.Logic.{⊎_elim}
use mathlib.Core.List.{List, [], ◌∷◌, ◌++◌, map}
use mathlib.Core.Option.{none}
use lib.ListN.{length, get_or, take, length-append, length-take, length-map}
use lib.Seq.{get_or-take, get_or_at, take_at}
use Rattle.paper.specs.Format.{Format, row_bytes, byte, word, whole}
use Rattle.paper.specs.Tables.{rows, row_types, bad_row}
use Rattle.paper.proofs.Tables.{step}
use Rattle.octets.specs.Served.{most_levels}
use Rattle.tables.proofs.Rows.{rec}
use Rattle.types.proofs.Step.{below}
use Rattle.types.proofs.Ways.{before, ways-at}
use Rattle.types.proofs.Listed.{in_rows, l_next, l_pos, l_fits, level-at, label_at_lem}
use Rattle.indexes.specs.Labels.{label_of, Put, LabelLists}

module _ (f : Format) (t : List ℕ) (sound : bad_row f (rows f t) ≡ none) where
  abbrev ws : List (List ℕ)
  ws = row_types (rows f t)

  module _ (i : ℕ) (lt : i < whole (row_bytes f) t) where
    abbrev l : ℕ
    l = byte (rec (row_bytes f) i t) 0

    abbrev a : ℕ
    a = word (rec (row_bytes f) i t) 2

    deep : l ≤ suc (length (before ws i))
    unfolding row_types
    deep = l_next f t sound i lt l a refl refl

    abbrev cut : List ℕ
    cut = take (pred l) (before ws i)

    cut_long : length cut ≡ pred l
    cut_long = omega (arith, length-take (pred l) (before ws i), deep)

    -- the row's type: what stands above its level before it, and its own label
    way_is : get_or ws i [] ≡ cut ++ (a ∷ [])
    unfolding row_types
    way_is =
        ways-at (map step (rows f t)) i (omega (arith, in_rows f t sound i lt l a refl refl, length-map (rows f t) step))
        ∙ ap₂ (λ x y. take (pred x) (before ws i) ++ (y ∷ [])) (level-at f t i lt) (label_at_lem f t i lt)

    -- is as long as its level
    pub way_long : length (get_or (row_types (rows f t)) i []) ≡ byte (rec (row_bytes f) i t) 0
    way_long = omega (arith, ap length way_is, length-append cut (a ∷ []), cut_long, l_pos f t sound i lt l a refl refl)

    pub way_fits : f.levels ≤ most_levels → length (get_or (row_types (rows f t)) i []) ≤ most_levels
    way_fits le = omega (arith, way_long, l_fits f t sound i lt l a refl refl)

    -- its last label, and those above
    last_label : get_or (get_or ws i []) (l - 1) 0 ≡ a
    last_label = ap (λ w. get_or w (l - 1) 0) way_is ∙ get_or_at cut a [] 0 (l - 1) (omega (arith, cut_long))

    upper_label : (m : ℕ) → m + 1 < l → get_or (get_or ws i []) m 0 ≡ get_or (before ws i) m 0
    upper_label m up =
        ap (λ w. get_or w m 0) way_is ∙ sym (get_or-take (pred l) (cut ++ (a ∷ [])) m 0 (omega arith))
        ∙ ap (λ w. get_or w m 0) (take_at cut (a ∷ []) (pred l) cut_long) ∙ get_or-take (pred l) (before ws i) m 0 (omega arith)

  -- a row at level 1 comes first
  pub first-level : (i : ℕ) → i < whole (row_bytes f) t → i ≡ 0 → byte (rec (row_bytes f) i t) 0 ≤ 1
  first-level i lt e = omega (arith, deep i lt, ap (λ n. length (before ws n)) e)

  more : f.levels ≤ most_levels → (i : ℕ) → i < whole (row_bytes f) t → (old new : List ℕ) → LabelLists i (row_types (rows f t)) old
      → Put i (byte (rec (row_bytes f) i t) 0) (word (rec (row_bytes f) i t) 2) old new → LabelLists (i + 1) (row_types (rows f t)) new
  more le i lt old new so_far put j m lj lm = ⊎_elim earlier (λ e. subst (λ j. m < length (get_or ws j []) → label_of new j m ≡ get_or (get_or ws j []) m 0) (sym e) here lm) (below j i lj)
    where
      earlier : j < i → label_of new j m ≡ get_or (get_or ws j []) m 0
      earlier b = put.before (most_levels * j + m) (omega (arith, way_fits j (omega arith) le)) ∙ so_far j m b lm

      upper : (i : ℕ) (lt : i < whole (row_bytes f) t) → LabelLists i ws old → m + 1 < byte (rec (row_bytes f) i t) 0 → label_of old (i - 1) m ≡ get_or (before ws i) m 0
      upper zero lt known up = let z : ⊥ = omega (arith, deep zero lt) in absurd z
      upper (suc k) lt known up = ap (λ n. label_of old n m) (omega arith) ∙ known k m (omega arith) (omega (arith, deep (suc k) lt))

      here : m < length (get_or ws i []) → label_of new i m ≡ get_or (get_or ws i []) m 0
      here lt-m = ⊎_elim (λ up. put.copied m up ∙ upper i lt so_far up ∙ sym (upper_label i lt m up))
          (λ e. let q : m ≡ l i lt - 1 = omega arith in ap (label_of new i) q ∙ put.own ∙ sym (last_label i lt) ∙ ap (λ n. get_or (get_or ws i []) n 0) (sym q))
          (below (m + 1) (l i lt) (omega (arith, way_long i lt)))

  -- the same of a level and a label as they are read
  pub labels-more : f.levels ≤ most_levels → (i : ℕ) → i < whole (row_bytes f) t → (old new : List ℕ) → LabelLists i (row_types (rows f t)) old → (l a : ℕ)
      → l ≡ byte (rec (row_bytes f) i t) 0 → a ≡ word (rec (row_bytes f) i t) 2 → Put i l a old new → LabelLists (i + 1) (row_types (rows f t)) new
  labels-more le i lt old new so_far l a el ea put = more le i lt old new so_far (subst₂ (λ x y. Put i x y old new) el ea put)
