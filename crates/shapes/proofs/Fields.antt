-- An entry of a shape that keeps the entry rules: its level and label, and its way. Assumes nothing.
use Prim.Native.Nat.{ℕ, zero, suc, ◌+◌, ◌-◌, ◌≤◌, ◌<◌, pred}
use native.Mathlib.Nat.{not-suc-le-zero}
use native.Mathlib.Omega.{arith}
use mathlib.Core.Path.{◌≡◌, refl, ◌∙◌, ap}
use mathlib.Core.List.{List, [], ◌∷◌, ◌++◌, map}
use mathlib.Core.Option.{none}
use lib.ListN.{length, get_or, take, drop, length-take, length-append, get_or-append}
use lib.Seq.{get_or-take, get_or_at}
use Rattle.paper.specs.Lists.{last_or}
use Rattle.paper.specs.Format.{Format, head_bytes, entry_bytes, byte, words, whole}
use Rattle.paper.specs.Shapes.{Entry, Shape, entry_of, entries, named, entry_kept, bad_entry, steps, shape_over, way}
use Rattle.paper.proofs.Tables.{Rules, none-rules, length-words, length-ways}
use Rattle.paper.proofs.Shapes.{Ways, level_of, size, shape-ways, way_level}
use Rattle.paper.proofs.Calls.{count_entries}
use Rattle.paper.proofs.Verdict.{way_pos, way_zero}
use Rattle.tables.proofs.Rows.{rec}
use Rattle.types.proofs.Ways.{before, ways-at}
use Rattle.types.proofs.Listed.{at_drop}
use Rattle.shapes.proofs.Entries.{entries_from_lem, entry-size}
use Rattle.shapes.proofs.Places.{last_at, later}

step_levels : (i : ℕ) (es : List Entry) → map (λ (x : ℕ × ℕ). x.0) (steps i es) ≡ map level_of es
step_levels i [] = refl
step_levels i (e ∷ es) = ap {B = List ℕ} (λ l. e.level ∷ l) (step_levels (suc i) es)

module _ (f : Format) (s : List ℕ) where
  -- the shape of the bytes
  abbrev pub shape : Shape
  shape = shape_over [] (entries f s)

  module _ (sound : bad_entry f (entries f s) ≡ none) (i : ℕ) (lt : i < whole (entry_bytes f) s) where
    -- its own bytes
    abbrev own : List ℕ
    own = rec (entry_bytes f) i s

    entry_at_lem : (g : Entry → ℕ) → get_or (map g (entries f s)) i 0 ≡ g (entry_of f own)
    entry_at_lem g = at_drop g 0 (entries f s) i (entry_of f own) (drop (suc i) (entries f s)) (entries_from_lem f s i lt)

    size_fits : (1 ≤ byte own 1) × (byte own 1 ≤ f.levels)
    size_fits = entry-size f s i lt sound

    rules : Rules (entry_kept f) level_of 0 (entries f s)
    unfolding bad_entry
    rules = none-rules (entry_kept f) level_of 0 0 (entries f s) sound

    in_entries : i < length (entries f s)
    in_entries = omega (arith, count_entries f s)

    in_ways : i < length shape.ways
    in_ways = omega (arith, in_entries, size f [] (entries f s) rules)

    shaped : Ways shape
    shaped = shape-ways f [] (entries f s) rules

    -- ---- level, length and label
    pub level-is : get_or shape.levels i 0 ≡ byte own 0
    unfolding shape_over entry_of
    level-is = entry_at_lem level_of

    pub label_is : get_or shape.labels i 0 ≡ get_or (words f.levels own head_bytes) (byte own 1 - 1) 0
    unfolding shape_over entry_of
    label_is =
        let n = byte own 1 in
        let ws = words f.levels own head_bytes in
        let last : pred (length (take n ws)) ≡ n - 1 = omega (arith, length-take n ws, length-words f.levels own head_bytes, size_fits.1) in
        entry_at_lem (λ e. last_or 0 (named e)) ∙ last_at (take n ws) ∙ ap (λ k. get_or (take n ws) k 0) last ∙ get_or-take n ws (n - 1) 0 (omega (arith, size_fits.0))

    -- ---- the way
    pub way_long : (length (way shape i) ≡ get_or shape.levels i 0) × (length (way shape i) ≤ f.levels)
    way_long = way_level f [] (entries f s) rules i in_entries

    pub level_fits : (1 ≤ byte own 0) × (byte own 0 ≤ f.levels)
    level_fits = (omega (arith, level-is, way_long, way_pos shape shaped i in_ways), omega (arith, level-is, way_long))

    pub first-level : i ≡ 0 → byte own 0 ≡ 1
    first-level e =
        let z : length (way shape i) ≡ 1 = ap (λ j. length (way shape j)) e ∙ ap length (way_zero shape shaped (omega (arith, in_ways))) in
        omega (arith, level-is, way_long, z)

    pub way_last : get_or (way shape i) (byte own 0 - 1) 0 ≡ i
    way_last =
        let (u, q) = shaped.own i in_ways in
        let n : length u ≡ byte own 0 - 1 = omega (arith, ap length q, length-append u (i ∷ []), level-is, way_long) in
        ap (λ w. get_or w (byte own 0 - 1) 0) q ∙ get_or_at u i [] 0 (byte own 0 - 1) n

    -- above its entry a way is the way of the entry before it
    pub way_above : (k : ℕ) → k + 1 < byte own 0 → (k < length (way shape (i - 1))) × (get_or (way shape i) k 0 ≡ get_or (way shape (i - 1)) k 0)
    unfolding shape_over
    way_above k lk =
        let ws = shape.ways in
        let l = get_or (map (λ (x : ℕ × ℕ). x.0) (steps 0 (entries f s))) i 0 in
        let c = get_or (map (λ (x : ℕ × ℕ). x.1) (steps 0 (entries f s))) i 0 in
        let p = take (pred l) (before ws i) in
        let form : way shape i ≡ p ++ (c ∷ []) = ways-at (steps 0 (entries f s)) i (omega (arith, in_ways, length-ways [] (steps 0 (entries f s)))) in
        let is : l ≡ byte own 0 = ap (λ m. get_or m i 0) (step_levels 0 (entries f s)) ∙ level-is in
        let n : length p ≡ byte own 0 - 1 = omega (arith, ap length form, length-append p (c ∷ []), level-is, way_long) in
        let e : before ws i ≡ way shape (i - 1) = last i (later i (byte own 0) first-level (omega arith)) in (
          omega (arith, n, length-take (pred l) (before ws i), ap length e),
          ap (λ w. get_or w k 0) form ∙ get_or-append p (c ∷ []) 0 k (omega (arith, n))
              ∙ get_or-take (pred l) (before ws i) k 0 (omega (arith, is)) ∙ ap (λ w. get_or w k 0) e,
        )
      where
        last : (j : ℕ) → 1 ≤ j → before shape.ways j ≡ way shape (j - 1)
        last zero pos = absurd (not-suc-le-zero pos)
        last (suc j) pos = ap (λ m. way shape m) (omega arith)
