-- The types of a sound table fit its format, and an entry of such a type is read as it is written and keeps the entry rules. Assumes nothing.
use Prim.Native.Nat.{ℕ, zero, suc, ◌+◌, ◌-◌, pred, ◌≤◌, ◌<◌}
use native.Mathlib.Omega.{arith}
use mathlib.Core.Path.{◌≡◌, refl, sym, ◌∙◌, ap, ap₂, subst}
use mathlib.Core.Logic.{◌⊎◌, inl, inr, ⊎_elim}
use mathlib.Core.Bool.{Bool, true, ◌&&◌}
use mathlib.Core.List.{List, [], ◌∷◌, ◌++◌, map, append_assoc, append-nil}
use mathlib.Core.Option.{none}
use lib.Dec.{eqb}
use lib.ListN.{length, take, drop, replicate, length-append, length-take}
use lib.Seq.{drop_at}
use borrow.Author.Tests.{le-leb, eqb-true}
use Rattle.paper.specs.Lists.{Has, all, between, join_map, padded, ways}
use Rattle.paper.specs.Format.{Format, head_bytes, entry_bytes, words, bytes}
use Rattle.paper.specs.Tables.{Row, dewey, fields_kept, follows, row_kept, bad_row, row_types, types}
use Rattle.paper.specs.Shapes.{Entry, entry_of, named, level_kept, entry_kept}
use Rattle.paper.proofs.Lists.{both, and, within, has_append, has_all, map-has, take-has}
use Rattle.paper.proofs.Kept.{padded_longer}
use Rattle.paper.proofs.Tables.{Rules, none-rules, rules-each, fields_level, step, distinct-has}
use Rattle.paper.proofs.Shapes.{level_of}
use Rattle.paper.proofs.Bytes.{words_back, length_numbers}
use Rattle.paper.proofs.Reread.{length-padded, padded-has, take-padded}
use Rattle.grammar.specs.Grammar.{Trees, no_trees, tree, Tree}
use Rattle.grammar.specs.Typed.{Wanted, wanted_from, wanted, entry_back}

-- ---- the levels of a wanted tree
-- Each entry's level keeps the rule after that of the entry before it.
abbrev pub Climbs : ℕ → List Wanted → Type 0
Climbs before es = Rules (λ before (w : Wanted). level_kept before w.level) (λ (w : Wanted). w.level) before es

next_kept : (before l : ℕ) → 2 ≤ l → l ≤ suc before → level_kept before l ≡ true
next_kept zero l two le = let z : ⊥ = omega (arith, two, le) in absurd z
next_kept (suc before) l two le = and (le-leb 2 l two) (le-leb l (suc (suc before)) le)

trees_climb : (t : Trees) (before l : ℕ) (rest : List Wanted) → 2 ≤ l → l ≤ suc before → ((last : ℕ) → l ≤ suc last → Climbs last rest)
    → Climbs before (wanted_from l t ++ rest)
unfolding wanted_from
trees_climb no_trees before l rest two le after = after before le
trees_climb (tree n below beside) before l rest two le after =
    let own = wanted_from (suc l) below in
    let others = wanted_from l beside in (
      next_kept before l two le,
      subst (λ es. Climbs l es) (sym (append_assoc own others rest))
          (trees_climb below l (suc l) (others ++ rest) (omega (arith, two)) (omega arith) (λ last over.
          trees_climb beside last l rest two (omega (arith, over)) after)),
    )

pub wanted_climbs : (t : Tree) → Climbs 0 (wanted t)
unfolding wanted_from
wanted_climbs t = (refl, trees_climb t.beneath 1 2 [] (omega arith) (omega arith) (λ _ _. tt))

-- ---- a type that fits
pub record Fits (f : Format) (v : List ℕ) : Type 0 where
  pub some : 1 ≤ length v
  pub most : length v ≤ f.levels
  pub labels : (x : ℕ) → Has x v → (1 ≤ x) × (x ≤ f.labels)

zeros-only : (n : ℕ) → all (eqb 0) (replicate n 0) ≡ true
zeros-only zero = refl
zeros-only (suc n) = and refl (zeros-only n)

lies : (x b : ℕ) → (1 ≤ x) × (x ≤ b) → between 1 x b ≡ true
lies x b (lo, hi) = and (le-leb 1 x lo) (le-leb x b hi)

module _ (f : Format) where
  abbrev Label : ℕ → Type 0
  Label x = (1 ≤ x) × (x ≤ f.labels)

  -- a level and a label of the format
  abbrev Step : ℕ × ℕ → Type 0
  Step x = ((1 ≤ x.0) × (x.0 ≤ f.levels)) × Label x.1

  row_label : (r : Row) → fields_kept f r ≡ true → Label r.label
  unfolding fields_kept
  row_label r h =
      let before = between 1 r.level f.levels && eqb r.spare 0 in
      let own = between 1 r.label f.labels in
      within 1 r.label f.labels (both before own (both (before && own) (all (eqb 0) (drop r.level r.components)) h).0).1

  way_labels : (before : List ℕ) (x : ℕ × ℕ) → ((y : ℕ) → Has y before → Label y) → Label x.1
      → (y : ℕ) → Has y (take (pred x.0) before ++ (x.1 ∷ [])) → Label y
  way_labels before x above own y h = go (has_append y (take (pred x.0) before) (x.1 ∷ []) h)
    where
      go : Has y (take (pred x.0) before) ⊎ Has y (x.1 ∷ []) → Label y
      go (inl i) = above y (take-has (pred x.0) before y i)
      go (inr (inl e)) = subst (λ z. Label z) (sym e) own
      go (inr (inr i)) = absurd i

  ways_fit : (before : List ℕ) (xs : List (ℕ × ℕ)) → ((y : ℕ) → Has y before → Label y) → ((x : ℕ × ℕ) → Has x xs → Step x)
      → (v : List ℕ) → Has v (ways before xs) → Fits f v
  ways_fit before [] above each v h = absurd h
  ways_fit before (x ∷ xs) above each v (inl e) =
      let (level, label) = each x (inl refl) in
      let long = length-append (take (pred x.0) before) (x.1 ∷ []) in
      record {
        some = omega (arith, ap length e, long);
        most = omega (arith, ap length e, long, length-take (pred x.0) before, level);
        labels = λ y i. way_labels before x above label y (subst (λ l. Has y l) e i);
      }
  ways_fit before (x ∷ xs) above each v (inr h) =
      ways_fit (take (pred x.0) before ++ (x.1 ∷ [])) xs (way_labels before x above (each x (inl refl)).1) (λ y i. each y (inr i)) v h

  -- THE TYPES OF A SOUND TABLE fit its format.
  pub types_fit : (rs : List Row) → bad_row f rs ≡ none → (v : List ℕ) → Has v (types rs) → Fits f v
  unfolding types row_types bad_row row_kept
  types_fit rs sound v h =
      ways_fit [] (map step rs) (λ y i. absurd i) (λ x i.
      let (r, j, e) = map-has step x rs i in
      let (p, kept) = rules-each (row_kept f) dewey [] rs (none-rules (row_kept f) dewey 0 [] rs sound) r j in
      let fields = (both (fields_kept f r) (follows p (dewey r)) kept).0 in
      subst (λ (y : ℕ × ℕ). Step y) (sym e) (fields_level f r fields, row_label r fields)) v (distinct-has v (ways [] (map step rs)) h)

  -- ---- the entry of such a type
  abbrev pub entry_for : ℕ → List ℕ → Entry
  entry_for level v = record { level = level; size = length v; spare = 0; labels = padded f.levels v }

  pub entry-size : (level : ℕ) (v : List ℕ) → length (entry_back f level v) ≡ entry_bytes f
  unfolding entry_back
  entry-size level v = omega (arith, length_numbers (padded f.levels v), length-padded f.levels v)

  -- it is read as it is written
  pub entry-again : f.labels < 65536 → (level : ℕ) (v : List ℕ) → Fits f v → entry_of f (entry_back f level v) ≡ entry_for level v
  unfolding entry_of entry_back
  entry-again small level v fits =
      let xs = padded f.levels v in
      let front : List ℕ = level ∷ length v ∷ 0 ∷ 0 ∷ [] in
      let each : (x : ℕ) → Has x xs → x < 65536 = λ x h.
      ⊎_elim (λ i. omega (arith, small, fits.labels x i)) (λ e. omega (arith, e)) (padded-has f.levels v x h) in
      let again : words f.levels (front ++ join_map (bytes 2) xs) head_bytes ≡ xs =
      ap₂ (λ n l. words n (front ++ l) head_bytes) (sym (length-padded f.levels v)) (sym (append-nil (join_map (bytes 2) xs)))
      ∙ words_back front xs head_bytes [] refl each in
      λ i. record { level = level; size = length v; spare = 0; labels = again i }

  -- it names the type
  pub named_for : (level : ℕ) (v : List ℕ) → Fits f v → named (entry_for level v) ≡ v
  named_for level v fits = take-padded f.levels v fits.most

  level-pos : (before l : ℕ) → level_kept before l ≡ true → 1 ≤ l
  level-pos zero l h = omega (arith, eqb-true l 1 h)
  level-pos (suc before) l h = omega (arith, within 2 l (suc (suc before)) h)

  -- it keeps the rules
  entry_kept_lem : (before level : ℕ) (v : List ℕ) → Fits f v → level ≤ f.levels → level_kept before level ≡ true
      → entry_kept f before (entry_for level v) ≡ true
  unfolding entry_kept
  entry_kept_lem before level v fits deep next =
      let n = f.levels in
      let m = n - length v in
      let more : n ≡ length v + m = omega (arith, fits.most) in
      let laid : padded n v ≡ v ++ replicate m 0 = ap (λ k. padded k v) more ∙ padded_longer (length v) m v refl in
      let zeros : all (eqb 0) (drop (length v) (padded n v)) ≡ true =
      ap (λ l. all (eqb 0) (drop (length v) l)) laid ∙ ap (all (eqb 0)) (drop_at v (replicate m 0) (length v) refl) ∙ zeros-only m in
      let label : ℕ → Bool = λ x. between 1 x f.labels in
      let labels : all label (named (entry_for level v)) ≡ true =
      ap (all label) (named_for level v fits) ∙ has_all label v (λ x h. lies x f.labels (fits.labels x h)) in
      and (and (and (and (and (lies level n (level-pos before level next, deep)) (lies (length v) n (fits.some, fits.most))) refl) labels) zeros) next

  -- The entries of wanted types that fit keep the rules.
  pub entries_kept : (kind : Wanted → List ℕ) (before : ℕ) (es : List Wanted)
      → ((e : Wanted) → Has e es → Fits f (kind e) × (e.level ≤ f.levels)) → Climbs before es
      → Rules (entry_kept f) level_of before (map (λ (e : Wanted). entry_for e.level (kind e)) es)
  entries_kept kind before [] each climbs = tt
  entries_kept kind before (e ∷ es) each (next, climbs) =
      let (fits, deep) = each e (inl refl) in
      (entry_kept_lem before e.level (kind e) fits deep next, entries_kept kind e.level es (λ x h. each x (inr h)) climbs)
