-- The summaries of all types, one after the other. Assumes nothing.
use Prim.Native.Nat.{ℕ, zero, suc, ◌+◌, ◌-◌, ◌≤◌, ◌<◌}
use native.Mathlib.Nat.{not-suc-le-zero, le_of_suc-le-suc, zero-add}
use native.Mathlib.Numerals.{add-one}
use native.Mathlib.Omega.{arith}
use mathlib.Core.Path.{◌≡◌, refl, sym, ◌∙◌, ap, ap₂}
use mathlib.Core.List.{List, [], ◌∷◌, ◌++◌, map}
use lib.ListN.{length, get_or, take, drop, set, replicate, length-replicate, length-map, take-append-drop}
use lib.Seq.{take_all, take-suc-set, drop-set-lt, drop-drop}
use Rattle.paper.specs.Format.{Format, most_types}
use Rattle.paper.specs.Tables.{Row, rows, types}
use Rattle.paper.specs.Closeness.{Node, nodes}
use Rattle.paper.specs.Adorned.{Summary, summary, summaries_from, adorned}
use Rattle.paper.proofs.Lists.{get_d_has, map_append}
use Rattle.paper.proofs.Tables.{rows_laid, one-level, listed_type, type_length}
use Rattle.closest.specs.Node.{node}
use Rattle.closest.specs.Rows.{RowsIn}
use Rattle.closest.specs.declared.rows.RowsRead.{RowsRead}
use Rattle.closest.proofs.Meets.{here, kind_at, place_in, is-node}
use Rattle.adorned.specs.Runs.{TypeLevels}
use Rattle.adorned.specs.Told.{told, summary_at, no_summary, placed, Listed}
use Rattle.adorned.proofs.Summaries.{type_number_lem}
use Rattle.adorned.specs.declared.TypeSummary.{TypeSummary}

-- ---- places
-- the first n places
abbrev pub told_first : ℕ → List TypeSummary → List Summary
told_first n l = map told (take n l)

-- the places from n on
abbrev pub told_from : ℕ → List TypeSummary → List Summary
told_from n l = map told (drop n l)

pub map-replicate : {A B : Type 0} (f : A → B) (n : ℕ) (a : A) → map f (replicate n a) ≡ replicate n (f a)
map-replicate f zero a = refl
map-replicate {B = B} f (suc n) a = ap {B = List B} (λ l. f a ∷ l) (map-replicate f n a)

map-drop-one : {A B : Type 0} (f : A → B) (l : List A) → map f (drop 1 l) ≡ drop 1 (map f l)
map-drop-one f [] = refl
map-drop-one f (x ∷ xs) = refl

-- a place that is set leaves the places after it
pub rest-step : (all : List TypeSummary) (k : ℕ) (s : TypeSummary) → k < most_types → told_from k all ≡ replicate (most_types - k) no_summary
    → told_from (k + 1) (set all k s) ≡ replicate (most_types - (k + 1)) no_summary
rest-step all k s lt e =
    let q : most_types - k ≡ suc (most_types - (k + 1)) = omega arith in
    ap (map told) (drop-set-lt (k + 1) all k s (omega arith) ∙ sym (drop-drop 1 k all)) ∙ map-drop-one told (drop k all)
    ∙ ap (drop 1) (e ∙ ap (λ n. replicate n no_summary) q)

-- the places at the start
pub start_length : (all : List TypeSummary) → map told all ≡ placed [] → length all ≡ 64
start_length all e = sym (length-map all told) ∙ ap length e ∙ length-replicate 64 no_summary

-- ---- the k-th summary
summaries_next : (t : List Node) (ts : List (List ℕ)) (j : ℕ) (xs : List (List ℕ)) (k : ℕ) → k < length xs
    → take (suc k) (summaries_from t ts j xs) ≡ take k (summaries_from t ts j xs) ++ (summary t ts (j + k) (get_or xs k []) ∷ [])
summaries_next t ts j [] k lt = absurd (not-suc-le-zero lt)
summaries_next t ts j (x ∷ xs) zero lt = ap {B = List Summary} (λ n. summary t ts n x ∷ []) (omega arith)
summaries_next t ts j (x ∷ xs) (suc k) lt =
    ap {B = List Summary} (λ l. summary t ts j x ∷ l) (summaries_next t ts (suc j) xs k (le_of_suc-le-suc lt)
    ∙ ap (λ n. take k (summaries_from t ts (suc j) xs) ++ (summary t ts n (get_or xs k []) ∷ [])) (omega arith))

length_summaries : (t : List Node) (ts : List (List ℕ)) (j : ℕ) (xs : List (List ℕ)) → length (summaries_from t ts j xs) ≡ length xs
length_summaries t ts j [] = refl
length_summaries t ts j (x ∷ xs) = ap suc (length_summaries t ts (suc j) xs)

module _ (rs : List Row) where
  adorned_next : (k : ℕ) → k < length (types rs) → take (suc k) (adorned rs) ≡ take k (adorned rs) ++ (summary_at rs k ∷ [])
  unfolding adorned
  adorned_next k lt =
      summaries_next (nodes rs) (types rs) 0 (types rs) k lt
      ∙ ap (λ n. take k (summaries_from (nodes rs) (types rs) 0 (types rs)) ++ (summary (nodes rs) (types rs) n (get_or (types rs) k []) ∷ [])) (zero-add k)

  pub adorned-length : length (adorned rs) ≡ length (types rs)
  unfolding adorned
  adorned-length = length_summaries (nodes rs) (types rs) 0 (types rs)

  -- what the loop keeps: the first k are written
  pub fill_step : (all : List TypeSummary) (k : ℕ) (s : TypeSummary) → k < length (types rs) → k < length all → told_first k all ≡ take k (adorned rs)
      → told s ≡ summary_at rs k → told_first (k + 1) (set all k s) ≡ take (k + 1) (adorned rs)
  fill_step all k s lt la e q =
      ap (λ n. map told (take n (set all k s))) (add-one k) ∙ ap (map told) (take-suc-set all k s la) ∙ map_append told (take k all) (s ∷ [])
      ∙ ap₂ {C = List Summary} (λ l x. l ++ (x ∷ [])) e q ∙ sym (adorned_next k lt) ∙ ap (λ n. take n (adorned rs)) (sym (add-one k))

  pub fill_end : (all : List TypeSummary) (k count : ℕ) → count ≡ length (types rs) → k ≤ count → count ≤ k → told_first k all ≡ take k (adorned rs)
      → told_from k all ≡ replicate (most_types - k) no_summary → map told all ≡ placed (adorned rs)
  fill_end all k count c le ge e z =
      let n : k ≡ length (adorned rs) = omega (arith, adorned-length) in
      ap (map told) (sym (take-append-drop k all)) ∙ map_append told (take k all) (drop k all)
      ∙ ap₂ {C = List Summary} (λ a b. a ++ b) (e ∙ take_all k (adorned rs) (omega (arith, n))) (z ∙ ap (λ m. replicate (most_types - m) no_summary) n)

-- ---- the rows that were read
module _ {f : Format} {t : List ℕ} {read : RowsRead} {levels ks : List ℕ} (rows_in : RowsIn f t read levels ks) where
  -- a type is as long as its rows are deep
  level_of_lem : (found : List ℕ) → TypeLevels read.rows levels ks found → (k : ℕ) → k < length (types (rows f t))
      → get_or found k 0 ≡ length (get_or (types (rows f t)) k [])
  level_of_lem found at k lt =
      let rs = rows f t in
      let n = read.rows in
      let ty = rows_in.levelled.typed in
      let kept = ty.sound.kept in
      let v = get_or (types rs) k [] in
      let (x, hx, tx, kx) = listed_type f rs (rows_laid f t) kept v (get_d_has [] (types rs) k lt) in
      let inside = place_in f n t ks ty x hx in
      let own : get_or ks x.place 0 ≡ x.kind = kind_at f n t ks ty x.place inside ∙ ap (λ (y : Node). y.kind) (sym (is-node f n t ks ty x hx)) in
      let (j, lj, same, is) = at x.place inside in
      let alike : (node f t j).kind ≡ x.kind = sym (kind_at f n t ks ty j lj) ∙ same ∙ own in
      ap (λ z. get_or found z 0) (sym (own ∙ kx ∙ type_number_lem rs k lt)) ∙ is ∙ rows_in.levelled.level-is j lj
      ∙ one-level f rs (rows_laid f t) kept (node f t j) x (here f n t ks ty j lj) hx alike ∙ sym (type_length f rs (rows_laid f t) kept x v tx)

  pub listed : (found : List ℕ) → TypeLevels read.rows levels ks found → (k p a l : ℕ) → k < read.count → p ≡ get_or read.parents k 0
      → a ≡ get_or read.labels k 0 → l ≡ get_or found k 0 → Listed (types (rows f t)) read.parents read.labels read.count k p a l
  listed found at k p a l lt ep ea el = record {
    told = rows_in.told;
    known = lt;
    parent_is = ep;
    label_is = ea;
    level-is = el ∙ level_of_lem found at k (omega (arith, rows_in.told.count-is));
  }
