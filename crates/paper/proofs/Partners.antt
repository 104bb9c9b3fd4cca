-- How many partners: each entry's type has a row once nothing is refused. The least numbers tell full edges and rows without a partner, and so
-- what verdict 1 names; every number lies between the least and the greatest, and both are reached. Assumes nothing.
use Prim.Native.Nat.{ℕ, zero, suc, min, ◌+◌, ◌≤◌, ◌<◌}
use native.Mathlib.Nat.{eq-or-lt_of_le}
use native.Mathlib.Omega.{arith}
use mathlib.Core.Path.{◌≡◌, refl, sym, ◌∙◌, ap, ap₂, subst, subst₂}
use mathlib.Core.Logic.{⊎_elim}
use mathlib.Core.Bool.{Bool, true, false, not, ◌&&◌, true≢false}
use mathlib.Core.List.{List, [], ◌∷◌, ◌++◌, map}
use mathlib.Core.Option.{none}
use lib.Dec.{eqb}
use lib.ListN.{length, drop, length-map}
use borrow.Author.Tests.{eqb-true, eq-eqb, ne_eqb, not-false}
use Rattle.paper.specs.Lists.{Has, Range, keep, all, any, is_empty, first_or, last_or, join_map, least, count, same, up}
use Rattle.paper.specs.Format.{Format}
use Rattle.paper.specs.Tables.{Row, rows, types, type_number}
use Rattle.paper.specs.Closeness.{Node, nodes, of_kind, closest_number}
use Rattle.paper.specs.Shapes.{Entry, Shape, entries, named, shape_over, numbers, kind, parent}
use Rattle.paper.specs.Partners.{child_numbers, parent_numbers, greatest}
use Rattle.paper.specs.Verdict.{Verdict, kept, missing, over_pairs, alone, full, lone, pair_fault, verdict}
use Rattle.paper.specs.Edges.{FirstNone}
use Rattle.paper.specs.Calls.{given, refuse_at, Work, type_missing, tests1_4, tests5_6, tests5_7, tests1_7}
use Rattle.paper.proofs.Lists.{same_eq, any_has, map-has, in_some, get_d_has}
use Rattle.paper.proofs.Kept.{put_if, first-none, range}
use Rattle.paper.proofs.Closeness.{of_kind_lem}
use Rattle.paper.proofs.Tables.{rows_laid, listed_type}
use Rattle.paper.proofs.Nearest.{parent_nearest}
use Rattle.paper.proofs.Verdict.{way_zero, missing_alone}
use Rattle.paper.proofs.Calls.{bind_given, refuse_at-given, passed1_3, passed1_4, passed5_6, passed1_7}
use Rattle.paper.proofs.Promises.{kept_entries, ways, entries-size}

-- ---- each entry's type has a row
-- 7 refuses types without rows
passed7 : (f : Format) (b sb : List ℕ) (w : Work) → tests1_7 f b sb ≡ given w → type_missing (rows f b) (entries f sb) ≡ none
unfolding tests5_7
passed7 f b sb w h =
    let (rs, h₁, k₁) = bind_given (tests1_4 f b) _ w h in
    let (es, h₂, k₂) = bind_given (tests5_6 f sb) _ w k₁ in
    let (u, h₃, k₃) = bind_given (refuse_at 7 (type_missing rs es)) _ w k₂ in
    subst₂ (λ rs es. type_missing rs es ≡ none) (sym (passed1_3 f b rs (passed1_4 f b rs h₁)).0) (sym (passed5_6 f sb es h₂).0)
    (refuse_at-given 7 (type_missing rs es) u h₃)

-- the type that an entry names is listed
pub type_named : (rs : List Row) (es : List Entry) → type_missing rs es ≡ none → (e : Entry) → Has e es → Has (named e) (types rs)
unfolding type_missing
type_named rs es none_missing e h =
    let found = not-false (any (same (named e)) (types rs)) (first-none (λ e. not (any (same (named e)) (types rs))) es none_missing e h) in
    let (k, i, q) = any_has (same (named e)) (types rs) found in
    subst (λ z. Has z (types rs)) (sym (same_eq (named e) k q)) i

module _ (f : Format) (b sb : List ℕ) (w : Work) (passed : tests1_7 f b sb ≡ given w) where
  abbrev t : List Node
  t = nodes (rows f b)

  abbrev s : Shape
  s = shape_over (types (rows f b)) (entries f sb)

  -- Each entry's type has a row.
  pub type_has_row : (e : ℕ) → e < length s.ways → (r : Node) × Has r (of_kind t (kind s e))
  unfolding shape_over
  type_has_row e le =
      let rs = rows f b in
      let es = entries f sb in
      let number : Entry → ℕ = λ e. type_number (types rs) (named e) in
      let (x, hx, q) = map-has number (kind s e) es (get_d_has 0 (map number es) e (omega (arith, entries-size f b sb w passed, length-map es number))) in
      let sound = (passed1_3 f b rs (passed1_7 f b sb w passed).0).1 in
      let (r, hr, _, k) = listed_type f rs (rows_laid f b) sound (named x) (type_named rs es (passed7 f b sb w passed) x hx) in
      (r, of_kind_lem t (kind s e) r (hr, k ∙ sym q))

  -- So has that of its parent.
  parent_in : (e : ℕ) → e < length s.ways → parent s e < length s.ways
  parent_in zero le = omega (arith, ap (λ v. last_or 0 (up v)) (way_zero s (ways f b sb w passed) le))
  parent_in (suc e) le =
      omega (
        arith,
        (parent_nearest f (types (rows f b)) (entries f sb) (kept_entries f b sb w passed) (suc e) (omega arith)
            (omega (arith, entries-size f b sb w passed))).0,
      )

  pub parent_type_has_row : (e : ℕ) → e < length s.ways → (r : Node) × Has r (of_kind t (kind s (parent s e)))
  parent_type_has_row e le = type_has_row (parent s e) (parent_in e le)

-- ---- what least numbers tell
some-eqb : (n : ℕ) → eqb (suc n) 0 ≡ false
some-eqb n = ne_eqb (suc n) 0 (λ e. omega arith)

min-some : (a b : ℕ) → not (eqb (min a b) 0) ≡ not (eqb a 0) && not (eqb b 0)
min-some zero b = ap not (eq-eqb (min 0 b) 0 (omega arith))
min-some (suc a) zero = ap not (eq-eqb (min (suc a) 0) 0 (omega arith)) ∙ sym (ap (λ c. c && false) (ap not (some-eqb a)))
min-some (suc a) (suc b) = ap not (ne_eqb (min (suc a) (suc b)) 0 (λ e. omega (arith, e))) ∙ sym (ap₂ (λ x y. not x && not y) (some-eqb a) (some-eqb b))

and-true : (a : Bool) → a && true ≡ a
and-true true = refl
and-true false = refl

module _ {A : Type 0} (figure : A → ℕ) where
  -- No figure is 0 exactly where the least of them is not.
  all-least : (x : A) (xs : List A) → all (λ x. not (eqb (figure x) 0)) (x ∷ xs) ≡ not (eqb (least (map figure (x ∷ xs))) 0)
  all-least x [] = and-true (not (eqb (figure x) 0))
  all-least x (y ∷ ys) = ap (λ c. not (eqb (figure x) 0) && c) (all-least y ys) ∙ sym (min-some (figure x) (least (map figure (y ∷ ys))))

  some-least : (x : A) (xs : List A) → Has x xs → all (λ x. not (eqb (figure x) 0)) xs ≡ not (eqb (least (map figure xs)) 0)
  some-least x [] h = absurd h
  some-least x (y ∷ ys) h = all-least y ys

-- none is kept exactly where all fail the test
pub kept_none : {A : Type 0} (p : A → Bool) (xs : List A) → is_empty (keep p xs) ≡ all (λ x. not (p x)) xs
kept_none p [] = refl
kept_none p (x ∷ xs) = go (p x) (kept_none p xs)
  where
    go : (b : Bool) → is_empty (keep p xs) ≡ all (λ x. not (p x)) xs → is_empty (put_if b x (keep p xs)) ≡ not b && all (λ x. not (p x)) xs
    go true ih = refl
    go false ih = ih

module _ (t : List Node) (s : Shape) (e : ℕ) where
  -- An edge is full exactly when its least number of children is not 0.
  pub full_least : (r : Node) → Has r (of_kind t (kind s (parent s e))) → full t s e ≡ not (eqb (least (child_numbers t s e)) 0)
  unfolding full child_numbers
  full_least r h = some-least (closest_number t (kind s e)) r (of_kind t (kind s (parent s e))) h

  -- No row of an entry's type lacks a partner exactly when its least number of parents is not 0.
  pub alone-least : (r : Node) → Has r (of_kind t (kind s e)) → is_empty (alone t s e) ≡ not (eqb (least (parent_numbers t s e)) 0)
  unfolding alone parent_numbers
  alone-least r h =
      kept_none (λ r. eqb (closest_number t (kind s (parent s e)) r) 0) (of_kind t (kind s e))
      ∙ some-least (closest_number t (kind s (parent s e))) r (of_kind t (kind s e)) h

-- ---- the numbers of an edge
module _ (t : List Node) (s : Shape) (e : ℕ) where
  -- Every parent row's number of children lies between the least and the greatest, and both are reached.
  pub children_range : (r : Node) → Has r (of_kind t (kind s (parent s e)))
      → Range (closest_number t (kind s e)) (of_kind t (kind s (parent s e))) (least (child_numbers t s e)) (greatest (child_numbers t s e))
  unfolding child_numbers
  children_range = range (closest_number t (kind s e)) (of_kind t (kind s (parent s e)))

  -- So does every child row's number of parents.
  pub parents_range : (r : Node) → Has r (of_kind t (kind s e))
      → Range (closest_number t (kind s (parent s e))) (of_kind t (kind s e)) (least (parent_numbers t s e)) (greatest (parent_numbers t s e))
  unfolding parent_numbers
  parents_range = range (closest_number t (kind s (parent s e))) (of_kind t (kind s e))

-- ---- verdict 1
-- The first entry whose figure is 0 is the same by figures that are equal for each entry
pub first_by : (figure other : ℕ → ℕ) (n e : ℕ) → ((c : ℕ) → 1 ≤ c → c < n → figure c ≡ other c) → FirstNone figure n e → FirstNone other n e
first_by figure other n e same first = record {
  later = first.later;
  inside = first.inside;
  none = sym (same e first.later first.inside) ∙ first.none;
  before = λ c lo hi z. first.before c lo hi (same c lo (omega (arith, first.inside)) ∙ z);
}

module _ (t : List Node) (s : Shape) where
  abbrev told : ℕ → List Node → List Verdict
  told e rs = map (λ (r : Node). missing e r.place) rs

  -- Of the entries from i on, the first with a row that has no partner is named.
  lone_from_lem : (others : List Verdict) (i n e : ℕ) → i ≤ e → e < i + n → is_empty (alone t s e) ≡ false
      → (g p : ℕ) × (i ≤ g) × (g ≤ e) × (is_empty (alone t s g) ≡ false)
      × (first_or kept (join_map (λ e. told e (alone t s e)) (count i n) ++ others) ≡ missing g p)
  lone_from_lem others i zero e le lt some = let z : ⊥ = omega arith in absurd z
  lone_from_lem others i (suc n) e le lt some = go (alone t s i) refl (λ l. lone_from_lem others (suc i) n e l (omega arith) some)
    where
      found : List Node → Verdict
      found rs = first_or kept ((told i rs ++ join_map (λ e. told e (alone t s e)) (count (suc i) n)) ++ others)

      Named : ℕ → Verdict → Type 0
      Named i v = (g p : ℕ) × (i ≤ g) × (g ≤ e) × (is_empty (alone t s g) ≡ false) × (v ≡ missing g p)

      go : (rs : List Node) → alone t s i ≡ rs → (suc i ≤ e → Named (suc i) (found [])) → Named i (found (alone t s i))
      go [] q ih =
          let ne : i ≡ e → ⊥ = λ z. true≢false (sym (ap is_empty q) ∙ ap (λ e. is_empty (alone t s e)) z ∙ some) in
          let (g, p, ig, ge, sg, v) = ih (⊎_elim (λ z. absurd (ne z)) (λ l. l) (eq-or-lt_of_le le)) in
          (g, p, omega (arith, ig), ge, sg, ap found q ∙ v)
      go (r ∷ rs) q ih = (i, r.place, omega arith, le, ap is_empty q, ap found q)

  module _ (rowed : (e : ℕ) → e < length s.ways → (r : Node) × Has r (of_kind t (kind s e))) where
    abbrev least_parent : ℕ → ℕ
    least_parent e = least (parent_numbers t s e)

    -- some row has no partner exactly where the least number of parents is 0
    alone-some : (e : ℕ) → e < length s.ways → least_parent e ≡ 0 → is_empty (alone t s e) ≡ false
    alone-some e le z = let (r, h) = rowed e le in alone-least t s e r h ∙ ap not (eq-eqb (least_parent e) 0 z)

    some_alone : (e : ℕ) → e < length s.ways → is_empty (alone t s e) ≡ false → least_parent e ≡ 0
    some_alone e le some =
        let (r, h) = rowed e le in
        eqb-true (least_parent e) 0 (not-false (eqb (least_parent e) 0) (sym (alone-least t s e r h) ∙ some))

    -- where some entry has the least number 0, the first such entry is named
    named_by : (e : ℕ) → 1 ≤ e → e < length s.ways → least_parent e ≡ 0
        → (g p : ℕ) × (1 ≤ g) × (g ≤ e) × (least_parent g ≡ 0) × (verdict t s ≡ missing g p)
    unfolding verdict lone
    named_by e later inside z = go (length s.ways) refl
      where
        go : (n : ℕ) → length s.ways ≡ n → (g p : ℕ) × (1 ≤ g) × (g ≤ e) × (least_parent g ≡ 0) × (verdict t s ≡ missing g p)
        go zero q = let z : ⊥ = omega arith in absurd z
        go (suc n) q =
            let others = over_pairs (pair_fault t s) (numbers s) in
            let (g, p, lo, hi, some, v) = lone_from_lem others 1 n e later (omega arith) (alone-some e inside z) in
            (g, p, lo, hi, some_alone g (omega arith) some, ap (λ n. first_or kept (join_map (λ e. told e (alone t s e)) (drop 1 (count 0 n)) ++ others)) q ∙ v)

    -- Verdict 1 names the first entry whose least number of parents is 0.
    pub missing_first : (e p : ℕ) → verdict t s ≡ missing e p → FirstNone least_parent (length s.ways) e
    missing_first e p v =
        let (later, inside, r, hr, _) = missing_alone s t e p v in
        record {
          later = later;
          inside = inside;
          none = some_alone e inside (in_some r (alone t s e) hr);
          before = λ g lo hi z.
              let (c, q, _, le, _, u) = named_by g lo (omega arith) z in
              let same : missing c q ≡ missing e p = sym u ∙ v in
              let ce : c ≡ e = cc in
              omega arith;
        }

    -- Where there is such an entry, the verdict is 1 and names it.
    pub first_missing : (e : ℕ) → FirstNone least_parent (length s.ways) e → (p : ℕ) × (verdict t s ≡ missing e p)
    first_missing e first =
        let (g, p, lo, le, z, v) = named_by e first.later first.inside first.none in
        let same : g ≡ e = ⊎_elim (λ q. q) (λ lt. absurd (first.before g lo lt z)) (eq-or-lt_of_le le) in
        (p, subst (λ c. verdict t s ≡ missing c p) same v)
