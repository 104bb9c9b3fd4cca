-- The adorned shape's figures: every parent's count lies between the two, and both are reached. Assumes nothing.
use Prim.Native.Nat.{ℕ, suc, ◌≤◌, ◌<◌, pred}
use native.Mathlib.Omega.{arith}
use mathlib.Core.Path.{◌≡◌, refl, sym, ◌∙◌, ap, subst, subst₂}
use mathlib.Core.Logic.{◌⊎◌, inl, inr}
use mathlib.Core.Bool.{Bool, true, false, not, true≢false}
use mathlib.Core.List.{List, [], ◌∷◌, ◌++◌, map, append_assoc}
use mathlib.Core.Option.{none}
use lib.Dec.{eqb}
use lib.ListN.{length, length-append}
use borrow.Author.Tests.{eq-eqb, ne_eqb, not-true}
use Rattle.paper.specs.Lists
use Rattle.paper.specs.Lists.{Has, Range, keep, same, up, distinct}
use Rattle.paper.specs.Format.{Format, most_types}
use Rattle.paper.specs.Tables.{Row, bad_row, types, row_types, type_number}
use Rattle.paper.specs.Closeness.{Node, nodes, of_kind}
use Rattle.paper.specs.Adorned.{Summary, children_of, counts, summary, summaries_from, adorned}
use Rattle.paper.proofs.Lists.{same_eq, eq_same, keep-has}
use Rattle.paper.proofs.Kept.{range}
use Rattle.paper.proofs.Closeness.{Of, kind_of, of_kind_lem}
use Rattle.paper.proofs.Tables.{Laid, listed_type, type_length, ancestor}

-- ---- types are numbered without gaps: the i-th listed type has number i
abbrev pub Once : List (List ℕ) → Type 0
Once [] = Unit
Once (x ∷ xs) = (Has x xs → ⊥) × Once xs

keep_once : (p : List ℕ → Bool) (xs : List (List ℕ)) → Once xs → Once (keep p xs)
keep_once p [] o = tt
keep_once p (x ∷ xs) o = go (p x) refl (keep_once p xs o.1)
  where
    go : (b : Bool) → p x ≡ b → Once (keep p xs) → Once (elim b [ true ↦ x ∷ keep p xs | false ↦ keep p xs ])
    go true e ih = (λ h. o.0 (keep-has p x xs h).0, ih)
    go false e ih = ih

pub distinct_once : (xs : List (List ℕ)) → Once (distinct xs)
distinct_once [] = tt
distinct_once (x ∷ xs) = (
  λ h. let e = (keep-has (λ y. not (same x y)) x (distinct xs) h).1 in true≢false (sym (eq_same {a = x} refl) ∙ not-true (same x x) e),
  keep_once (λ y. not (same x y)) (distinct xs) (distinct_once xs),
)

-- the number of a type that stands after others
pub number-after : (before : List (List ℕ)) (x : List ℕ) (xs : List (List ℕ)) → (Has x before → ⊥) → type_number (before ++ x ∷ xs) x ≡ length before
unfolding type_number
number-after [] x xs out = rw (eq_same {a = x} {b = x} refl, Lists.place)
number-after (y ∷ before) x xs out = go (same x y) refl (number-after before x xs (λ h. out (inr h)))
  where
    go : (b : Bool) → same x y ≡ b → Lists.place (same x) (before ++ x ∷ xs) ≡ length before
        → Lists.place (same x) (y ∷ (before ++ x ∷ xs)) ≡ suc (length before)
    go true e ih = absurd (out (inl (same_eq x y e)))
    go false e ih = rw (e, Lists.place) (ap suc ih)

module _ (t : List Node) (ts : List (List ℕ)) where
  summaries_at : (before xs : List (List ℕ)) → before ++ xs ≡ ts → Once xs → ((y : List ℕ) → Has y xs → Has y before → ⊥) → (x : Summary)
      → Has x (summaries_from t ts (length before) xs) → (v : List ℕ) × Has v xs × (x ≡ summary t ts (type_number ts v) v)
  summaries_at before [] e o out x h = absurd h
  summaries_at before (v ∷ xs) e o out x (inl q) =
      let n : type_number ts v ≡ length before = subst (λ l. type_number l v ≡ length before) e (number-after before v xs (out v (inl refl))) in
      (v, inl refl, q ∙ ap (λ k. summary t ts k v) (sym n))
  summaries_at before (v ∷ xs) e o out x (inr h) =
      let l : length (before ++ (v ∷ [])) ≡ suc (length before) = omega (arith, length-append before (v ∷ [])) in
      let r = summaries_at (before ++ (v ∷ [])) xs (append_assoc before (v ∷ []) xs ∙ e) o.1
      (λ y hy hb. new y hy (Rattle.paper.proofs.Lists.has_append y before (v ∷ []) hb)) x
      (subst (λ n. Has x (summaries_from t ts n xs)) (sym l) h) in
      (r.0, inr r.1, r.2)
    where
      new : (y : List ℕ) → Has y xs → Has y before ⊎ Has y (v ∷ []) → ⊥
      new y hy (inl b) = out y (inr hy) b
      new y hy (inr (inl q)) = o.0 (subst (λ z. Has z xs) q hy)
      new y hy (inr (inr w)) = w

-- each summary is that of a listed type, under the type's number
pub adorned_summary : (rs : List Row) (x : Summary) → Has x (adorned rs)
    → (v : List ℕ) × Has v (types rs) × (x ≡ summary (nodes rs) (types rs) (type_number (types rs) v) v)
unfolding adorned types
adorned_summary rs x h =
    summaries_at (nodes rs) (types rs) [] (types rs) refl (distinct_once (row_types rs)) (λ y hy hb. hb) x h

-- ---- the figures
-- a parent with no child of the type counts as 0
pub children_none : (t : List Node) (k : ℕ) (r : Node) → ((s : Node) → Of t k s → up s.dewey ≡ r.dewey → ⊥) → children_of t k r ≡ 0
unfolding children_of
children_none t k r h = go (keep (λ (s : Node). same (up s.dewey) r.dewey) (of_kind t k)) refl
  where
    go : (l : List Node) → keep (λ (s : Node). same (up s.dewey) r.dewey) (of_kind t k) ≡ l → length l ≡ 0
    go [] e = refl
    go (x ∷ l) e =
        let i = keep-has (λ (s : Node). same (up s.dewey) r.dewey) x (of_kind t k) (subst (λ z. Has x z) (sym e) (inl refl)) in
        absurd (h x (kind_of t k x i.0) (same_eq (up x.dewey) r.dewey i.1))

pub pick-false : {A : Type 0} (b : Bool) (x y : A) → b ≡ false → elim b [ true ↦ x | false ↦ y ] ≡ y
pick-false true x y e = absurd (true≢false e)
pick-false false x y e = refl

-- A root type has its row count as both figures.
pub root_figures : (t : List Node) (ts : List (List ℕ)) (k : ℕ) (v : List ℕ) → length v ≡ 1
    → let x = summary t ts k v in (x.least ≡ x.rows) × (x.greatest ≡ x.rows)
unfolding summary counts
root_figures t ts k v e = rw (eq-eqb (length v) 1 e) (refl, omega arith)

module _ (f : Format) (rs : List Row) (laid : Laid f rs) (sound : bad_row f rs ≡ none) (v : List ℕ) (listed : Has v (types rs)) (deep : 1 < length v) where
  -- the type's number, its parent's, and its summary
  abbrev pub k : ℕ
  k = type_number (types rs) v

  abbrev pub p : ℕ
  p = type_number (types rs) (up v)

  abbrev pub x : Summary
  x = summary (nodes rs) (types rs) k v

  pub figures : (x.parent ≡ p) × (x.least ≡ Lists.least (map (children_of (nodes rs) k) (of_kind (nodes rs) p)))
      × (x.greatest ≡ Lists.most (λ n. n) (map (children_of (nodes rs) k) (of_kind (nodes rs) p)))
  unfolding summary counts
  figures =
      let e = ne_eqb (length v) 1 (λ e. omega arith) in
      let cs = pick-false (eqb (length v) 1) (length (of_kind (nodes rs) k) ∷ []) (map (children_of (nodes rs) k) (of_kind (nodes rs) p)) e in
      (pick-false (eqb (length v) 1) most_types p e, ap Lists.least cs, ap (Lists.most (λ n. n)) cs)

  -- the parent type has a row
  parent_row : (r : Node) × Of (nodes rs) p r
  parent_row =
      let (c, hc, tc, kc) = listed_type f rs laid sound v listed in
      let n = type_length f rs laid sound c v tc in
      let (y, hy, ed, ty, ky) = ancestor f rs laid sound c v tc (pred (length v)) (omega arith) (omega arith) in
      (y, (hy, ky))

  -- the two figures are the range of the parents' counts
  counted : Range (children_of (nodes rs) k) (of_kind (nodes rs) p) x.least x.greatest
  counted =
      let (r, o) = parent_row in
      subst₂ (Range (children_of (nodes rs) k) (of_kind (nodes rs) p)) (sym figures.1) (sym figures.2)
      (range (children_of (nodes rs) k) (of_kind (nodes rs) p) r (of_kind_lem (nodes rs) p r o))

  -- Every parent's count lies between the two.
  pub children_between : (r : Node) → Of (nodes rs) p r → (x.least ≤ children_of (nodes rs) k r) × (children_of (nodes rs) k r ≤ x.greatest)
  children_between r o = counted.between r (of_kind_lem (nodes rs) p r o)

  -- Both are reached.
  pub children_reached : (a b : Node) × Of (nodes rs) p a × Of (nodes rs) p b
      × (children_of (nodes rs) k a ≡ x.least) × (children_of (nodes rs) k b ≡ x.greatest)
  children_reached =
      let (a, ha, ea) = counted.low in
      let (b, hb, eb) = counted.high in
      (a, b, kind_of (nodes rs) p a ha, kind_of (nodes rs) p b hb, ea, eb)
