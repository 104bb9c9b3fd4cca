-- Types and nodes of rows whose labels are exchanged for others, where no two labels that occur become one. Assumes nothing.
use Prim.Native.Nat.{ℕ, zero, suc, pred}
use mathlib.Core.Path.{◌≡◌, refl, sym, ◌∙◌, ap, ap₂, subst}
use mathlib.Core.Logic.{inl, inr, ⊎_elim}
use mathlib.Core.Bool.{Bool, true, false, ◌&&◌, not}
use mathlib.Core.List.{List, [], ◌∷◌, ◌++◌, map, map-map}
use lib.Dec.{eqb}
use lib.ListN.{get_or, take}
use borrow.Author.Tests.{eqb-true, eq-eqb}
use Rattle.paper.specs.Lists.{Has, keep, same, distinct, ways}
use Rattle.paper.specs.Tables.{Row, dewey, row_types, types, type_number}
use Rattle.paper.specs.Closeness.{nodes_from, nodes}
use Rattle.paper.specs.Shapes.{Entry}
use Rattle.paper.specs.Labels.{Pair, occurring, converted, row_with}
use Rattle.paper.proofs.Lists.{same_eq, eq_same, has_append, map-has, take-has, map_append, map-take, map_same}
use Rattle.paper.proofs.Kept.{place_same}
use Rattle.paper.proofs.Tables.{step, distinct-has}
use Rattle.keeping.proofs.WidenedTables.{test_same}
use Rattle.keeping.proofs.Accepted.{row_occurs}

-- the map makes no two labels of the list one
abbrev pub Apart : (ℕ → ℕ) → List ℕ → Type 0
Apart c ls = (x y : ℕ) → Has x ls → Has y ls → c x ≡ c y → x ≡ y

-- a list that has labels of ls alone
abbrev pub Of : List ℕ → List ℕ → Type 0
Of ls k = (x : ℕ) → Has x k → Has x ls

-- ---- elements that pass a test, through a map
keep_same : {A B : Type 0} (p : B → Bool) (q : A → Bool) (to : A → B) (xs : List A) → ((x : A) → Has x xs → p (to x) ≡ q x)
    → keep p (map to xs) ≡ map to (keep q xs)
keep_same p q to [] e = refl
keep_same {A} {B} p q to (x ∷ xs) e =
    ap₂ {C = List B} (λ t l. elim t as (λ _. List B) [ true ↦ to x ∷ l | false ↦ l ]) (e x (inl refl)) (keep_same p q to xs (λ y h. e y (inr h)))
    ∙ through (q x)
  where
    through : (t : Bool) → elim t as (λ _. List B) [ true ↦ to x ∷ map to (keep q xs) | false ↦ map to (keep q xs) ]
        ≡ map to (elim t as (λ _. List A) [ true ↦ x ∷ keep q xs | false ↦ keep q xs ])
    through true = refl
    through false = refl

-- ---- elements by place
pub get_d_map : {A B : Type 0} (to : A → B) (xs : List A) (i : ℕ) (d : A) → get_or (map to xs) i (to d) ≡ to (get_or xs i d)
get_d_map to [] i d = refl
get_d_map to (x ∷ xs) zero d = refl
get_d_map to (x ∷ xs) (suc i) d = get_d_map to xs i d

pub get_d_of : (ls : List ℕ) (ks : List (List ℕ)) (i : ℕ) → ((k : List ℕ) → Has k ks → Of ls k) → Of ls (get_or ks i [])
get_d_of ls [] i each = λ x. absurd
get_d_of ls (k ∷ ks) zero each = each k (inl refl)
get_d_of ls (k ∷ ks) (suc i) each = get_d_of ls ks i (λ j h. each j (inr h))

-- ---- ways
-- the same levels, with other names
abbrev named_by : (ℕ → ℕ) → ℕ × ℕ → ℕ × ℕ
named_by c x = (x.0, c x.1)

ways-with : (c : ℕ → ℕ) (before : List ℕ) (xs : List (ℕ × ℕ)) → ways (map c before) (map (named_by c) xs) ≡ map (map c) (ways before xs)
ways-with c before [] = refl
ways-with c before (x ∷ xs) =
    let way = take (pred x.0) before ++ (x.1 ∷ []) in
    let e : take (pred x.0) (map c before) ++ (c x.1 ∷ []) ≡ map c way =
    ap (λ l. l ++ (c x.1 ∷ [])) (sym (map-take c (pred x.0) before)) ∙ sym (map_append c (take (pred x.0) before) (x.1 ∷ [])) in
    ap₂ {C = List (List ℕ)} (λ k ks. k ∷ ks) e (ap (λ w. ways w (map (named_by c) xs)) e ∙ ways-with c way xs)

-- a way has names of the elements alone
way_own : (ls before : List ℕ) (l n : ℕ) → Of ls before → Has n ls → Of ls (take l before ++ (n ∷ []))
way_own ls before l n old new y h =
    ⊎_elim (λ i. old y (take-has l before y i)) (⊎_elim (λ e. subst (λ z. Has z ls) (sym e) new) absurd) (has_append y (take l before) (n ∷ []) h)

way_of_lem : (ls before : List ℕ) (xs : List (ℕ × ℕ)) → Of ls before → ((x : ℕ × ℕ) → Has x xs → Has x.1 ls)
    → (k : List ℕ) → Has k (ways before xs) → Of ls k
way_of_lem ls before [] old each k h = absurd h
way_of_lem ls before (x ∷ xs) old each k (inl e) =
    subst (λ z. Of ls z) (sym e) (way_own ls before (pred x.0) x.1 old (each x (inl refl)))
way_of_lem ls before (x ∷ xs) old each k (inr h) =
    let way = take (pred x.0) before ++ (x.1 ∷ []) in
    way_of_lem ls way xs (way_own ls before (pred x.0) x.1 old (each x (inl refl))) (λ y i. each y (inr i)) k h

-- ---- lists of labels that stay apart
module _ (c : ℕ → ℕ) (ls : List ℕ) (apart : Apart c ls) where
  -- two such lists are equal afterwards exactly if they were
  pub same-with : (j k : List ℕ) → Of ls j → Of ls k → same (map c j) (map c k) ≡ same j k
  same-with [] [] hj hk = refl
  same-with [] (y ∷ k) hj hk = refl
  same-with (x ∷ j) [] hj hk = refl
  same-with (x ∷ j) (y ∷ k) hj hk =
      ap₂ (λ s t. s && t)
      (test_same (eqb (c x) (c y)) (eqb x y) (λ e. eq-eqb x y (apart x y (hj x (inl refl)) (hk y (inl refl)) (eqb-true (c x) (c y) e)))
      (λ e. eq-eqb (c x) (c y) (ap c (eqb-true x y e))))
      (same-with j k (λ z h. hj z (inr h)) (λ z h. hk z (inr h)))

  pub equal_with : (j k : List ℕ) → Of ls j → Of ls k → map c j ≡ map c k → j ≡ k
  equal_with j k hj hk e = same_eq j k (sym (same-with j k hj hk) ∙ eq_same e)

  -- so each of them once is each of them once
  distinct-with : (ks : List (List ℕ)) → ((k : List ℕ) → Has k ks → Of ls k) → distinct (map (map c) ks) ≡ map (map c) (distinct ks)
  distinct-with [] each = refl
  distinct-with (k ∷ ks) each =
      ap {B = List (List ℕ)} (λ l. map c k ∷ l)
      (ap (keep (λ y. not (same (map c k) y))) (distinct-with ks (λ j h. each j (inr h)))
      ∙ keep_same (λ y. not (same (map c k) y)) (λ y. not (same k y)) (map c) (distinct ks) (λ j h.
      ap not (same-with k j (each k (inl refl)) (each j (inr (distinct-has j ks h))))))

  -- and a list stands at the same number among them
  number-with : (ts : List (List ℕ)) (k : List ℕ) → ((t : List ℕ) → Has t ts → Of ls t) → Of ls k
      → type_number (map (map c) ts) (map c k) ≡ type_number ts k
  unfolding type_number
  number-with ts k each hk = place_same (same (map c k)) (same k) (map c) ts (λ t h. same-with k t hk (each t h))

-- ---- the types of rows
module _ (ps : List Pair) (rs : List Row) where
  abbrev rows' : List Row
  rows' = map (row_with ps) rs

  -- THE TYPES OF THE ROWS are those that they had, label by label.
  pub row-types-with : row_types rows' ≡ map (map (converted ps)) (row_types rs)
  unfolding row_types
  row-types-with = ap (ways []) (map-map step (row_with ps) rs ∙ sym (map-map (named_by (converted ps)) step rs)) ∙ ways-with (converted ps) [] (map step rs)

  module _ (es : List Entry) where
    -- every label of a row's type occurs
    pub row_type_of : (k : List ℕ) → Has k (row_types rs) → Of (occurring rs es) k
    unfolding row_types
    row_type_of k h =
        way_of_lem (occurring rs es) [] (map step rs) (λ x. absurd) (λ x i.
        let (r, hr, e) = map-has step x rs i in
        subst (λ z. Has z (occurring rs es)) (sym (ap (λ (y : ℕ × ℕ). y.1) e)) (row_occurs rs es r hr)) k h

    pub type_of_lem : (k : List ℕ) → Has k (types rs) → Of (occurring rs es) k
    unfolding types
    type_of_lem k h = row_type_of k (distinct-has k (row_types rs) h)

    module _ (apart : Apart (converted ps) (occurring rs es)) where
      -- THE TYPES, as they are numbered, are those that they were, label by label.
      pub types-with : types rows' ≡ map (map (converted ps)) (types rs)
      unfolding types
      types-with = ap distinct row-types-with ∙ distinct-with (converted ps) (occurring rs es) apart (row_types rs) row_type_of

      -- EQUAL TYPES: two rows have the same type afterwards exactly if they had the same before.
      pub equal_types : (i j : ℕ) → let type : ℕ → List ℕ = λ i. get_or (row_types rs) i [] in let type' : ℕ → List ℕ = λ i. get_or (row_types rows') i [] in
          (same (type' i) (type' j) ≡ same (type i) (type j)) × (type' i ≡ type' j → type i ≡ type j) × (type i ≡ type j → type' i ≡ type' j)
      equal_types i j =
          let ls = occurring rs es in
          let k = get_or (row_types rs) i [] in
          let l = get_or (row_types rs) j [] in
          let hk = get_d_of ls (row_types rs) i row_type_of in
          let hl = get_d_of ls (row_types rs) j row_type_of in (
            ap₂ same (type_at i) (type_at j) ∙ same-with (converted ps) ls apart k l hk hl,
            λ e. equal_with (converted ps) ls apart k l hk hl (sym (type_at i) ∙ e ∙ type_at j),
            λ e. type_at i ∙ ap (map (converted ps)) e ∙ sym (type_at j),
          )
        where
          type_at : (i : ℕ) → get_or (row_types rows') i [] ≡ map (converted ps) (get_or (row_types rs) i [])
          type_at i = ap (λ l. get_or l i []) row-types-with ∙ get_d_map (map (converted ps)) (row_types rs) i []

      -- A type keeps its number.
      pub type_numbers : (k : List ℕ) → Of (occurring rs es) k → type_number (types rows') (map (converted ps) k) ≡ type_number (types rs) k
      type_numbers k h =
          ap (λ ts. type_number ts (map (converted ps) k)) types-with ∙ number-with (converted ps) (occurring rs es) apart (types rs) k type_of_lem h

      -- THE NODES are those that they were, so that rows meet where they met.
      pub nodes-with : nodes rows' ≡ nodes rs
      unfolding nodes
      nodes-with =
          ap₂ (nodes_from 0)
          (ap (map (type_number (types rows'))) row-types-with ∙ map-map (type_number (types rows')) (map (converted ps)) (row_types rs)
          ∙ map_same (λ k. type_number (types rows') (map (converted ps) k)) (type_number (types rs)) (row_types rs) (λ k h. type_numbers k (row_type_of k h)))
          (map-map dewey (row_with ps) rs)
