-- What one pair of entries earns: from what is found of its ways, and by the paper's definition. Assumes nothing.
use Prim.Native.Nat.{ℕ, zero, suc, ◌+◌, ◌≤◌, ◌<◌, min}
use native.Mathlib.Omega.{arith}
use mathlib.Core.Path.{◌≡◌, refl, sym, ◌∙◌, ap, ap₂}
use mathlib.Core.Logic.{◌⊎◌, inl, inr, ⊎_elim}
use mathlib.Core.Bool.{Bool, true, false, ◌&&◌, ◌||◌, not, true≢false}
use mathlib.Core.List.{List, [], ◌∷◌, ◌++◌, map}
use lib.Dec.{eqb, leb}
use lib.ListN.{get_or, drop}
use borrow.Author.Tests.{eqb-true, eq-eqb, ne_eqb, leb-true, leb-false, le-leb}
use Rattle.paper.specs.Lists.{Has, all, any, is_empty, first_or, join_map, count}
use Rattle.paper.specs.Closeness.{Node, shared}
use Rattle.paper.specs.Shapes as Paper
use Rattle.paper.specs.Shapes.{way, side, path}
use Rattle.paper.specs.Verdict
use Rattle.paper.specs.Verdict.{kept, missing, apart, unsure, is_apart, verdict_numbers, is_least, over_pairs}
use Rattle.paper.specs.Verdict.{meeting, edge_level, sure_down, meets_least, sure, pair_fault}
use Rattle.paper.proofs.Lists.{both, and, or_left, has_left, has_right, has_all, any_has, has_any, map_append}
use Rattle.paper.proofs.Papers.{same_test}
use Rattle.paper.proofs.Agree.{shared-sym}
use Rattle.judging.specs.Pairs.{way_of, lowest, levels_on, least_on, sure_on, Found, earned_by, earned, fault, apart_by}
use Rattle.judging.specs.declared.pairs.Path.{Path}

-- a pair's verdict by whether its types meet at the least level and whether some edge of that level is sure
abbrev verdict_by : ℕ → ℕ → Bool → Bool → Verdict.Verdict
verdict_by e f t u = elim t [ true ↦ elim u [ true ↦ kept | false ↦ unsure e f ] | false ↦ apart e f ]

-- ---- from what is found
module _ {levels edges ways : List ℕ} {e f : ℕ} {path : Path} (w : Found levels edges ways e f path) (full : List Bool) (m : ℕ) where
  abbrev k : ℕ
  k = path.shared

  abbrev l : ℕ
  l = path.least

  -- is a way sure from place k on?
  abbrev sure_to : ℕ → Bool
  sure_to e = sure_on edges full m (drop k (way_of levels ways e))

  earned_by_lem : (t u : Bool) → eqb l m ≡ t → sure_to e || sure_to f ≡ u → verdict_by e f t u ≡ earned levels edges full ways m e f
  earned_by_lem t u qt qu = rw (← qt, ← qu, w.least-is, w.shared-is) refl

  -- the least level is another than that at which the types meet
  pub earned_apart : (path.least ≡ m → ⊥) → apart e f ≡ earned levels edges full ways m e f
  earned_apart ne = earned_by_lem false (sure_to e || sure_to f) (ne_eqb l m ne) refl

  module _ (meets : path.least ≡ m) (x : Bool) (qx : x ≡ sure_on edges full m (drop path.shared (way_of levels ways e))) where
    -- one way is sure
    pub earned_down : x ≡ true → kept ≡ earned levels edges full ways m e f
    earned_down h = earned_by_lem true true (eq-eqb l m meets) (or_left (sure_to f) (sym qx ∙ h))

    module _ (lost : x ≡ false) (y : Bool) (qy : y ≡ sure_on edges full m (drop path.shared (way_of levels ways f))) where
      earned-up : (u : Bool) → y ≡ u → verdict_by e f true u ≡ earned levels edges full ways m e f
      earned-up u h = earned_by_lem true u (eq-eqb l m meets) (ap₂ (λ x y. x || y) (sym qx ∙ lost) (sym qy ∙ h))

      -- only the other way is sure
      pub earned_kept : y ≡ true → kept ≡ earned levels edges full ways m e f
      earned_kept = earned-up true

      -- no way is sure
      pub earned_unsure : y ≡ false → unsure e f ≡ earned levels edges full ways m e f
      earned_unsure = earned-up false

-- ---- the least level
lowest_le : (b : ℕ) (xs : List ℕ) → lowest b xs ≤ b
lowest_le b [] = omega arith
lowest_le b (x ∷ xs) = omega (arith, lowest_le (min b x) xs)

lowest-has : (b x : ℕ) (xs : List ℕ) → Has x xs → lowest b xs ≤ x
lowest-has b x [] h = absurd h
lowest-has b x (y ∷ xs) (inl q) = omega (arith, lowest_le (min b y) xs)
lowest-has b x (y ∷ xs) (inr h) = lowest-has (min b y) x xs h

lowest_ge : (m b : ℕ) (xs : List ℕ) → m ≤ b → all (leb m) xs ≡ true → m ≤ lowest b xs
lowest_ge m b [] le h = le
lowest_ge m b (x ∷ xs) le h =
    let r = both (leb m x) (all (leb m) xs) h in
    let lx : m ≤ x = leb-true m x r.0 in
    lowest_ge m (min b x) xs (omega arith) r.1

-- the least is b or one of the list
lowest_reached : (b : ℕ) (xs : List ℕ) → (lowest b xs ≡ b) ⊎ Has (lowest b xs) xs
lowest_reached b [] = inl refl
lowest_reached b (x ∷ xs) = ⊎_elim (λ q. go (leb b x) refl q) (λ h. inr (inr h)) (lowest_reached (min b x) xs)
  where
    go : (t : Bool) → leb b x ≡ t → lowest (min b x) xs ≡ min b x → (lowest (min b x) xs ≡ b) ⊎ Has (lowest (min b x) xs) (x ∷ xs)
    go true e q = let le = leb-true b x e in inl (omega arith)
    go false e q = let lt = leb-false b x e in inr (inl (omega arith))

-- m is the least, as it is below b
lowest-least : (m b : ℕ) (xs : List ℕ) → m < b → eqb (lowest b xs) m ≡ is_least m xs
lowest-least m b xs lt = same_test (eqb (lowest b xs) m) (is_least m xs) there back
  where
    there : eqb (lowest b xs) m ≡ true → is_least m xs ≡ true
    there h =
        let q : lowest b xs ≡ m = eqb-true (lowest b xs) m h in
        and (⊎_elim (λ r. let z : ⊥ = omega arith in absurd z) (λ i. has_any (eqb m) (lowest b xs) xs i (eq-eqb m (lowest b xs) (sym q)))
        (lowest_reached b xs))
        (has_all (leb m) xs (λ x i. le-leb m x (omega (arith, lowest-has b x xs i))))

    back : is_least m xs ≡ true → eqb (lowest b xs) m ≡ true
    back h =
        let (a, l) = both (any (eqb m) xs) (all (leb m) xs) h in
        let (x, i, q) = any_has (eqb m) xs a in
        eq-eqb (lowest b xs) m (omega (arith, lowest-has b x xs i, eqb-true m x q, lowest_ge m b xs (omega arith) l))

lowest_append : (b : ℕ) (xs ys : List ℕ) → lowest (lowest b xs) ys ≡ lowest b (xs ++ ys)
lowest_append b [] ys = refl
lowest_append b (x ∷ xs) ys = lowest_append (min b x) xs ys

-- ---- by the paper's definition
-- a pair's fault, as the paper writes it
abbrev fault_by : ℕ → ℕ → Bool → Bool → List Verdict.Verdict
fault_by e f w u = elim w [ false ↦ apart e f ∷ [] | true ↦ elim u [ true ↦ [] | false ↦ unsure e f ∷ [] ] ]

fault_by_lem : (e f : ℕ) (w u : Bool) → fault (verdict_by e f w u) ≡ fault_by e f w u
fault_by_lem e f true true = refl
fault_by_lem e f true false = refl
fault_by_lem e f false u = refl

module _ (t : List Node) (p : Paper.Shape) (edges : List ℕ) where
  -- the array has the levels of these edges
  abbrev pub Levels : List ℕ → Type 0
  Levels cs = (c : ℕ) → Has c cs → get_or edges c 0 ≡ edge_level t p c

  levels_same : (cs : List ℕ) → Levels cs → levels_on edges cs ≡ map (edge_level t p) cs
  levels_same [] h = refl
  levels_same (c ∷ cs) h = ap₂ {C = List ℕ} (λ x xs. x ∷ xs) (h c (inl refl)) (levels_same cs (λ d i. h d (inr i)))

  module _ (e f m : ℕ) (meets : m ≡ meeting t p e f) (low : m < 255) (levels : Levels (path p e f)) where
    -- the edges on the way to f from the fork on
    up_is : drop (shared (way p e) (way p f)) (way p f) ≡ side p f e
    up_is = ap (λ k. drop k (way p f)) (shared-sym (way p e) (way p f))

    -- the types meet at the least level on the path exactly where the paper says so
    pub least-is : eqb (least_on edges (way p e) (way p f)) m ≡ meets_least t p e f
    unfolding meets_least
    least-is =
        ap (λ u. eqb (lowest (lowest 255 (levels_on edges (side p e f))) (levels_on edges u)) m) up_is
        ∙ ap (λ x. eqb x m) (lowest_append 255 (levels_on edges (side p e f)) (levels_on edges (side p f e))
        ∙ ap (lowest 255) (sym (map_append (λ c. get_or edges c 0) (side p e f) (side p f e)) ∙ levels_same (path p e f) levels))
        ∙ lowest-least m 255 (map (edge_level t p) (path p e f)) low ∙ ap (λ x. is_least x (map (edge_level t p) (path p e f))) meets

    module _ (full : List Bool) (fulls : (c : ℕ) → Has c (path p e f) → get_or full c false ≡ Verdict.full t p c) where
      sure_same : (l : ℕ) (cs : List ℕ) → ((c : ℕ) → Has c cs → Has c (path p e f)) → sure_on edges full l cs ≡ sure_down t p l cs
      sure_same l [] on = refl
      sure_same l (c ∷ cs) on =
          let h = on c (inl refl) in
          ap₂ (λ x y. eqb x l || y) (levels c h) (ap₂ (λ x y. x && y) (fulls c h) (sure_same l cs (λ d i. on d (inr i))))

      sure_is : sure_on edges full m (side p e f) || sure_on edges full m (side p f e) ≡ sure t p e f
      unfolding sure
      sure_is =
          ap₂ (λ x y. x || y) (sure_same m (side p e f) (λ c h. has_left c (side p e f) (side p f e) h))
          (sure_same m (side p f e) (λ c h. has_right c (side p e f) (side p f e) h))
          ∙ ap (λ x. sure_down t p x (side p e f) || sure_down t p x (side p f e)) meets

      -- a pair earns what the paper says
      pub earned-fault : fault (earned_by edges full m e f (way p e) (way p f)) ≡ pair_fault t p e f
      unfolding pair_fault
      earned-fault =
          ap (λ u. fault (verdict_by e f (eqb (least_on edges (way p e) (way p f)) m) (sure_on edges full m (side p e f) || sure_on edges full m u))) up_is
          ∙ ap₂ (λ w u. fault (verdict_by e f w u)) least-is sure_is ∙ fault_by_lem e f (meets_least t p e f) (sure t p e f)

-- ---- all pairs
-- What the pairs give is related where what each pair gives is: for a relation of lists that holds of nothing, and of two parts together
-- where it holds of each.
module _ {A B : Type 0} (R : List A → List B → Type 0) (none : R [] [])
    (more : (xs zs : List A) (ys ws : List B) → R xs ys → R zs ws → R (xs ++ zs) (ys ++ ws)) where
  pub join_related : (g : ℕ → List A) (h : ℕ → List B) (i n : ℕ) → ((f : ℕ) → i ≤ f → f < i + n → R (g f) (h f))
      → R (join_map g (count i n)) (join_map h (count i n))
  join_related g h i zero q = none
  join_related g h i (suc n) q =
      more (g i) (join_map g (count (suc i) n)) (h i) (join_map h (count (suc i) n)) (q i (omega arith) (omega arith))
      (join_related g h (suc i) n (λ f le lt. q f (omega arith) (omega arith)))

  pub pairs_related : (g : ℕ → ℕ → List A) (h : ℕ → ℕ → List B) (i n : ℕ) → ((e f : ℕ) → i ≤ e → e < f → f < i + n → R (g e f) (h e f))
      → R (over_pairs g (count i n)) (over_pairs h (count i n))
  pairs_related g h i zero q = none
  pairs_related g h i (suc n) q =
      more (join_map (g i) (count (suc i) n)) (over_pairs g (count (suc i) n)) (join_map (h i) (count (suc i) n)) (over_pairs h (count (suc i) n))
      (join_related (g i) (h i) (suc i) n (λ f le lt. q i f (omega arith) (omega arith) (omega arith)))
      (pairs_related g h (suc i) n (λ e f le ef lt. q e f (omega arith) ef (omega arith)))

-- equal parts make equal lists
pub more_same : {A : Type 0} (xs zs ys ws : List A) → xs ≡ ys → zs ≡ ws → xs ++ zs ≡ ys ++ ws
more_same {A} xs zs ys ws p q = ap₂ {C = List A} (λ x y. x ++ y) p q

-- ---- the pairs that earn a 2
-- the one list is empty exactly where the other holds no 2
abbrev pub NoneIn : List Verdict.Verdict → List Verdict.Verdict → Type 0
NoneIn xs ys = is_empty xs ≡ not (any is_apart ys)

pub none_more : (xs zs ys ws : List Verdict.Verdict) → NoneIn xs ys → NoneIn zs ws → NoneIn (xs ++ zs) (ys ++ ws)
none_more [] zs [] ws p q = q
none_more [] zs (y ∷ ys) ws p q = go (is_apart y) p (λ e. none_more [] zs ys ws e q)
  where
    go : (b : Bool) → true ≡ not (b || any is_apart ys) → (true ≡ not (any is_apart ys) → is_empty zs ≡ not (any is_apart (ys ++ ws)))
        → is_empty zs ≡ not (b || any is_apart (ys ++ ws))
    go true e ih = absurd (true≢false e)
    go false e ih = ih e
none_more (x ∷ xs) zs [] ws p q = absurd (true≢false (sym p))
none_more (x ∷ xs) zs (y ∷ ys) ws p q = go (is_apart y) p (λ e. none_more (x ∷ xs) zs ys ws e q)
  where
    go : (b : Bool) → false ≡ not (b || any is_apart ys) → (false ≡ not (any is_apart ys) → false ≡ not (any is_apart (ys ++ ws)))
        → false ≡ not (b || any is_apart (ys ++ ws))
    go true e ih = refl
    go false e ih = ih e

-- a pair's 2 is the 2 among its faults
none-by : (e f : ℕ) (w u : Bool) → NoneIn (apart_by e f w) (fault_by e f w u)
none-by e f true true = refl
none-by e f true false = refl
none-by e f false u = refl

pub none_paper : (t : List Node) (p : Paper.Shape) (e f : ℕ) (w : Bool) → w ≡ meets_least t p e f → NoneIn (apart_by e f w) (pair_fault t p e f)
unfolding pair_fault
none_paper t p e f w q = ap (λ w. is_empty (apart_by e f w)) q ∙ none-by e f (meets_least t p e f) (sure t p e f)

pub none-fault : (edges : List ℕ) (full : List Bool) (m e f : ℕ) (a b : List ℕ)
    → NoneIn (apart_by e f (eqb (least_on edges a b) m)) (fault (earned_by edges full m e f a b))
none-fault edges full m e f a b =
    let w = eqb (least_on edges a b) m in
    let u = sure_on edges full m (drop (shared a b) a) || sure_on edges full m (drop (shared a b) b) in
    none-by e f w u ∙ ap (λ l. not (any is_apart l)) (sym (fault_by_lem e f w u))

-- ---- the first of the faults
-- nothing but an empty list has `kept` for its first
abbrev pub FirstIn : List Verdict.Verdict → List Verdict.Verdict → Type 0
FirstIn xs ys = first_or kept ys ≡ kept → ys ≡ []

pub first_more : (xs zs ys ws : List Verdict.Verdict) → FirstIn xs ys → FirstIn zs ws → FirstIn (xs ++ zs) (ys ++ ws)
first_more xs zs [] ws p q = q
first_more xs zs (y ∷ ys) ws p q = λ e. let z : ◌≡◌ {A = Bool} false true = ap is_empty (p e) in absurd (true≢false (sym z))

pub first_fault_lem : (v : Verdict.Verdict) → FirstIn [] (fault v)
first_fault_lem kept q = refl
first_fault_lem (missing c r) q = let z : ◌≡◌ {A = ℕ} 1 0 = ap (λ v. first_or 0 (verdict_numbers v)) q in absurd (omega arith)
first_fault_lem (apart c d) q = let z : ◌≡◌ {A = ℕ} 2 0 = ap (λ v. first_or 0 (verdict_numbers v)) q in absurd (omega arith)
first_fault_lem (unsure c d) q = let z : ◌≡◌ {A = ℕ} 3 0 = ap (λ v. first_or 0 (verdict_numbers v)) q in absurd (omega arith)
