-- One pass over a table that lists its types: what the arrays hold before row i. Assumes nothing.
use Prim.Native.Nat.{ℕ, zero, suc, ◌≤◌, ◌<◌, pred}
use native.Mathlib.Nat.{not-suc-le-zero, le_of_suc-le-suc}
use native.Mathlib.Omega.{arith}
use mathlib.Core.Path.{◌≡◌, refl, sym, ◌∙◌, ap, ap₂, subst}
use mathlib.Core.Logic.{◌⊎◌, inl, inr}
use mathlib.Core.Bool.{Bool, true, false, false≢true}
use mathlib.Core.List.{List, [], ◌∷◌, ◌++◌, map}
use lib.ListN.{length, get_or, take, length-take, length-append}
use lib.Seq.{take-suc, take-take, take-append-le}
use Rattle.paper.specs.Lists.{Has, last_or, place, same, distinct, up, ways}
use Rattle.paper.specs.Format.{most_types}
use Rattle.paper.specs.Tables.{type_number}
use Rattle.paper.proofs.Lists.{same_eq, eq_same, same_self, has_right, get_d_has, up_snoc, last_snoc, take-has}
use Rattle.paper.proofs.Tables.{has-distinct, distinct-has, number_at, number_same, length-ways}
use Rattle.paper.proofs.Adorned.{Once}
use Rattle.types.proofs.Ways.{before, ways-at, closed, way_whole}

-- a type's number, and 64 for none
abbrev pub number_or : List (List ℕ) → List ℕ → ℕ
number_or ts [] = most_types
number_or ts (x ∷ v) = type_number ts (x ∷ v)

-- a type keeps its number when another is added
pub number_left : (ts : List (List ℕ)) (v k : List ℕ) → Has k ts → type_number (ts ++ (v ∷ [])) k ≡ type_number ts k
unfolding type_number
number_left [] v k h = absurd h
number_left (t ∷ ts) v k h = go (same k t) refl h (number_left ts v k)
  where
    go : (b : Bool) → same k t ≡ b → Has k (t ∷ ts) → (Has k ts → place (same k) (ts ++ (v ∷ [])) ≡ place (same k) ts)
        → place (same k) (t ∷ (ts ++ (v ∷ []))) ≡ place (same k) (t ∷ ts)
    go true e h ih = rw (e, place) refl
    go false e (inl q) ih = absurd (false≢true (sym e ∙ eq_same q))
    go false e (inr h) ih = rw (e, place) (ap suc (ih h))

-- the type at a place has that number
pub once_number : (ts : List (List ℕ)) → Once ts → (k : ℕ) → k < length ts → type_number ts (get_or ts k []) ≡ k
unfolding type_number
once_number [] o k lt = absurd (not-suc-le-zero lt)
once_number (t ∷ ts) o zero lt = rw (same_self t, place) refl
once_number (t ∷ ts) o (suc k) lt = go (same (get_or ts k []) t) refl (once_number ts o.1 k (le_of_suc-le-suc lt))
  where
    go : (b : Bool) → same (get_or ts k []) t ≡ b → place (same (get_or ts k [])) ts ≡ k → place (same (get_or ts k [])) (t ∷ ts) ≡ suc k
    go true e ih = absurd (o.0 (subst (λ z. Has z ts) (same_eq (get_or ts k []) t e) (get_d_has [] ts k (le_of_suc-le-suc lt))))
    go false e ih = rw (e, place) (ap suc ih)

-- the first place of a list
pub place-first : (v : List ℕ) (xs : List (List ℕ)) (i : ℕ) → i < length xs → get_or xs i [] ≡ v → (Has v (take i xs) → ⊥) → place (same v) xs ≡ i
place-first v [] i lt e out = absurd (not-suc-le-zero lt)
place-first v (x ∷ xs) zero lt e out = rw (eq_same (sym e), place) refl
place-first v (x ∷ xs) (suc i) lt e out = go (same v x) refl (place-first v xs i (le_of_suc-le-suc lt) e (λ h. out (inr h)))
  where
    go : (b : Bool) → same v x ≡ b → place (same v) xs ≡ i → place (same v) (x ∷ xs) ≡ suc i
    go true q ih = absurd (out (inl (same_eq v x q)))
    go false q ih = rw (q, place) (ap suc ih)

module _ (xs : List (ℕ × ℕ)) where
  -- the types of all, and those of the first i elements, each once
  abbrev pub all : List (List ℕ)
  all = ways [] xs

  abbrev pub seen : ℕ → List (List ℕ)
  seen i = distinct (take i (ways [] xs))

  pub record Pass (i count : ℕ) (kinds parents labels stack : List ℕ) : Type 0 where
    pub inside : i ≤ length (ways [] xs)
    pub counted : count ≡ length (seen i)
    pub few : count ≤ most_types
    pub numbered : (j : ℕ) → j < i → get_or kinds j 0 ≡ type_number (seen i) (get_or (ways [] xs) j [])
    pub names : (k : ℕ) → k < count → get_or labels k 0 ≡ last_or 0 (get_or (seen i) k [])
    pub parented : (k : ℕ) → k < count → get_or parents k 0 ≡ number_or (seen i) (up (get_or (seen i) k []))
    pub stacked : (j : ℕ) → j ≤ length (before (ways [] xs) i) → get_or stack j 0 ≡ number_or (seen i) (take j (before (ways [] xs) i))

  -- ---- what has been seen
  pub seen_all : (i : ℕ) (u : List ℕ) → Has u (seen i) → Has u (take i (ways [] xs))
  seen_all i u h = distinct-has u (take i (ways [] xs)) h

  -- nothing, or something seen
  abbrev pub Known : ℕ → List ℕ → Type 0
  Known i u = (u ≡ []) ⊎ Has u (seen i)

  pub known_prefix : (i : ℕ) (u : List ℕ) → Has u (seen i) → (k : ℕ) → k ≤ length u → Known i (take k u)
  known_prefix i u h zero le = inl refl
  known_prefix i u h (suc k) le = inr (has-distinct (take (suc k) u) (take i (ways [] xs)) (closed xs i u (seen_all i u h) (suc k) (omega arith) le))

  -- a type is what stands above it and its last label
  pub whole : (i : ℕ) (u : List ℕ) → Has u (seen i) → u ≡ up u ++ (last_or 0 u ∷ [])
  whole i u h =
      let (v, c, e) = way_whole [] xs u (take-has i (ways [] xs) u (seen_all i u h)) in
      e ∙ ap₂ (λ a b. a ++ (b ∷ [])) (sym (up_snoc v c) ∙ sym (ap up e)) (sym (last_snoc 0 v c) ∙ sym (ap (last_or 0) e))

  pub known_up : (i : ℕ) (u : List ℕ) → Has u (seen i) → Known i (up u)
  known_up i u h = known_prefix i u h (pred (length u)) (omega arith)

  pub known_before : (i : ℕ) → i ≤ length (ways [] xs) → (j : ℕ) → j ≤ length (before (ways [] xs) i) → Known i (take j (before (ways [] xs) i))
  known_before zero le zero lj = inl refl
  known_before zero le (suc j) lj = absurd (not-suc-le-zero lj)
  known_before (suc i) le j lj = known_prefix (suc i) (get_or (ways [] xs) i []) (has-distinct (get_or (ways [] xs) i []) (take (suc i) (ways [] xs)) here) j lj
    where
      here : Has (get_or (ways [] xs) i []) (take (suc i) (ways [] xs))
      here = subst (λ l. Has (get_or (ways [] xs) i []) l) (sym (take-suc (ways [] xs) i [] le))
          (has_right (get_or (ways [] xs) i []) (take i (ways [] xs)) (get_or (ways [] xs) i [] ∷ []) (inl refl))

  -- numbers tell the known apart
  pub number-one : (i : ℕ) → length (seen i) ≤ most_types → (u v : List ℕ) → Known i u → Known i v → number_or (seen i) u ≡ number_or (seen i) v → u ≡ v
  number-one i few [] [] a b e = refl
  number-one i few [] (y ∷ v) a (inl q) e = sym q
  number-one i few [] (y ∷ v) a (inr h) e = let z : ⊥ = omega (arith, (number_at (y ∷ v) (seen i) h).0) in absurd z
  number-one i few (x ∷ u) [] (inl q) b e = q
  number-one i few (x ∷ u) [] (inr h) b e = let z : ⊥ = omega (arith, (number_at (x ∷ u) (seen i) h).0) in absurd z
  number-one i few (x ∷ u) (y ∷ v) (inl q) b e = let z : ⊥ = omega (arith, ap length q) in absurd z
  number-one i few (x ∷ u) (y ∷ v) (inr h) (inl q) e = let z : ⊥ = omega (arith, ap length q) in absurd z
  number-one i few (x ∷ u) (y ∷ v) (inr h) (inr k) e = number_same (x ∷ u) (y ∷ v) (seen i) h k e

  -- and they stay when a type is added
  pub number-stays : (i : ℕ) (v u : List ℕ) → Known i u → number_or (seen i ++ (v ∷ [])) u ≡ number_or (seen i) u
  number-stays i v [] k = refl
  number-stays i v (x ∷ u) (inl q) = let z : ⊥ = omega (arith, ap length q) in absurd z
  number-stays i v (x ∷ u) (inr h) = number_left (seen i) v (x ∷ u) h

  pub number-some : (ts : List (List ℕ)) (u : List ℕ) → 0 < length u → number_or ts u ≡ type_number ts u
  number-some ts [] lt = absurd (not-suc-le-zero lt)
  number-some ts (x ∷ u) lt = refl

  -- ---- one row: i, of level l and label a
  module _ (i l a : ℕ) (lt : i < length (ways [] xs)) (el : l ≡ get_or (map (λ (x : ℕ × ℕ). x.0) xs) i 0) (ea : a ≡ get_or (map (λ (x : ℕ × ℕ). x.1) xs) i 0)
      (pos : 1 ≤ l) (next : l ≤ suc (length (before (ways [] xs) i))) where
    abbrev pub v : List ℕ
    v = get_or (ways [] xs) i []

    pub form : v ≡ take (pred l) (before (ways [] xs) i) ++ (a ∷ [])
    form =
        ways-at xs i (omega (arith, length-ways [] xs))
        ∙ ap₂ (λ m n. take (pred m) (before (ways [] xs) i) ++ (n ∷ [])) (sym el) (sym ea)

    pub above : up v ≡ take (pred l) (before (ways [] xs) i)
    above = ap up form ∙ up_snoc (take (pred l) (before (ways [] xs) i)) a

    pub label : last_or 0 v ≡ a
    label = ap (last_or 0) form ∙ last_snoc 0 (take (pred l) (before (ways [] xs) i)) a

    pub v_whole : v ≡ up v ++ (a ∷ [])
    v_whole = form ∙ ap (λ z. z ++ (a ∷ [])) (sym above)

    pub long : length v ≡ l
    long = omega (arith, ap length form, length-append (take (pred l) (before (ways [] xs) i)) (a ∷ []), length-take (pred l) (before (ways [] xs) i))

    pub taken : take (suc i) (ways [] xs) ≡ take i (ways [] xs) ++ (v ∷ [])
    taken = take-suc (ways [] xs) i [] lt

    pub known_above : Known i (up v)
    known_above = subst (λ z. Known i z) (sym above) (known_before i (omega arith) (pred l) (omega arith))

    -- a prefix of v but v itself is a prefix of the way before
    pub short : (j : ℕ) → j < l → take j v ≡ take j (before (ways [] xs) i)
    short j lj =
        ap (take j) form ∙ take-append-le j (take (pred l) (before (ways [] xs) i)) (a ∷ []) (omega (arith, length-take (pred l) (before (ways [] xs) i)))
        ∙ take-take j (pred l) (before (ways [] xs) i) (omega arith)

    module _ (count p : ℕ) (kinds parents labels stack : List ℕ) (pass : Pass i count kinds parents labels stack)
        (ep : p ≡ get_or stack (pred l) 0) where
      pub parent_number : p ≡ number_or (seen i) (up v)
      parent_number = ep ∙ pass.stacked (pred l) (omega arith) ∙ ap (number_or (seen i)) (sym above)

      pub few : length (seen i) ≤ most_types
      few = omega (arith, pass.counted, pass.few)

      -- a listed type with this parent and label is v
      pub found_type : (k : ℕ) → k < count → get_or parents k 0 ≡ p → get_or labels k 0 ≡ a → get_or (seen i) k [] ≡ v
      found_type k lk e q =
          let u = get_or (seen i) k [] in
          let h : Has u (seen i) = get_d_has [] (seen i) k (omega (arith, pass.counted)) in
          let eu : up u ≡ up v = number-one i few (up u) (up v) (known_up i u h) known_above (sym (pass.parented k lk) ∙ e ∙ parent_number) in
          whole i u h ∙ ap₂ (λ x y. x ++ (y ∷ [])) eu (sym (pass.names k lk) ∙ q) ∙ sym v_whole

      -- where none has them, v is new
      pub new_type : ((k : ℕ) → k < count → get_or parents k 0 ≡ p → get_or labels k 0 ≡ a → ⊥) → Has v (take i (ways [] xs)) → ⊥
      new_type none h =
          let (lk, e) = number_at v (seen i) (has-distinct v (take i (ways [] xs)) h) in
          let k = type_number (seen i) v in
          let lc : k < count = omega (arith, pass.counted) in
          none k lc (pass.parented k lc ∙ ap (λ z. number_or (seen i) (up z)) e ∙ sym parent_number) (pass.names k lc ∙ ap (last_or 0) e ∙ label)
