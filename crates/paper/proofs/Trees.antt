-- What is written in order and numbered by position: its numbers follow one another, and beneath each thing stands just what
-- should. Assumes nothing.
use Prim.Native.Nat.{ℕ, zero, suc, ◌+◌, ◌≤◌, ◌<◌}
use native.Mathlib.Nat.{le_refl, not-suc-le-zero, le_of_suc-le-suc}
use native.Mathlib.Omega.{arith}
use mathlib.Core.Path.{◌≡◌, refl, sym, ◌∙◌, ap, ap₂, subst, subst₂}
use mathlib.Core.Logic.{◌⊎◌, inl, inr, ⊎_elim}
use mathlib.Core.List.{List, [], ◌∷◌, ◌++◌, map, append-nil, append_assoc}
use lib.ListN.{length, length-append, take}
use lib.Seq.{take_at}
use Rattle.paper.specs.Lists.{Has, last_or, joined, same}
use Rattle.paper.specs.Tables.{raised, follows}
use Rattle.paper.specs.NewTable.{forest, tree}
use Rattle.paper.specs.Faithful.{Chain}
use Rattle.paper.proofs.Lists.{last_has, has_left, has_right, has_append, map-has, map_append, same_self, eq_same, or_left, or_right}
use Rattle.paper.proofs.Forest.{Follows, chain_append}

-- ---- positions
module _ {A : Type 0} where
  -- among xs, numbered from i, x has number j
  abbrev pub Nth : ℕ → List A → ℕ → A → Type 0
  Nth i [] j x = ⊥
  Nth i (y ∷ ys) j x = ((j ≡ i) × (y ≡ x)) ⊎ Nth (suc i) ys j x

  nth_bounds : (i : ℕ) (xs : List A) (j : ℕ) (x : A) → Nth i xs j x → (i ≤ j) × (j < i + length xs)
  nth_bounds i [] j x h = absurd h
  nth_bounds i (y ∷ ys) j x (inl e) = (omega (arith, e.0), omega (arith, e.0))
  nth_bounds i (y ∷ ys) j x (inr h) = let r = nth_bounds (suc i) ys j x h in (omega (arith, r.0), omega (arith, r.1))

  pub nth_same : (i : ℕ) (xs : List A) (j : ℕ) (x y : A) → Nth i xs j x → Nth i xs j y → x ≡ y
  nth_same i [] j x y h k = absurd h
  nth_same i (z ∷ zs) j x y (inl e) (inl f) = sym e.1 ∙ f.1
  nth_same i (z ∷ zs) j x y (inl e) (inr k) = let w : ⊥ = omega (arith, e.0, (nth_bounds (suc i) zs j y k).0) in absurd w
  nth_same i (z ∷ zs) j x y (inr h) (inl f) = let w : ⊥ = omega (arith, f.0, (nth_bounds (suc i) zs j x h).0) in absurd w
  nth_same i (z ∷ zs) j x y (inr h) (inr k) = nth_same (suc i) zs j x y h k

  pub nth_has : (i : ℕ) (xs : List A) (j : ℕ) (x : A) → Nth i xs j x → Has x xs
  nth_has i [] j x h = h
  nth_has i (y ∷ ys) j x (inl e) = inl (sym e.1)
  nth_has i (y ∷ ys) j x (inr h) = inr (nth_has (suc i) ys j x h)

  pub has_nth : (i : ℕ) (xs : List A) (x : A) → Has x xs → (j : ℕ) × Nth i xs j x
  has_nth i [] x h = absurd h
  has_nth i (y ∷ ys) x (inl e) = (i, inl (refl, sym e))
  has_nth i (y ∷ ys) x (inr h) = let r = has_nth (suc i) ys x h in (r.0, inr r.1)

-- ---- numbers that follow
pub follows-first : (d : List ℕ) → Follows d (d ++ (1 ∷ []))
unfolding follows
follows-first d = (omega (arith, length-append d (1 ∷ [])), or_left (same (d ++ (1 ∷ [])) (raised (take (length (d ++ (1 ∷ []))) d))) (same_self (d ++ (1 ∷ []))))

pub raised_snoc : (d : List ℕ) (i : ℕ) → raised (d ++ (i ∷ [])) ≡ d ++ (suc i ∷ [])
raised_snoc [] i = refl
raised_snoc (x ∷ []) i = refl
raised_snoc (x ∷ y ∷ d) i = ap {B = List ℕ} (λ z. x ∷ z) (raised_snoc (y ∷ d) i)

-- the next number beneath d follows every number that begins with the one before it
follows_next : (d : List ℕ) (i : ℕ) (l e : List ℕ) → l ≡ (d ++ (i ∷ [])) ++ e → Follows l (d ++ (suc i ∷ []))
unfolding follows
follows_next d i l e q =
    let n = length (d ++ (suc i ∷ [])) in
    let ln : length (d ++ (i ∷ [])) ≡ n = omega (arith, length-append d (i ∷ []), length-append d (suc i ∷ [])) in
    let t : take n l ≡ d ++ (i ∷ []) = ap (take n) q ∙ take_at (d ++ (i ∷ [])) e n ln in (
      omega (arith, length-append d (suc i ∷ [])),
      or_right (same (d ++ (suc i ∷ [])) (l ++ (1 ∷ []))) (eq_same (sym (ap raised t ∙ raised_snoc d i))),
    )

module _ {A : Type 0} (groups : A → List (List A)) where
  abbrev kids : A → List A
  kids x = joined (groups x)

  abbrev pub numbers_of : List (A × List ℕ) → List (List ℕ)
  numbers_of l = map (λ (x : A × List ℕ). x.1) l

  -- y hangs at the number e beneath x
  abbrev pub Hang : A → List ℕ → A → Type 0
  Hang x [] y = x ≡ y
  Hang x (j ∷ e) y = (z : A) × Nth 1 (joined (groups x)) j z × Hang z e y

  -- ---- what stands in a tree is what hangs beneath its root, and back
  forest_has : (n : ℕ) (y : A × List ℕ) → ((x : A) (d : List ℕ) → Has y (tree groups n x d) → (e : List ℕ) × Hang x e y.0 × (y.1 ≡ d ++ e))
      → (xs : List A) (d : List ℕ) (i : ℕ) → Has y (forest (tree groups n) d i xs)
      → (j : ℕ) × (x : A) × (e : List ℕ) × Nth i xs j x × Hang x e y.0 × (y.1 ≡ d ++ (j ∷ e))
  forest_has n y f [] d i h = absurd h
  forest_has n y f (x ∷ xs) d i h =
      ⊎_elim (λ l. let r = f x (d ++ (i ∷ [])) l in (i, x, r.0, inl (refl, refl), r.1, r.2 ∙ append_assoc d (i ∷ []) r.0))
      (λ g. let r = forest_has n y f xs d (suc i) g in (r.0, r.1, r.2, inr r.3, r.4, r.5))
      (has_append y (tree groups n x (d ++ (i ∷ []))) (forest (tree groups n) d (suc i) xs) h)

  pub tree_has : (n : ℕ) (y : A × List ℕ) (x : A) (d : List ℕ) → Has y (tree groups n x d) → (e : List ℕ) × Hang x e y.0 × (y.1 ≡ d ++ e)
  tree_has zero y x d (inl e) = ([], sym (ap (λ (z : A × List ℕ). z.0) e), ap (λ (z : A × List ℕ). z.1) e ∙ sym (append-nil d))
  tree_has zero y x d (inr h) = absurd h
  tree_has (suc n) y x d (inl e) = ([], sym (ap (λ (z : A × List ℕ). z.0) e), ap (λ (z : A × List ℕ). z.1) e ∙ sym (append-nil d))
  tree_has (suc n) y x d (inr h) =
      let r = forest_has n y (tree_has n y) (kids x) d 1 h in
      (r.0 ∷ r.2, (r.1, r.3, r.4), r.5)

  has_forest : (n : ℕ) (y : A × List ℕ) (xs : List A) (d : List ℕ) (i j : ℕ) (x : A) → Nth i xs j x → Has y (tree groups n x (d ++ (j ∷ [])))
      → Has y (forest (tree groups n) d i xs)
  has_forest n y [] d i j x h l = absurd h
  has_forest n y (z ∷ zs) d i j x (inl e) l =
      has_left y (tree groups n z (d ++ (i ∷ []))) (forest (tree groups n) d (suc i) zs)
      (subst₂ (λ a m. Has y (tree groups n a (d ++ (m ∷ [])))) (sym e.1) e.0 l)
  has_forest n y (z ∷ zs) d i j x (inr h) l =
      has_right y (tree groups n z (d ++ (i ∷ []))) (forest (tree groups n) d (suc i) zs) (has_forest n y zs d (suc i) j x h l)

  pub has_tree : (n : ℕ) (x : A) (d e : List ℕ) (y : A) → length e ≤ n → Hang x e y → Has (y, d ++ e) (tree groups n x d)
  has_tree zero x d [] y le h = inl (ap₂ {C = A × List ℕ} (λ a b. (a, b)) (sym h) (append-nil d))
  has_tree zero x d (j ∷ e) y le h = absurd (not-suc-le-zero le)
  has_tree (suc n) x d [] y le h = inl (ap₂ {C = A × List ℕ} (λ a b. (a, b)) (sym h) (append-nil d))
  has_tree (suc n) x d (j ∷ e) y le h =
      inr (has_forest n (y, d ++ (j ∷ e)) (kids x) d 1 j h.0 h.1
      (subst (λ a. Has (y, a) (tree groups n h.0 (d ++ (j ∷ [])))) (append_assoc d (j ∷ []) e)
      (has_tree n h.0 (d ++ (j ∷ [])) e y (le_of_suc-le-suc le) h.2)))

  -- ---- the numbers make a chain
  -- the last number of a tree begins with its root's
  tree_last : (n : ℕ) (x : A) (p d : List ℕ) → (e : List ℕ) × (last_or p (numbers_of (tree groups n x d)) ≡ d ++ e)
  tree_last n x p d = go n
    where
      go : (n : ℕ) → (e : List ℕ) × (last_or p (numbers_of (tree groups n x d)) ≡ d ++ e)
      go zero = ([], sym (append-nil d))
      go (suc n) =
          let l = numbers_of (forest (tree groups n) d 1 (kids x)) in
          let (y, hy, q) = map-has (λ (x : A × List ℕ). x.1) (last_or p (d ∷ l)) (tree groups (suc n) x d) (last_has p d l) in
          let (e, h, r) = tree_has (suc n) y x d hy in
          (e, q ∙ r)

  forest_chain : (n : ℕ) → ((x : A) (p d : List ℕ) → Follows p d → Chain p (numbers_of (tree groups n x d)))
      → (xs : List A) (p d : List ℕ) (i : ℕ) → Follows p (d ++ (i ∷ [])) → Chain p (numbers_of (forest (tree groups n) d i xs))
  forest_chain n f [] p d i fo = tt
  forest_chain n f (x ∷ xs) p d i fo =
      let a = tree groups n x (d ++ (i ∷ [])) in
      let b = forest (tree groups n) d (suc i) xs in
      let (e, q) = tree_last n x p (d ++ (i ∷ [])) in
      subst (λ l. Chain p l) (sym (map_append (λ (x : A × List ℕ). x.1) a b))
      (chain_append p (numbers_of a) (numbers_of b) (f x p (d ++ (i ∷ [])) fo)
      (forest_chain n f xs (last_or p (numbers_of a)) d (suc i) (follows_next d i (last_or p (numbers_of a)) e q)))

  pub tree_chain : (n : ℕ) (x : A) (p d : List ℕ) → Follows p d → Chain p (numbers_of (tree groups n x d))
  tree_chain zero x p d fo = (fo, tt)
  tree_chain (suc n) x p d fo = (fo, forest_chain n (tree_chain n) (kids x) d d 1 (follows-first d))

  -- ---- no component is above the number of lines
  abbrev pub Within : ℕ → List ℕ → Type 0
  Within m d = (c : ℕ) → Has c d → c ≤ m

  within_snoc : (m : ℕ) (d : List ℕ) (i : ℕ) → Within m d → i ≤ m → Within m (d ++ (i ∷ []))
  within_snoc m d i w le c h = ⊎_elim (λ a. w c a) (λ b. one b) (has_append c d (i ∷ []) h)
    where
      one : Has c (i ∷ []) → c ≤ m
      one (inl e) = omega (arith, e)
      one (inr z) = absurd z

  forest_length : (n : ℕ) (d : List ℕ) (i : ℕ) (xs : List A) → length xs ≤ length (forest (tree groups n) d i xs)
  forest_length n d i [] = omega arith
  forest_length n d i (x ∷ xs) =
      omega (arith, forest_length n d (suc i) xs, length-append (tree groups n x (d ++ (i ∷ []))) (forest (tree groups n) d (suc i) xs), some n)
    where
      some : (n : ℕ) → 1 ≤ length (tree groups n x (d ++ (i ∷ [])))
      some zero = omega arith
      some (suc n) = omega arith

  forest_within : (n m : ℕ) → ((x : A) (d : List ℕ) → length (tree groups n x d) ≤ m → Within m d → (y : A × List ℕ) → Has y (tree groups n x d) → Within m y.1)
      → (xs : List A) (d : List ℕ) (i : ℕ) → Within m d → i + length xs ≤ suc m → length (forest (tree groups n) d i xs) ≤ m
      → (y : A × List ℕ) → Has y (forest (tree groups n) d i xs) → Within m y.1
  forest_within n m f [] d i w le l y h = absurd h
  forest_within n m f (x ∷ xs) d i w le l y h =
      let a = tree groups n x (d ++ (i ∷ [])) in
      let b = forest (tree groups n) d (suc i) xs in
      let q = length-append a b in
      ⊎_elim (λ z. f x (d ++ (i ∷ [])) (omega arith) (within_snoc m d i w (omega arith)) y z)
      (λ z. forest_within n m f xs d (suc i) w (omega arith) (omega arith) y z) (has_append y a b h)

  tree_within : (n m : ℕ) (x : A) (d : List ℕ) → length (tree groups n x d) ≤ m → Within m d → (y : A × List ℕ) → Has y (tree groups n x d) → Within m y.1
  tree_within zero m x d l w y (inl e) = subst (λ (z : A × List ℕ). Within m z.1) (sym e) w
  tree_within zero m x d l w y (inr h) = absurd h
  tree_within (suc n) m x d l w y (inl e) = subst (λ (z : A × List ℕ). Within m z.1) (sym e) w
  tree_within (suc n) m x d l w y (inr h) =
      forest_within n m (tree_within n m) (kids x) d 1 w (omega (arith, forest_length n d 1 (kids x))) (omega arith) y h

  -- ---- the whole: the trees of these tops
  module _ (n : ℕ) (tops : List A) where
    abbrev pub grown : List (A × List ℕ)
    grown = forest (tree groups n) [] 1 tops

    -- y stands at the number d
    abbrev pub Stands : List ℕ → A → Type 0
    Stands [] y = ⊥
    Stands (j ∷ e) y = (x : A) × Nth 1 tops j x × Hang x e y

    pub grown_chain : Chain [] (numbers_of grown)
    grown_chain = forest_chain n (tree_chain n) tops [] [] 1 (follows-first [])

    pub grown_within : (y : A × List ℕ) → Has y grown → Within (length grown) y.1
    grown_within y h =
        forest_within n (length grown) (tree_within n (length grown)) tops [] 1 (λ c i. absurd i)
        (omega (arith, forest_length n [] 1 tops)) (le_refl (length grown)) y h

    pub grown_stands : (y : A) (d : List ℕ) → Has (y, d) grown → Stands d y
    grown_stands y d h =
        let r = forest_has n (y, d) (tree_has n (y, d)) tops [] 1 h in
        subst (λ z. Stands z y) (sym r.5) (r.1, r.3, r.4)

    pub stands_grown : (y : A) (d : List ℕ) → length d ≤ suc n → Stands d y → Has (y, d) grown
    stands_grown y [] le h = absurd h
    stands_grown y (j ∷ e) le (x, nth, h) = has_forest n (y, j ∷ e) tops [] 1 j x nth (has_tree n x (j ∷ []) e y (le_of_suc-le-suc le) h)

    hang_same : (e : List ℕ) (x y z : A) → Hang x e y → Hang x e z → y ≡ z
    hang_same [] x y z h k = sym h ∙ k
    hang_same (j ∷ e) x y z h k =
        hang_same e k.0 y z (subst (λ a. Hang a e y) (nth_same 1 (kids x) j h.0 k.0 h.1 k.1) h.2) k.2

    pub stands_same : (d : List ℕ) (y z : A) → Stands d y → Stands d z → y ≡ z
    stands_same [] y z h k = absurd h
    stands_same (j ∷ e) y z h k =
        hang_same e k.0 y z (subst (λ a. Hang a e y) (nth_same 1 tops j h.0 k.0 h.1 k.1) h.2) k.2

    hang_up : (e : List ℕ) (j : ℕ) (x y : A) → Hang x (e ++ (j ∷ [])) y → (z : A) × Hang x e z × Nth 1 (kids z) j y
    hang_up [] j x y (z, nth, h) = (x, refl, subst (λ a. Nth 1 (kids x) j a) h nth)
    hang_up (i ∷ e) j x y (z, nth, h) = let r = hang_up e j z y h in (r.0, (z, nth, r.1), r.2)

    up_hang : (e : List ℕ) (j : ℕ) (x z y : A) → Hang x e z → Nth 1 (kids z) j y → Hang x (e ++ (j ∷ [])) y
    up_hang [] j x z y h k = (y, subst (λ a. Nth 1 (kids a) j y) (sym h) k, refl)
    up_hang (i ∷ e) j x z y (a, nth, h) k = (a, nth, up_hang e j a z y h k)

    -- right beneath a thing stand its kids, by position
    pub stands_up : (i : ℕ) (e : List ℕ) (j : ℕ) (y : A) → Stands (i ∷ (e ++ (j ∷ []))) y → (z : A) × Stands (i ∷ e) z × Nth 1 (kids z) j y
    stands_up i e j y (x, nth, h) = let r = hang_up e j x y h in (r.0, (x, nth, r.1), r.2)

    pub up_stands : (d : List ℕ) (j : ℕ) (z y : A) → Stands d z → Nth 1 (joined (groups z)) j y → Stands (d ++ (j ∷ [])) y
    up_stands [] j z y h k = absurd h
    up_stands (i ∷ e) j z y (x, nth, h) k = (x, nth, up_hang e j x z y h k)
