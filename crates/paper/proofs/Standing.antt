-- How many things stand directly beneath a number, of what is written in order and numbered by position. Assumes nothing.
use Prim.Native.Nat.{ℕ, zero, suc, ◌+◌, ◌≤◌, ◌<◌, pred}
use native.Mathlib.Nat.{not-suc-le-zero, le_of_suc-le-suc}
use native.Mathlib.Omega.{arith}
use mathlib.Core.Path.{◌≡◌, refl, sym, ◌∙◌, ap, ap₂}
use mathlib.Core.Logic.{inl, inr}
use mathlib.Core.Bool.{Bool, true, false, ◌&&◌}
use mathlib.Core.List.{List, [], ◌∷◌, ◌++◌, append-nil, append_assoc, append_cancel_left}
use lib.ListN.{length, get_or, length-append, length-take}
use Rattle.paper.specs.Lists.{Has, keep, last_or, joined, same, up}
use Rattle.paper.specs.NewTable.{forest, tree}
use Rattle.paper.proofs.Lists.{both, same_eq, eq_same, up_last, up_snoc}
use Rattle.paper.proofs.Kept.{put_if, keep-none}
use Rattle.paper.proofs.Trees.{Nth, Hang, Stands, tree_has, grown}

-- ---- how many are kept
module _ {A : Type 0} (p : A → Bool) where
  -- of two lists, one after the other
  pub both_kept : (xs ys : List A) → length (keep p (xs ++ ys)) ≡ length (keep p xs) + length (keep p ys)
  both_kept [] ys = omega arith
  both_kept (x ∷ xs) ys = go (p x) (both_kept xs ys)
    where
      go : (b : Bool) → length (keep p (xs ++ ys)) ≡ length (keep p xs) + length (keep p ys)
          → length (put_if b x (keep p (xs ++ ys))) ≡ length (put_if b x (keep p xs)) + length (keep p ys)
      go true ih = omega arith
      go false ih = ih

  -- all, where all pass the test
  pub all_kept_lem : (xs : List A) → ((x : A) → Has x xs → p x ≡ true) → length (keep p xs) ≡ length xs
  all_kept_lem [] pass = refl
  all_kept_lem (x ∷ xs) pass = ap (λ b. length (put_if b x (keep p xs))) (pass x (inl refl)) ∙ ap suc (all_kept_lem xs (λ y h. pass y (inr h)))

-- ---- numbers
-- what is beneath d stays beneath it but for its last component
up_append : (d : List ℕ) (j : ℕ) (e : List ℕ) → up (d ++ (j ∷ e)) ≡ d ++ up (j ∷ e)
up_append d j e =
    let l = up (j ∷ e) in
    let z = last_or j e ∷ [] in
    ap (λ x. up (d ++ x)) (up_last j e) ∙ ap up (sym (append_assoc d l z)) ∙ up_snoc (d ++ l) (last_or j e)

-- beneath d, a number whose parent number goes on with j goes on with j
up_first : (d : List ℕ) (k j : ℕ) (a e : List ℕ) → up (d ++ (k ∷ a)) ≡ d ++ (j ∷ e) → k ≡ j
up_first d k j a e q = first a (append_cancel_left d (up (k ∷ a)) (j ∷ e) (sym (up_append d k a) ∙ q))
  where
    first : (a : List ℕ) → up (k ∷ a) ≡ j ∷ e → k ≡ j
    first [] q = let z : ⊥ = omega (arith, ap length q) in absurd z
    first (c ∷ a) q = ap (λ l. get_or l 0 0) q

length_up : (d : List ℕ) → length (up d) ≡ pred (length d)
length_up d = omega (arith, length-take (pred (length d)) d)

nth_from : {A : Type 0} (i : ℕ) (xs : List A) (j : ℕ) (x : A) → Nth i xs j x → i ≤ j
nth_from i [] j x h = absurd h
nth_from i (y ∷ ys) j x (inl e) = omega (arith, e.0)
nth_from i (y ∷ ys) j x (inr h) = omega (arith, nth_from (suc i) ys j x h)

-- ---- how many stand directly beneath a number and pass a test
module _ {A : Type 0} (groups : A → List (List A)) (p : A → Bool) where
  abbrev under : List ℕ → A × List ℕ → Bool
  under g y = same (up y.1) g && p y.0

  abbrev number_under : List ℕ → List (A × List ℕ) → ℕ
  number_under g l = length (keep (under g) l)

  abbrev kids : A → List A
  kids x = joined (groups x)

  -- none, in a tree elsewhere
  tree_none : (n : ℕ) (x : A) (d g : List ℕ) → ((e : List ℕ) → up (d ++ e) ≡ g → ⊥) → number_under g (tree groups n x d) ≡ 0
  tree_none n x d g never =
      keep-none (under g) (tree groups n x d) (λ y h q.
      let (e, _, number) = tree_has groups n y x d h in
      never e (ap up (sym number) ∙ same_eq (up y.1) g (both (same (up y.1) g) (p y.0) q).0))

  forest_none : (n : ℕ) (xs : List A) (d : List ℕ) (i : ℕ) (g : List ℕ) → ((k : ℕ) (e : List ℕ) → i ≤ k → up (d ++ (k ∷ e)) ≡ g → ⊥)
      → number_under g (forest (tree groups n) d i xs) ≡ 0
  forest_none n [] d i g never = refl
  forest_none n (x ∷ xs) d i g never =
      omega (
        arith,
        both_kept (under g) (tree groups n x (d ++ (i ∷ []))) (forest (tree groups n) d (suc i) xs),
        tree_none n x (d ++ (i ∷ [])) g (λ e q. never i e (omega arith) (ap up (sym (append_assoc d (i ∷ []) e)) ∙ q)),
        forest_none n xs d (suc i) g (λ k e le q. never k e (omega arith) q),
      )

  -- none, at the thing's own number and above
  own_none : (x : A) (d g : List ℕ) (l : List (A × List ℕ)) → (up d ≡ g → ⊥) → number_under g ((x, d) ∷ l) ≡ number_under g l
  own_none x d g l never =
      let own : List (A × List ℕ) = (x, d) ∷ [] in
      omega (arith, both_kept (under g) own l, keep-none (under g) own alone)
    where
      alone : (y : A × List ℕ) → Has y ((x, d) ∷ []) → under g y ≡ true → ⊥
      alone y (inl e) q =
          never (ap (λ (y : A × List ℕ). up y.1) (sym e) ∙ same_eq (up y.1) g (both (same (up y.1) g) (p y.0) q).0)
      alone y (inr h) q = h

  -- in a forest, those in the tree that the number leads to
  forest_at : (n : ℕ) (xs : List A) (d : List ℕ) (i j : ℕ) (e : List ℕ) (x : A) → Nth i xs j x
      → number_under (d ++ (j ∷ e)) (forest (tree groups n) d i xs) ≡ number_under (d ++ (j ∷ e)) (tree groups n x (d ++ (j ∷ [])))
  forest_at n [] d i j e x h = absurd h
  forest_at n (z ∷ zs) d i j e x (inl (ji, zx)) =
      let g = d ++ (j ∷ e) in
      let elsewhere = forest_none n zs d (suc i) g (λ k a le q. omega (arith, up_first d k j a e q)) in
      both_kept (under g) (tree groups n z (d ++ (i ∷ []))) (forest (tree groups n) d (suc i) zs)
      ∙ (omega (arith, elsewhere, ap₂ (λ a k. number_under g (tree groups n a (d ++ (k ∷ [])))) zx (sym ji)))
  forest_at n (z ∷ zs) d i j e x (inr h) =
      let g = d ++ (j ∷ e) in
      let elsewhere = tree_none n z (d ++ (i ∷ [])) g (λ a q.
      omega (arith, nth_from (suc i) zs j x h, up_first d i j a e (ap up (sym (append_assoc d (i ∷ []) a)) ∙ q))) in
      both_kept (under g) (tree groups n z (d ++ (i ∷ []))) (forest (tree groups n) d (suc i) zs)
      ∙ (omega (arith, elsewhere, forest_at n zs d (suc i) j e x h))

  -- directly beneath d, of a tree there, its root alone
  tree_root : (n : ℕ) (z : A) (d : List ℕ) (i : ℕ) → number_under d (tree groups n z (d ++ (i ∷ []))) ≡ length (keep p (z ∷ []))
  tree_root n z d i = go n
    where
      own : List (A × List ℕ)
      own = (z, d ++ (i ∷ [])) ∷ []

      same_number : (b : Bool) → length {A = A × List ℕ} (put_if b (z, d ++ (i ∷ [])) []) ≡ length (put_if b z [])
      same_number true = refl
      same_number false = refl

      root : number_under d own ≡ length (keep p (z ∷ []))
      root = ap (λ b. length {A = A × List ℕ} (put_if (b && p z) (z, d ++ (i ∷ [])) [])) (eq_same (up_snoc d i)) ∙ same_number (p z)

      deeper : (n k : ℕ) (e : List ℕ) → up ((d ++ (i ∷ [])) ++ (k ∷ e)) ≡ d → ⊥
      deeper n k e q =
          omega (
            arith,
            ap length q,
            length_up ((d ++ (i ∷ [])) ++ (k ∷ e)),
            length-append (d ++ (i ∷ [])) (k ∷ e),
            length-append d (i ∷ []),
          )

      go : (n : ℕ) → number_under d (tree groups n z (d ++ (i ∷ []))) ≡ length (keep p (z ∷ []))
      go zero = root
      go (suc n) =
          let rest = forest (tree groups n) (d ++ (i ∷ [])) 1 (kids z) in
          omega (arith, both_kept (under d) own rest, root, forest_none n (kids z) (d ++ (i ∷ [])) 1 d (λ k e le. deeper n k e))

  forest_roots : (n : ℕ) (xs : List A) (d : List ℕ) (i : ℕ) → number_under d (forest (tree groups n) d i xs) ≡ length (keep p xs)
  forest_roots n [] d i = refl
  forest_roots n (x ∷ xs) d i =
      omega (
        arith,
        both_kept (under d) (tree groups n x (d ++ (i ∷ []))) (forest (tree groups n) d (suc i) xs),
        tree_root n x d i,
        forest_roots n xs d (suc i),
        both_kept p (x ∷ []) xs,
      )

  -- beneath what hangs in a tree stand its kids
  hang_number : (n : ℕ) (x : A) (d e : List ℕ) (y : A) → 0 < length d → length e < n → Hang groups x e y
      → number_under (d ++ e) (tree groups n x d) ≡ length (keep p (kids y))
  hang_number zero x d e y pos lt h = absurd (not-suc-le-zero lt)
  hang_number (suc n) x d [] y pos lt h =
      ap (λ g. number_under g (tree groups (suc n) x d)) (append-nil d)
      ∙ own_none x d d (forest (tree groups n) d 1 (kids x)) (λ q. omega (arith, ap length q, length_up d))
      ∙ forest_roots n (kids x) d 1 ∙ ap (λ z. length (keep p (kids z))) h
  hang_number (suc n) x d (j ∷ e) y pos lt (z, nth, h) =
      own_none x d (d ++ (j ∷ e)) (forest (tree groups n) d 1 (kids x))
      (λ q. omega (arith, ap length q, length_up d, length-append d (j ∷ e)))
      ∙ forest_at n (kids x) d 1 j e z nth
      ∙ ap (λ g. number_under g (tree groups n z (d ++ (j ∷ [])))) (sym (append_assoc d (j ∷ []) e))
      ∙ hang_number n z (d ++ (j ∷ [])) e y (omega (arith, length-append d (j ∷ []))) (le_of_suc-le-suc lt) h

  -- Directly beneath what stands at a number stand its kids, where a level lies beneath it.
  pub stands_number : (n : ℕ) (tops : List A) (d : List ℕ) (y : A) → length d ≤ n → Stands groups n tops d y
      → number_under d (grown groups n tops) ≡ length (keep p (kids y))
  stands_number n tops [] y lt h = absurd h
  stands_number n tops (j ∷ e) y lt (x, nth, h) = forest_at n tops [] 1 j e x nth ∙ hang_number n x (j ∷ []) e y (omega arith) lt h
