-- The pass over a table's types, step by step: a known type, a new one, one too many, and the end. Assumes nothing.
use Prim.Native.Nat.{ℕ, zero, suc, ◌+◌, ◌≤◌, ◌<◌, pred}
use native.Mathlib.Nat.{not-suc-le-zero}
use native.Mathlib.Numerals.{add-one}
use native.Mathlib.Omega.{arith}
use mathlib.Core.Path.{◌≡◌, refl, sym, ◌∙◌, ap, ap₂, subst}
use mathlib.Core.Logic.{◌⊎◌, inl, inr}
use mathlib.Core.Bool.{Bool, true, false}
use mathlib.Core.List.{List, [], ◌∷◌, ◌++◌, map, append_assoc}
use lib.ListN.{length, get_or, take, drop, set, length-append, take-append-drop, get_or-append}
use lib.Seq.{take_all, get_or-set_same, get_or-set_other, get_or_at}
use lib.Dec.{leb}
use borrow.Author.Tests.{leb-true, leb-false}
use Rattle.paper.specs.Lists.{Has, last_or, place, same, distinct, up, ways}
use Rattle.paper.specs.Format.{most_types}
use Rattle.paper.specs.Tables.{type_number}
use Rattle.paper.proofs.Lists.{get_d_has}
use Rattle.paper.proofs.Tables.{has-distinct}
use Rattle.paper.proofs.Adorned.{number-after, distinct_once}
use Rattle.types.proofs.Ways.{before, distinct_prefix, distinct_known, distinct_new}
use Rattle.types.proofs.Pass.{number_or, number_left, once_number, place-first, seen, Pass, known_up, known_before, number-stays, number-some, label, long, taken, known_above, short, parent_number}

-- below j + 1 is below j, or j
pub below : (j i : ℕ) → j < i + 1 → (j < i) ⊎ (j ≡ i)
below j i lt = go (leb i j) refl
  where
    go : (b : Bool) → leb i j ≡ b → (j < i) ⊎ (j ≡ i)
    go true e = inr (omega (arith, leb-true i j e))
    go false e = inl (leb-false i j e)

-- a stored number, read at its place and elsewhere
at_same : (l : List ℕ) (i j x y : ℕ) → i < length l → j ≡ i → x ≡ y → get_or (set l i x) j 0 ≡ y
at_same l i j x y lt e q = ap (λ k. get_or (set l i x) k 0) e ∙ get_or-set_same l i x 0 lt ∙ q

at_other : (l : List ℕ) (i j x : ℕ) → j < i → get_or (set l i x) j 0 ≡ get_or l j 0
at_other l i j x lt = get_or-set_other l i j x 0 (λ e. omega (arith, e))

module _ (xs : List (ℕ × ℕ)) where
  pub pass_start : (kinds parents labels stack : List ℕ) → get_or stack 0 0 ≡ most_types → Pass xs 0 0 kinds parents labels stack
  pass_start kinds parents labels stack e = record {
    inside = omega arith;
    counted = refl;
    few = omega arith;
    numbered = λ j lt. absurd (not-suc-le-zero lt);
    names = λ k lt. absurd (not-suc-le-zero lt);
    parented = λ k lt. absurd (not-suc-le-zero lt);
    stacked = λ j le. first-only j le;
  }
    where
      first-only : (j : ℕ) → j ≤ 0 → get_or stack j 0 ≡ number_or (seen xs 0) (take j [])
      first-only zero le = e
      first-only (suc j) le = absurd (not-suc-le-zero le)

  module _ (i l a : ℕ) (lt : i < length (ways [] xs)) (el : l ≡ get_or (map (λ (x : ℕ × ℕ). x.0) xs) i 0) (ea : a ≡ get_or (map (λ (x : ℕ × ℕ). x.1) xs) i 0)
      (pos : 1 ≤ l) (next : l ≤ suc (length (before (ways [] xs) i)))
      (count p : ℕ) (kinds parents labels stack : List ℕ) (pass : Pass xs i count kinds parents labels stack) (ep : p ≡ get_or stack (pred l) 0)
      (in-kinds : i < length kinds) (in_stack : l < length stack) where
    abbrev w : List ℕ
    w = get_or (ways [] xs) i []

    seen_next : distinct (take (i + 1) (ways [] xs)) ≡ distinct (take i (ways [] xs) ++ (w ∷ []))
    seen_next = ap (λ n. distinct (take n (ways [] xs))) (add-one i) ∙ ap distinct (taken xs i l a lt el ea pos next)

    w_long : length w ≡ l
    w_long = long xs i l a lt el ea pos next

    -- the way before the next row is this row's
    before_next : before (ways [] xs) (i + 1) ≡ w
    before_next = ap (before (ways [] xs)) (add-one i)

    w_short : (j : ℕ) → j < l → take j w ≡ take j (before (ways [] xs) i)
    w_short = short xs i l a lt el ea pos next

    -- ---- a known type
    pub pass_known : (k : ℕ) → k < count → get_or (seen xs i) k [] ≡ w → Pass xs (i + 1) count (set kinds i k) parents labels (set stack l k)
    pass_known k lk e =
        let lc : k < length (seen xs i) = omega (arith, pass.counted) in
        let inn : Has w (take i (ways [] xs)) = Rattle.paper.proofs.Tables.distinct-has w (take i (ways [] xs)) (subst (λ z. Has z (seen xs i)) e (get_d_has [] (seen xs i) k lc)) in
        let same_seen : seen xs (i + 1) ≡ seen xs i = seen_next ∙ distinct_known (take i (ways [] xs)) w inn in
        let kn : k ≡ type_number (seen xs i) w = sym (once_number (seen xs i) (distinct_once (take i (ways [] xs))) k lc) ∙ ap (type_number (seen xs i)) e in
        record {
          inside = omega arith;
          counted = pass.counted ∙ ap length (sym same_seen);
          few = pass.few;
          numbered = λ j lj. numbers j (below j i lj) kn ∙ ap (λ ts. type_number ts (get_or (ways [] xs) j [])) (sym same_seen);
          names = λ j lj. pass.names j lj ∙ ap (λ ts. last_or 0 (get_or ts j [])) (sym same_seen);
          parented = λ j lj. pass.parented j lj ∙ ap (λ ts. number_or ts (up (get_or ts j []))) (sym same_seen);
          stacked = λ j lj. stack_at j (below j l (omega (arith, ap length before_next, w_long))) kn
              ∙ ap₂ (λ ts u. number_or ts (take j u)) (sym same_seen) (sym before_next);
        }
      where
        numbers : (j : ℕ) → (j < i) ⊎ (j ≡ i) → k ≡ type_number (seen xs i) w → get_or (set kinds i k) j 0 ≡ type_number (seen xs i) (get_or (ways [] xs) j [])
        numbers j (inl lj) kn = at_other kinds i j k lj ∙ pass.numbered j lj
        numbers j (inr e) kn = at_same kinds i j k (type_number (seen xs i) w) in-kinds e kn ∙ ap (λ n. type_number (seen xs i) (get_or (ways [] xs) n [])) (sym e)

        stack_at : (j : ℕ) → (j < l) ⊎ (j ≡ l) → k ≡ type_number (seen xs i) w → get_or (set stack l k) j 0 ≡ number_or (seen xs i) (take j w)
        stack_at j (inl lj) kn = at_other stack l j k lj ∙ pass.stacked j (omega arith) ∙ ap (number_or (seen xs i)) (sym (w_short j lj))
        stack_at j (inr e) kn =
            at_same stack l j k (type_number (seen xs i) w) in_stack e kn
            ∙ sym (ap (number_or (seen xs i)) (take_all j w (omega (arith, w_long))) ∙ number-some xs (seen xs i) w (omega (arith, w_long)))

    -- ---- a new type
    module _ (out : Has w (take i (ways [] xs)) → ⊥) where
      seen_more : seen xs (i + 1) ≡ seen xs i ++ (w ∷ [])
      seen_more = seen_next ∙ distinct_new (take i (ways [] xs)) w out

      not_seen : Has w (seen xs i) → ⊥
      not_seen h = out (Rattle.paper.proofs.Tables.distinct-has w (take i (ways [] xs)) h)

      own_number : type_number (seen xs i ++ (w ∷ [])) w ≡ length (seen xs i)
      own_number = number-after (seen xs i) w [] not_seen

      first_place_lem : place (same w) (ways [] xs) ≡ i
      first_place_lem = place-first w (ways [] xs) i lt refl out

      old_type : (k : ℕ) → k < count → get_or (seen xs i ++ (w ∷ [])) k [] ≡ get_or (seen xs i) k []
      old_type k lk = get_or-append (seen xs i) (w ∷ []) [] k (omega (arith, pass.counted))

      its_type : (k : ℕ) → k ≡ count → get_or (seen xs i ++ (w ∷ [])) k [] ≡ w
      its_type k e = get_or_at (seen xs i) w [] [] k (sym (e ∙ pass.counted))

      pub pass_new : count < most_types → count < length parents → count < length labels
          → Pass xs (i + 1) (count + 1) (set kinds i count) (set parents count p) (set labels count a) (set stack l count)
      pass_new room in-parents in-labels = record {
        inside = omega arith;
        counted = (omega (arith, pass.counted, length-append (seen xs i) (w ∷ []))) ∙ ap length (sym seen_more);
        few = omega arith;
        numbered = λ j lj. numbers j (below j i lj) ∙ ap (λ ts. type_number ts (get_or (ways [] xs) j [])) (sym seen_more);
        names = λ k lk. named k (below k count lk) ∙ ap (λ ts. last_or 0 (get_or ts k [])) (sym seen_more);
        parented = λ k lk. parent k (below k count lk) ∙ ap (λ ts. number_or ts (up (get_or ts k []))) (sym seen_more);
        stacked = λ j lj. stack_at j (below j l (omega (arith, ap length before_next, w_long))) ∙ ap₂ (λ ts u. number_or ts (take j u)) (sym seen_more) (sym before_next);
      }
        where
          ts : List (List ℕ)
          ts = seen xs i

          numbers : (j : ℕ) → (j < i) ⊎ (j ≡ i) → get_or (set kinds i count) j 0 ≡ type_number (seen xs i ++ (w ∷ [])) (get_or (ways [] xs) j [])
          numbers j (inl lj) =
              at_other kinds i j count lj ∙ pass.numbered j lj
              ∙ sym (number_left (seen xs i) w (get_or (ways [] xs) j []) (has-distinct (get_or (ways [] xs) j []) (take i (ways [] xs)) (early j lj)))
            where
              early : (j : ℕ) → j < i → Has (get_or (ways [] xs) j []) (take i (ways [] xs))
              early j lj =
                  subst (λ z. Has z (take i (ways [] xs))) (lib.Seq.get_or-take i (ways [] xs) j [] lj)
                  (get_d_has [] (take i (ways [] xs)) j (omega (arith, lib.ListN.length-take i (ways [] xs))))
          numbers j (inr e) =
              at_same kinds i j count (type_number (seen xs i ++ (w ∷ [])) w) in-kinds e (pass.counted ∙ sym own_number)
              ∙ ap (λ n. type_number (seen xs i ++ (w ∷ [])) (get_or (ways [] xs) n [])) (sym e)

          named : (k : ℕ) → (k < count) ⊎ (k ≡ count) → get_or (set labels count a) k 0 ≡ last_or 0 (get_or (seen xs i ++ (w ∷ [])) k [])
          named k (inl lk) = at_other labels count k a lk ∙ pass.names k lk ∙ ap (last_or 0) (sym (old_type k lk))
          named k (inr e) = at_same labels count k a a in-labels e refl ∙ sym (label xs i l a lt el ea pos next) ∙ ap (last_or 0) (sym (its_type k e))

          parent : (k : ℕ) → (k < count) ⊎ (k ≡ count)
              → get_or (set parents count p) k 0 ≡ number_or (seen xs i ++ (w ∷ [])) (up (get_or (seen xs i ++ (w ∷ [])) k []))
          parent k (inl lk) =
              at_other parents count k p lk ∙ pass.parented k lk
              ∙ sym (number-stays xs i w (up (get_or (seen xs i) k [])) (known_up xs i (get_or (seen xs i) k []) (get_d_has [] (seen xs i) k (omega (arith, pass.counted)))))
              ∙ ap (λ u. number_or (seen xs i ++ (w ∷ [])) (up u)) (sym (old_type k lk))
          parent k (inr e) =
              at_same parents count k p p in-parents e refl ∙ parent_number xs i l a lt el ea pos next count p kinds parents labels stack pass ep
              ∙ sym (number-stays xs i w (up w) (known_above xs i l a lt el ea pos next)) ∙ ap (λ u. number_or (seen xs i ++ (w ∷ [])) (up u)) (sym (its_type k e))

          stack_at : (j : ℕ) → (j < l) ⊎ (j ≡ l) → get_or (set stack l count) j 0 ≡ number_or (seen xs i ++ (w ∷ [])) (take j w)
          stack_at j (inl lj) =
              at_other stack l j count lj ∙ pass.stacked j (omega arith)
              ∙ sym (number-stays xs i w (take j (before (ways [] xs) i)) (known_before xs i pass.inside j (omega arith)))
              ∙ ap (number_or (seen xs i ++ (w ∷ []))) (sym (w_short j lj))
          stack_at j (inr e) =
              at_same stack l j count (type_number (seen xs i ++ (w ∷ [])) w) in_stack e (pass.counted ∙ sym own_number)
              ∙ sym (ap (number_or (seen xs i ++ (w ∷ []))) (take_all j w (omega (arith, w_long))) ∙ number-some xs (seen xs i ++ (w ∷ [])) w (omega (arith, w_long)))

      -- ---- one too many: v is the type numbered 64, and row i its first
      pub pass_full : count ≡ most_types
          → (most_types < length (distinct (ways [] xs))) × (place (same (get_or (distinct (ways [] xs)) most_types [])) (ways [] xs) ≡ i)
      pass_full full =
          let (zs, e) = distinct_prefix (take (i + 1) (ways [] xs)) (drop (i + 1) (ways [] xs)) in
          let q : distinct (ways [] xs) ≡ (seen xs i ++ (w ∷ [])) ++ zs = ap distinct (sym (take-append-drop (i + 1) (ways [] xs))) ∙ e ∙ ap (λ z. z ++ zs) seen_more in
          let r : get_or (distinct (ways [] xs)) most_types [] ≡ w =
          ap (λ z. get_or z most_types []) (q ∙ append_assoc (seen xs i) (w ∷ []) zs) ∙ get_or_at (seen xs i) w zs [] most_types (sym pass.counted ∙ full) in (
            omega (arith, ap length q, length-append (seen xs i ++ (w ∷ [])) zs, length-append (seen xs i) (w ∷ []), pass.counted),
            ap (λ u. place (same u) (ways [] xs)) r ∙ first_place_lem,
          )

  -- ---- the end
  pub pass_end : (count : ℕ) (kinds parents labels stack : List ℕ) (i : ℕ) → Pass xs i count kinds parents labels stack → length (ways [] xs) ≤ i
      → seen xs i ≡ distinct (ways [] xs)
  pass_end count kinds parents labels stack i pass le = ap distinct (take_all i (ways [] xs) le)
