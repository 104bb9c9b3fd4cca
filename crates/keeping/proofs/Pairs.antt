-- The list of pairs of a conversion that breaks no rule: what each label becomes, and that labels kept apart stay apart. Assumes nothing.
use Prim.Native.Nat.{ℕ, suc, ◌+◌, ◌≤◌, ◌<◌}
use native.Mathlib.Omega.{arith}
use mathlib.Core.Path.{◌≡◌, refl, sym, ◌∙◌, ap, subst}
use mathlib.Core.Logic.{◌⊎◌, inl, inr, ⊎_elim}
use mathlib.Core.Bool.{Bool, true, false, ◌&&◌, ◌||◌, not, true≢false}
use mathlib.Core.List.{List, [], ◌∷◌, ◌++◌, map}
use mathlib.Core.Option.{Option, none, some}
use lib.Dec.{eqb, ltb}
use lib.ListN.{length, take, length-take, length-map}
use borrow.Author.Tests.{ltb-false, eqb-true, eq-eqb, not-true}
use Rattle.paper.specs.Lists.{Has, any, first_or, between, count}
use Rattle.paper.specs.Format.{Format}
use Rattle.paper.specs.Labels.{most_old, Pair, listed, taken, pair_kept, bad_pair_from, bad_pair, unlisted, converted}
use Rattle.paper.proofs.Lists.{both, has_any, has_left, has_right, has-map, map-has, has-count, within}
use Rattle.paper.proofs.Kept.{length-count}
use Rattle.paper.proofs.NewTypes.{Once, once_few}

-- none of a list passes a test that none of them passes
none_passes : {A : Type 0} (p : A → Bool) (x : A) (xs : List A) → not (any p xs) ≡ true → Has x xs → p x ≡ true → ⊥
none_passes p x xs h i e = true≢false (sym (has_any p x xs i e) ∙ not-true (any p xs) h)

-- ---- what a label becomes
-- A label is an old one of the list and becomes the new one of its pair, or it is none and stays.
abbrev pub Becomes : List Pair → ℕ → Bool → ℕ → Type 0
Becomes ps x in_List y = ((p : Pair) × Has p ps × (p.old ≡ x) × (y ≡ p.new)) ⊎ ((in_List ≡ false) × (y ≡ x))

pub becomes : (ps : List Pair) (x : ℕ) → Becomes ps x (listed ps x) (converted ps x)
becomes [] x = inr (refl, refl)
becomes (p ∷ ps) x = go (eqb p.old x) refl (becomes ps x)
  where
    go : (t : Bool) → eqb p.old x ≡ t → Becomes ps x (listed ps x) (converted ps x)
        → Becomes (p ∷ ps) x (t || listed ps x) (elim t as (λ _. ℕ) [ true ↦ p.new | false ↦ converted ps x ])
    go true e ih = inl (p, inl refl, eqb-true p.old x e, refl)
    go false e (inl (q, h, o, n)) = inl (q, inr h, o, n)
    go false e (inr k) = inr k

-- ---- a list that breaks no rule
module _ (f : Format) (ls : List ℕ) where
  -- what the rules say of a pair after those before it, one by one
  pub record Kept (before : List Pair) (p : Pair) : Type 0 where
    pub old : (f.labels < p.old) × (p.old ≤ most_old)
    pub new : (1 ≤ p.new) × (p.new ≤ f.labels)
    pub absent : Has p.new ls → ⊥
    pub fresh : (q : Pair) → Has q before → q.new ≡ p.new → ⊥

  kept_parts : (before : List Pair) (p : Pair) → pair_kept f ls before p ≡ true → Kept before p
  unfolding pair_kept
  kept_parts before p h =
      let range = between (suc f.labels) p.old most_old in
      let small = between 1 p.new f.labels in
      let absent = not (any (eqb p.new) ls) in
      let first = not (listed before p.old) in
      let (a, own) = both (range && small && absent && first) (not (taken before p.new)) h in
      let (b, _) = both (range && small && absent) first a in
      let (c, out) = both (range && small) absent b in
      let (d, e) = both range small c in
      record {
        old = within (suc f.labels) p.old most_old d;
        new = within 1 p.new f.labels e;
        absent = λ i. none_passes (eqb p.new) p.new ls out i (eq-eqb p.new p.new refl);
        fresh = λ q i e. none_passes (λ (q : Pair). eqb q.new p.new) q before own i (eq-eqb q.new p.new e);
      }

  -- each pair keeps the rules after those before it
  abbrev pub Right : List Pair → List Pair → Type 0
  Right before [] = Unit
  Right before (p ∷ ps) = Kept before p × Right (before ++ (p ∷ [])) ps

  pub none_right : (i : ℕ) (before ps : List Pair) → bad_pair_from f ls i before ps ≡ none → Right before ps
  none_right i before [] h = tt
  none_right i before (p ∷ ps) h = go (pair_kept f ls before p) refl (none_right (suc i) (before ++ (p ∷ [])) ps) h
    where
      go : (t : Bool) → pair_kept f ls before p ≡ t
          → (bad_pair_from f ls (suc i) (before ++ (p ∷ [])) ps ≡ none → Right (before ++ (p ∷ [])) ps)
          → ◌≡◌ {A = Option ℕ} (elim t [ true ↦ bad_pair_from f ls (suc i) (before ++ (p ∷ [])) ps | false ↦ some i ]) none → Right before (p ∷ ps)
      go true e ih q = (kept_parts before p e, ih q)
      go false e ih q = let z : ◌≡◌ {A = ℕ} 0 1 = cc in let w : ⊥ = omega arith in absurd w

  right_each : (before ps : List Pair) → Right before ps → (p : Pair) → Has p ps → (qs : List Pair) × Kept qs p
  right_each before [] r p h = absurd h
  right_each before (q ∷ ps) r p (inl e) = (before, subst (Kept before) (sym e) r.0)
  right_each before (q ∷ ps) r p (inr h) = right_each (before ++ (q ∷ [])) ps r.1 p h

  -- no pair shares its new label with one before the list
  pub right_fresh : (before ps : List Pair) → Right before ps → (p q : Pair) → Has p before → Has q ps → p.new ≡ q.new → ⊥
  right_fresh before [] r p q hp hq e = hq
  right_fresh before (x ∷ ps) r p q hp (inl i) e = r.0.fresh p hp (e ∙ ap (λ (q : Pair). q.new) i)
  right_fresh before (x ∷ ps) r p q hp (inr h) e = right_fresh (before ++ (x ∷ [])) ps r.1 p q (has_left p before (x ∷ []) hp) h e

  -- pairs with one new label have one old label
  one_old : (before ps : List Pair) → Right before ps → (p q : Pair) → Has p ps → Has q ps → p.new ≡ q.new → p.old ≡ q.old
  one_old before [] r p q hp hq e = absurd hp
  one_old before (x ∷ ps) r p q (inl i) (inl j) e = ap (λ (q : Pair). q.old) (i ∙ sym j)
  one_old before (x ∷ ps) r p q (inl i) (inr h) e =
      absurd (right_fresh (before ++ (x ∷ [])) ps r.1 x q (has_right x before (x ∷ []) (inl refl)) h (sym (ap (λ (q : Pair). q.new) i) ∙ e))
  one_old before (x ∷ ps) r p q (inr h) (inl j) e =
      absurd (right_fresh (before ++ (x ∷ [])) ps r.1 x p (has_right x before (x ∷ []) (inl refl)) h (sym (ap (λ (q : Pair). q.new) j) ∙ sym e))
  one_old before (x ∷ ps) r p q (inr h) (inr k) e = one_old (before ++ (x ∷ [])) ps r.1 p q h k e

  module _ (ps : List Pair) (none_bad : bad_pair f ls ps ≡ none) where
    right : Right [] ps
    unfolding bad_pair
    right = none_right 0 [] ps none_bad

    each : (p : Pair) → Has p ps → (qs : List Pair) × Kept qs p
    each = right_each [] ps right

    -- A label of the new range stays.
    pub converted-small : (x : ℕ) → x ≤ f.labels → converted ps x ≡ x
    converted-small x le =
        ⊎_elim (λ (p, h, o, n). let z : ⊥ = omega (arith, (each p h).1.old.0, o) in absurd z) (λ k. k.1) (becomes ps x)

    -- Every label that is not above the new range without standing in the list comes to lie in the new range.
    pub converted_range : (x : ℕ) → 1 ≤ x → unlisted f ps x ≡ false → (1 ≤ converted ps x) × (converted ps x ≤ f.labels)
    unfolding unlisted
    converted_range x pos in_range =
        ⊎_elim (λ (p, h, o, n). let (lo, hi) = (each p h).1.new in (omega (arith, n), omega (arith, n)))
        (λ (out, stays). let le = ltb-false f.labels x (small (ltb f.labels x) (listed ps x) in_range out) in
        (omega (arith, stays), omega (arith, stays))) (becomes ps x)
      where
        small : (t l : Bool) → t && not l ≡ false → l ≡ false → t ≡ false
        small false l e q = refl
        small true false e q = absurd (true≢false e)
        small true true e q = absurd (true≢false q)

    -- LABELS THAT OCCUR STAY APART: a new label is none of those that occur, and no two pairs share one.
    pub converted_apart : (x y : ℕ) → Has x ls → Has y ls → converted ps x ≡ converted ps y → x ≡ y
    converted_apart x y hx hy e =
        ⊎_elim (λ (p, h, o, n). ⊎_elim (λ (q, k, o₁, n₁). sym o ∙ one_old [] ps right p q h k (sym n ∙ e ∙ n₁) ∙ o₁)
        (λ (out, stays). absurd ((each p h).1.absent (subst (λ z. Has z ls) (sym stays ∙ sym e ∙ n) hy))) (becomes ps y))
        (λ (out, stays). ⊎_elim (λ (q, k, o₁, n₁). absurd ((each q k).1.absent (subst (λ z. Has z ls) (sym stays ∙ e ∙ n₁) hx)))
        (λ (out₁, stays₁). sym stays ∙ e ∙ stays₁) (becomes ps y)) (becomes ps x)

-- ---- how many pairs
-- a label as a list of one
abbrev alone : ℕ → List ℕ
alone x = x ∷ []

module _ (f : Format) (ls : List ℕ) where
  abbrev news : List Pair → List (List ℕ)
  news = map (λ (p : Pair). alone p.new)

  -- no new label stands twice
  news_once : (before ps : List Pair) → Right f ls before ps → Once (news ps)
  news_once before [] r = tt
  news_once before (p ∷ ps) r = (
    (λ h. let (q, i, e) = map-has (λ (p : Pair). alone p.new) (alone p.new) ps h in
        right_fresh f ls (before ++ (p ∷ [])) ps r.1 p q (has_right p before (p ∷ []) (inl refl)) i (ap (first_or 0) e)),
    news_once (before ++ (p ∷ [])) ps r.1,
  )

  -- There are no more pairs than new labels.
  few_right : (before ps : List Pair) → Right f ls before ps → length ps ≤ f.labels
  few_right before ps r =
      let range = map alone (count 1 f.labels) in
      let le : length (news ps) ≤ length range = once_few (news ps) range (news_once before ps r) in_range in
      omega (arith, le, length-map ps (λ (p : Pair). alone p.new), length-map (count 1 f.labels) alone, length-count 1 f.labels)
    where
      in_range : (x : List ℕ) → Has x (news ps) → Has x (map alone (count 1 f.labels))
      in_range x h =
          let (p, i, e) = map-has (λ (p : Pair). alone p.new) x ps h in
          let (lo, hi) = (right_each f ls before ps r p i).1.new in
          subst (λ z. Has z (map alone (count 1 f.labels))) (sym e)
          (has-map alone p.new (count 1 f.labels) (has-count 1 f.labels p.new lo (omega arith)))

  -- the pairs before the first that breaks a rule keep them
  bad_from : (i : ℕ) (before ps : List Pair) (n : ℕ) → bad_pair_from f ls i before ps ≡ some n
      → (k : ℕ) × (n ≡ i + k) × (k < length ps) × Right f ls before (take k ps)
  bad_from i before [] n h = let z : ◌≡◌ {A = ℕ} 0 1 = cc in let w : ⊥ = omega arith in absurd w
  bad_from i before (p ∷ ps) n h = go (pair_kept f ls before p) refl (bad_from (suc i) (before ++ (p ∷ [])) ps n) h
    where
      go : (t : Bool) → pair_kept f ls before p ≡ t
          → (bad_pair_from f ls (suc i) (before ++ (p ∷ [])) ps ≡ some n
          → (k : ℕ) × (n ≡ suc i + k) × (k < length ps) × Right f ls (before ++ (p ∷ [])) (take k ps))
          → ◌≡◌ {A = Option ℕ} (elim t [ true ↦ bad_pair_from f ls (suc i) (before ++ (p ∷ [])) ps | false ↦ some i ]) (some n)
          → (k : ℕ) × (n ≡ i + k) × (k < suc (length ps)) × Right f ls before (take k (p ∷ ps))
      go true e ih q = let (k, at, lt, r) = ih q in (suc k, omega (arith, at), omega (arith, lt), (kept_parts f ls before p e, r))
      go false e ih q = let same : i ≡ n = cc in (0, omega (arith, same), omega arith, tt)

  -- A LIST THAT BREAKS NO RULE is no longer than the new range.
  pub most_pairs : (ps : List Pair) → bad_pair f ls ps ≡ none → length ps ≤ f.labels
  unfolding bad_pair
  most_pairs ps h = few_right [] ps (none_right f ls 0 [] ps h)

  -- The first pair to break a rule stands at one of the places 0 to the largest label.
  pub bad_early : (ps : List Pair) (n : ℕ) → bad_pair f ls ps ≡ some n → (n ≤ f.labels) × (n < length ps)
  unfolding bad_pair
  bad_early ps n h =
      let (k, at, lt, r) = bad_from 0 [] ps n h in
      (omega (arith, at, few_right [] (take k ps) r, length-take k ps), omega (arith, at))
