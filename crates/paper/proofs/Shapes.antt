-- The ways of a shape that keeps the entry rules: each ends at its own entry, starts at entry 0, and is as long as the entry's
-- level; what stands on a way has its own way cut there. What the rules say of its entries. Assumes nothing.
use Prim.Native.Nat.{ℕ, zero, suc, ◌+◌, ◌≤◌, ◌<◌, pred}
use native.Mathlib.Nat.{not-suc-le-zero, le_of_suc-le-suc, zero-add}
use native.Mathlib.Omega.{arith}
use mathlib.Core.Path.{◌≡◌, refl, sym, ◌∙◌, ap, subst}
use mathlib.Core.Logic.{◌⊎◌, inl, inr, ⊎_elim}
use mathlib.Core.Bool.{true, ◌&&◌}
use mathlib.Core.List.{List, [], ◌∷◌, ◌++◌, map}
use mathlib.Core.Option.{none}
use lib.Dec.{leb, eqb}
use lib.ListN.{length, get_or, length-append, length-take, take, drop}
use lib.Seq.{take-append_seam, take-nil}
use borrow.Author.Tests.{leb-true, eqb-true}
use Rattle.paper.specs.Lists.{Has, all, last_or, between, ways}
use Rattle.paper.specs.Format.{Format, head_bytes, entry_bytes, records, whole}
use Rattle.paper.specs.Shapes.{Entry, Shape, entry_of, entries, named, level_kept, entry_kept, bad_entry, steps, shape_over, way}
use Rattle.paper.proofs.Lists.{both, within, all-has, map-has, last_has, get_d_has, has_get_d}
use Rattle.paper.proofs.Forest.{Kin, above}
use Rattle.paper.proofs.Tables.{Rules, none-rules, rules-each, length-words}

-- ---- ways, whatever the levels
take-length-take : (n : ℕ) (w : List ℕ) → take (length (take n w)) w ≡ take n w
take-length-take zero w = refl
take-length-take (suc n) [] = refl
take-length-take (suc n) (x ∷ w) = ap {B = List ℕ} (λ z. x ∷ z) (take-length-take n w)

abbrev pub self : List ℕ → List ℕ
self w = w

pub ways_kin : (w : List ℕ) (xs : List (ℕ × ℕ)) → Kin self self w w (ways w xs)
ways_kin w [] = tt
ways_kin w (x ∷ xs) =
    let u = take (pred x.0) w in
    let v = u ++ (x.1 ∷ []) in
    let q : pred (length v) ≡ length u = omega (arith, length-append u (x.1 ∷ [])) in
    let e : take (pred (length v)) v ≡ take (pred (length v)) w =
    subst (λ n. take n v ≡ take n w) (sym q) (take-append_seam u (x.1 ∷ []) ∙ sym (take-length-take (pred x.0) w)) in
    (refl, e, e, ways_kin v xs)

length-steps : (w : List ℕ) (i : ℕ) (es : List Entry) → length (ways w (steps i es)) ≡ length es
length-steps w i [] = refl
length-steps w i (e ∷ es) = ap suc (length-steps (take (pred e.level) w ++ (i ∷ [])) (suc i) es)

ends_own : (w : List ℕ) (i : ℕ) (es : List Entry) (j : ℕ) → j < length es → (u : List ℕ) × (get_or (ways w (steps i es)) j [] ≡ u ++ ((i + j) ∷ []))
ends_own w i [] j lt = absurd (not-suc-le-zero lt)
ends_own w i (e ∷ es) zero lt = (take (pred e.level) w, ap (λ n. take (pred e.level) w ++ (n ∷ [])) (omega arith))
ends_own w i (e ∷ es) (suc j) lt =
    let (u, q) = ends_own (take (pred e.level) w ++ (i ∷ [])) (suc i) es j (le_of_suc-le-suc lt) in
    (u, q ∙ ap (λ n. u ++ (n ∷ [])) (omega arith))

-- ---- what the rules add: levels
-- what the rules say of an entry, one by one
pub record Parts (f : Format) (before : ℕ) (e : Entry) : Type 0 where
  pub level : (1 ≤ e.level) × (e.level ≤ f.levels)
  pub size : (1 ≤ e.size) × (e.size ≤ f.levels)
  pub labels : all (λ x. between 1 x f.labels) (named e) ≡ true
  pub zeros : all (eqb 0) (drop e.size e.labels) ≡ true
  pub next : level_kept before e.level ≡ true

pub entry-parts : (f : Format) (before : ℕ) (e : Entry) → entry_kept f before e ≡ true → Parts f before e
unfolding entry_kept
entry-parts f before e h =
    let l = between 1 e.level f.levels in
    let z = between 1 e.size f.levels in
    let a = both (l && z && eqb e.spare 0 && all (λ x. between 1 x f.labels) (named e) && all (eqb 0) (drop e.size e.labels))
    (level_kept before e.level) h in
    let b = both (l && z && eqb e.spare 0 && all (λ x. between 1 x f.labels) (named e)) (all (eqb 0) (drop e.size e.labels)) a.0 in
    let c = both (l && z && eqb e.spare 0) (all (λ x. between 1 x f.labels) (named e)) b.0 in
    let d = both l z (both (l && z) (eqb e.spare 0) c.0).0 in
    let inside : (x : ℕ) → between 1 x f.levels ≡ true → (1 ≤ x) × (x ≤ f.levels) = λ x. within 1 x f.levels in
    record { level = inside e.level d.0; size = inside e.size d.1; labels = c.1; zeros = b.1; next = a.1 }

-- level 1 to the format's, and one more than the level before at the most; after the first at least 2
entry-level : (f : Format) (before : ℕ) (e : Entry) → entry_kept f before e ≡ true
    → (1 ≤ e.level) × (e.level ≤ f.levels) × (e.level ≤ suc before) × ((before ≡ 0) ⊎ (2 ≤ e.level))
entry-level f before e h =
    let p = entry-parts f before e h in
    let r = kept before p.next in
    (p.level.0, p.level.1, r.0, r.1)
  where
    kept : (b : ℕ) → level_kept b e.level ≡ true → (e.level ≤ suc b) × ((b ≡ 0) ⊎ (2 ≤ e.level))
    kept zero q = (omega (arith, eqb-true e.level 1 q), inl refl)
    kept (suc b) q =
        let i = both (leb 2 e.level) (leb e.level (suc (suc b))) q in
        (leb-true e.level (suc (suc b)) i.1, inr (leb-true 2 e.level i.0))

-- the last label of the type that an entry names is a label of the format
pub entry_label : (f : Format) (before : ℕ) (e : Entry) → length e.labels ≡ f.levels → entry_kept f before e ≡ true
    → between 1 (last_or 0 (named e)) f.labels ≡ true
entry_label f before e laid h =
    let p = entry-parts f before e h in
    go (named e) p.labels (omega (arith, p.size, length-take e.size e.labels))
  where
    go : (k : List ℕ) → all (λ x. between 1 x f.labels) k ≡ true → 0 < length k → between 1 (last_or 0 k) f.labels ≡ true
    go [] q pos = absurd (not-suc-le-zero pos)
    go (y ∷ ys) q pos = all-has (λ x. between 1 x f.labels) (last_or 0 (y ∷ ys)) (y ∷ ys) q (last_has 0 y ys)

abbrev pub level_of : Entry → ℕ
level_of e = e.level

pub entries_laid : (f : Format) (s : List ℕ) (e : Entry) → Has e (entries f s) → length e.labels ≡ f.levels
unfolding entries entry_of
entries_laid f s e h =
    let (r, hr, q) = map-has (entry_of f) e (records (entry_bytes f) (whole (entry_bytes f) s) s) h in
    ap (λ (e : Entry). length e.labels) q ∙ length-words f.levels r head_bytes

-- what the rules say of each entry of a shape that keeps them
pub each_part : (f : Format) (es : List Entry) → bad_entry f es ≡ none → (e : Entry) → Has e es → (before : ℕ) × Parts f before e
unfolding bad_entry
each_part f es sound e h =
    let (before, k) = rules-each (entry_kept f) level_of 0 es (none-rules (entry_kept f) level_of 0 0 es sound) e h in
    (before, entry-parts f before e k)

-- a sound shape's labels lie in its range
pub sound-named : (f : Format) (es : List Entry) → bad_entry f es ≡ none → (e : Entry) → Has e es → (x : ℕ) → Has x (named e) → (1 ≤ x) × (x ≤ f.labels)
sound-named f es sound e h x i =
    within 1 x f.labels (all-has (λ x. between 1 x f.labels) x (named e) (each_part f es sound e h).1.labels i)

module _ (f : Format) where
  -- the way of an entry that keeps the rules after the way w
  step-length : (w : List ℕ) (i : ℕ) (e : Entry) → entry_kept f (length w) e ≡ true → length (take (pred e.level) w ++ (i ∷ [])) ≡ e.level
  step-length w i e k =
      let (lo, hi, next, two) = entry-level f (length w) e k in
      omega (arith, length-append (take (pred e.level) w) (i ∷ []), length-take (pred e.level) w)

  -- the rules of the entries after it
  next_rules : (w : List ℕ) (i : ℕ) (e : Entry) (es : List Entry) → Rules (entry_kept f) level_of (length w) (e ∷ es)
      → Rules (entry_kept f) level_of (length (take (pred e.level) w ++ (i ∷ []))) es
  next_rules w i e es k = subst (λ n. Rules (entry_kept f) level_of n es) (sym (step-length w i e k.0)) k.1

  -- a way is as long as its entry's level, which the format has
  level-length : (w : List ℕ) (i : ℕ) (es : List Entry) (j : ℕ) → Rules (entry_kept f) level_of (length w) es → j < length es
      → let v = get_or (ways w (steps i es)) j [] in (length v ≡ get_or (map level_of es) j 0) × (length v ≤ f.levels)
  level-length w i [] j k lt = absurd (not-suc-le-zero lt)
  level-length w i (e ∷ es) zero k lt =
      let q = step-length w i e k.0 in (q, omega (arith, q, (entry-level f (length w) e k.0).1))
  level-length w i (e ∷ es) (suc j) k lt =
      level-length (take (pred e.level) w ++ (i ∷ [])) (suc i) es j (next_rules w i e es k) (le_of_suc-le-suc lt)

  take_root : (n : ℕ) (p : List ℕ) → 1 ≤ n → take n (0 ∷ p) ≡ 0 ∷ take (pred n) p
  take_root zero p le = absurd (not-suc-le-zero le)
  take_root (suc n) p le = refl

  -- every way after one that starts at entry 0 starts there too
  rooted_from : (p : List ℕ) (i : ℕ) (es : List Entry) → Rules (entry_kept f) level_of (suc (length p)) es
      → (v : List ℕ) → Has v (ways (0 ∷ p) (steps i es)) → (u : List ℕ) × (v ≡ 0 ∷ u)
  rooted_from p i [] k v h = absurd h
  rooted_from p i (e ∷ es) k v h = go h (rooted_from (take (pred (pred e.level)) p ++ (i ∷ [])) (suc i) es rest v)
    where
      two : 2 ≤ e.level
      two = ⊎_elim (λ z. let w : ⊥ = omega arith in absurd w) (λ l. l) (entry-level f (suc (length p)) e k.0).3

      form : take (pred e.level) (0 ∷ p) ++ (i ∷ []) ≡ 0 ∷ (take (pred (pred e.level)) p ++ (i ∷ []))
      form = ap (λ z. z ++ (i ∷ [])) (take_root (pred e.level) p (omega (arith, two)))

      rest : Rules (entry_kept f) level_of (suc (length (take (pred (pred e.level)) p ++ (i ∷ [])))) es
      rest = subst (λ z. Rules (entry_kept f) level_of (length z) es) form (next_rules (0 ∷ p) i e es k)

      go : Has v (ways (0 ∷ p) (steps i (e ∷ es)))
          → (Has v (ways (0 ∷ (take (pred (pred e.level)) p ++ (i ∷ []))) (steps (suc i) es)) → (u : List ℕ) × (v ≡ 0 ∷ u))
          → (u : List ℕ) × (v ≡ 0 ∷ u)
      go (inl q) ih = (take (pred (pred e.level)) p ++ (i ∷ []), q ∙ form)
      go (inr i₁) ih = ih (subst (λ z. Has v (ways z (steps (suc i) es))) form i₁)

  rooted : (es : List Entry) → Rules (entry_kept f) level_of 0 es → (v : List ℕ) → Has v (ways [] (steps 0 es)) → (u : List ℕ) × (v ≡ 0 ∷ u)
  rooted [] k v h = absurd h
  rooted (e ∷ es) k v h = go h
    where
      form : ◌++◌ {A = ℕ} (take (pred e.level) []) (0 ∷ []) ≡ 0 ∷ []
      form = ap (λ z. z ++ (0 ∷ [])) (take-nil (pred e.level))

      go : Has v (ways [] (steps 0 (e ∷ es))) → (u : List ℕ) × (v ≡ 0 ∷ u)
      go (inl q) = ([], q ∙ form)
      go (inr i) =
          rooted_from [] 1 es (subst (λ z. Rules (entry_kept f) level_of (length z) es) form (next_rules [] 0 e es k)) v
          (subst (λ z. Has v (ways z (steps 1 es))) form i)

-- ---- all that the theorems use of a shape
pub record Ways (s : Shape) : Type 0 where
  -- a way ends at its own entry
  pub own : (e : ℕ) → e < length s.ways → (u : List ℕ) × (way s e ≡ u ++ (e ∷ []))
  -- a way cut after some entry is that entry's way
  pub cut : (e : ℕ) → e < length s.ways → (k : ℕ) → 0 < k → k ≤ length (way s e) → (g : ℕ) × (g < length s.ways) × (way s g ≡ take k (way s e))
  -- a way starts at entry 0
  pub root : (e : ℕ) → e < length s.ways → (v : List ℕ) × (way s e ≡ 0 ∷ v)

module _ (f : Format) (ts : List (List ℕ)) (es : List Entry) (kept : Rules (entry_kept f) level_of 0 es) where
  pub size : length (shape_over ts es).ways ≡ length es
  unfolding shape_over
  size = length-steps [] 0 es

  pub shape-ways : Ways (shape_over ts es)
  unfolding shape_over
  shape-ways = record {
    own = λ e lt. let (u, q) = ends_own [] 0 es e (omega (arith, size)) in (u, q ∙ ap (λ n. u ++ (n ∷ [])) (zero-add e));
    cut = λ e lt k pos le. cut_at e lt k pos le;
    root = λ e lt. rooted f es kept (get_or (ways [] (steps 0 es)) e []) (get_d_has [] (ways [] (steps 0 es)) e lt);
  }
    where
      cut_at : (e : ℕ) → e < length (ways [] (steps 0 es)) → (k : ℕ) → 0 < k → k ≤ length (get_or (ways [] (steps 0 es)) e [])
          → (g : ℕ) × (g < length (ways [] (steps 0 es))) × (get_or (ways [] (steps 0 es)) g [] ≡ take k (get_or (ways [] (steps 0 es)) e []))
      cut_at e lt k pos le =
          let l = ways [] (steps 0 es) in
          let w = get_or l e [] in
          ⊎_elim (λ a. let (g, lg, q) = has_get_d [] a.0 l a.1 in (g, lg, q ∙ a.2))
          (λ z. let b : ⊥ = omega (arith, ap length z.0, length-take k w, length-take {A = ℕ} k []) in absurd b)
          (above self self [] [] w l k (ways_kin [] (steps 0 es)) (get_d_has [] l e lt))

  -- a way is as long as its entry's level, which the format has
  pub way_level : (e : ℕ) → e < length es → let s = shape_over ts es in (length (way s e) ≡ get_or s.levels e 0) × (length (way s e) ≤ f.levels)
  unfolding shape_over
  way_level e lt = level-length f [] 0 es e kept lt
