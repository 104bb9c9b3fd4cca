-- The walk that finds how deep types meet. Assumes nothing.
use Prim.Native.Nat.{ℕ, zero, suc, ◌+◌, ◌-◌, ◌≤◌, ◌<◌, pred, min, max}
use native.Mathlib.Nat.{le_antisymm, not-suc-le-zero}
use native.Mathlib.Omega.{arith}
use native.Mathlib.Numerals.{add-one}
use mathlib.Core.Path.{◌≡◌, refl, sym, ◌∙◌, ap, subst}
use mathlib.Core.Logic.{⊎_elim}
use mathlib.Core.Bool.{Bool, true, false, true≢false}
use mathlib.Core.List.{List}
use lib.Dec.{eqb, leb}
use lib.ListN.{get_or, replicate}
use borrow.Author.Tests.{eqb-true, eqb-false, eq-eqb, leb-true, leb-false}
use Rattle.paper.specs.Lists.{Has}
use Rattle.paper.specs.Format.{Format}
use Rattle.paper.specs.Tables as Tables
use Rattle.paper.specs.Closeness.{Node, nodes, meet, level, kinds_meet}
use Rattle.paper.proofs.Agree.{shared-length}
use Rattle.paper.proofs.Closeness.{meet_le, kinds_meet_le, meet-sym}
use Rattle.types.proofs.Step.{below}
use Rattle.closest.specs.Node.{node, Typed}
use Rattle.closest.specs.Runs.{Levelled}
use Rattle.closest.specs.Deepest.{Deepest, onward, nearest, deepest, types_meet}
use Rattle.closest.proofs.Meets.{here, kind_at, is-node, place_in}
use Rattle.closest.proofs.Levels.{level_most, meet_self, meet-level, meet_on}

-- m is how deep the last of the first i rows meets the rows of type a among them
pub record Near (f : Format) (t types : List ℕ) (a i m : ℕ) : Type 0 where
  pub most : (h j : ℕ) → h ≤ j → j + 1 ≡ i → get_or types h 0 ≡ a → meet (node f t h) (node f t j) ≤ m
  pub reached : 0 < m → (h j : ℕ) × (h ≤ j) × (j + 1 ≡ i) × (get_or types h 0 ≡ a) × (meet (node f t h) (node f t j) ≡ m)

pub near_start : (f : Format) (t types : List ℕ) (a : ℕ) → Near f t types a 0 0
near_start f t types a = record { most = λ h j le e. let z : ⊥ = omega arith in absurd z; reached = λ lt. absurd (not-suc-le-zero lt) }

pub deepest_start : (f : Format) (t types : List ℕ) (a k v : ℕ) → v ≡ 0 → Deepest f 0 t types a k v
deepest_start f t types a k v z = record { most = λ i j le lt. absurd (not-suc-le-zero lt); reached = λ lt. let y : ⊥ = omega arith in absurd y }

module _ (f : Format) (rows : ℕ) (t types : List ℕ) (ty : Typed f rows t types) where
  abbrev at : ℕ → Node
  at i = node f t i

  abbrev ns : List Node
  ns = nodes (Tables.rows f t)

  -- one row more
  pub near_step : (a i m : ℕ) → i < rows → Near f t types a i m → Near f t types a (i + 1) (onward (get_or types i 0) a (level (node f t i)) m)
  near_step a i m lt nr = go (eqb (get_or types i 0) a) refl
    where
      go : (b : Bool) → eqb (get_or types i 0) a ≡ b
          → Near f t types a (i + 1) (elim b as (λ _. ℕ) [ true ↦ level (at i) | false ↦ min m (pred (level (at i))) ])
      go true e = record {
        most = λ h j le q own.
            let z : j ≡ i = omega arith in
            subst (λ x. meet (at h) (at x) ≤ level (at i)) (sym z) (omega (arith, meet-sym ns (at h) (at i), meet-level f rows t types ty i h));
        reached = λ pos. (i, i, omega arith, refl, eqb-true (get_or types i 0) a e, meet_self f rows t types ty i);
      }
      go false e = record {
        most = λ h j le q own.
            let z : j ≡ i = omega arith in
            subst (λ x. meet (at h) (at x) ≤ min m (pred (level (at i)))) (sym z) (bound h (omega arith) own);
        reached = λ pos. found pos;
      }
        where
          other : get_or types i 0 ≡ a → ⊥
          other q = let z : true ≡ false = sym (eq-eqb (get_or types i 0) a q) ∙ e in true≢false z

          meets : (h j : ℕ) → h ≤ j → j + 1 ≡ i → meet (at h) (at i) ≡ min (meet (at h) (at j)) (pred (level (at i)))
          meets h j le q =
              subst (λ x. meet (at h) (at x) ≡ min (meet (at h) (at j)) (pred (level (at x)))) q (meet_on f rows t types ty h j le (omega arith))

          bound : (h : ℕ) → h ≤ i → get_or types h 0 ≡ a → meet (at h) (at i) ≤ min m (pred (level (at i)))
          bound h le own = ⊎_elim
              (λ c. omega (arith, meets h (i - 1) (omega arith) (omega arith), nr.most h (i - 1) (omega arith) (omega arith) own))
              (λ q. absurd (other (subst (λ x. get_or types x 0 ≡ a) q own))) (below h i (omega arith))

          found : 0 < min m (pred (level (at i)))
              → (h j : ℕ) × (h ≤ j) × (j + 1 ≡ i + 1) × (get_or types h 0 ≡ a) × (meet (at h) (at j) ≡ min m (pred (level (at i))))
          found pos =
              let (h, j, le, q, own, e) = nr.reached (omega arith) in
              (h, i, omega arith, refl, own, meets h j le q ∙ ap (λ x. min x (pred (level (at i)))) e)

  -- a row of another type changes nothing
  pub deepest_other : (a k i v : ℕ) → (get_or types i 0 ≡ k → ⊥) → Deepest f i t types a k v → Deepest f (i + 1) t types a k v
  deepest_other a k i v ne d = record {
    most = λ h j le lt p q. ⊎_elim (λ c. d.most h j le c p q) (λ e. absurd (ne (subst (λ x. get_or types x 0 ≡ k) e q))) (below j i lt);
    reached = λ pos. let (h, j, le, lt, p, q, e) = d.reached pos in (h, j, le, omega arith, p, q, e);
  }

  -- a row of the type itself
  pub deepest_own : (a k i v m : ℕ) → get_or types i 0 ≡ k → Deepest f i t types a k v → Near f t types a (i + 1) m
      → Deepest f (i + 1) t types a k (max v m)
  deepest_own a k i v m own d nr = record {
    most = λ h j le lt p q. ⊎_elim (λ c. omega (arith, d.most h j le c p q)) (λ e. omega (arith, nr.most h j le (omega arith) p)) (below j i lt);
    reached = λ pos. go (leb m v) refl pos;
  }
    where
      go : (b : Bool) → leb m v ≡ b → 0 < max v m
          → (h j : ℕ) × (h ≤ j) × (j < i + 1) × (get_or types h 0 ≡ a) × (get_or types j 0 ≡ k) × (meet (at h) (at j) ≡ max v m)
      go true e pos =
          let le = leb-true m v e in
          let (h, j, hj, lt, p, q, r) = d.reached (omega arith) in (h, j, hj, omega arith, p, q, omega (arith, r))
      go false e pos =
          let lt = leb-false m v e in
          let (h, j, hj, z, p, r) = nr.reached (omega arith) in
          let y : i ≡ j = omega arith in (h, j, hj, omega arith, p, subst (λ x. get_or types x 0 ≡ k) y own, omega (arith, r))

  -- two types meet at the deeper of the two: rows of the one before those of the other, or the other way round
  pub kinds_deepest : (a b v w : ℕ) → Deepest f rows t types a b v → Deepest f rows t types b a w
      → max v w ≡ kinds_meet (nodes (Tables.rows f t)) a b
  kinds_deepest a b v w d g =
      le_antisymm (omega (arith, low v d, high w g)) (kinds_meet_le ns a b (max v w) (λ x y ox oy. bound x y ox.0 oy.0 ox.1 oy.1))
    where
      of : (i k : ℕ) → i < rows → get_or types i 0 ≡ k → Has (at i) ns × ((at i).kind ≡ k)
      of i k lt e = (here f rows t types ty i lt, sym (kind_at f rows t types ty i lt) ∙ e)

      low : (v : ℕ) → Deepest f rows t types a b v → v ≤ kinds_meet ns a b
      low zero d = omega arith
      low (suc v) d =
          let (i, j, le, lt, p, q, e) = d.reached (omega arith) in
          subst (λ m. m ≤ kinds_meet ns a b) e (meet_le ns a b (at i) (at j) (of i a (omega arith) p) (of j b lt q))

      high : (w : ℕ) → Deepest f rows t types b a w → w ≤ kinds_meet ns a b
      high zero d = omega arith
      high (suc w) d =
          let (i, j, le, lt, p, q, e) = d.reached (omega arith) in
          subst (λ m. m ≤ kinds_meet ns a b) (meet-sym ns (at j) (at i) ∙ e) (meet_le ns a b (at j) (at i) (of j a lt q) (of i b (omega arith) p))

      kind_in : (x : Node) → Has x ns → get_or types x.place 0 ≡ x.kind
      kind_in x h = kind_at f rows t types ty x.place (place_in f rows t types ty x h) ∙ sym (ap (λ (z : Node). z.kind) (is-node f rows t types ty x h))

      bound : (x y : Node) → Has x ns → Has y ns → x.kind ≡ a → y.kind ≡ b → meet x y ≤ max v w
      bound x y hx hy kx ky = go (leb x.place y.place) refl
        where
          ex : x ≡ at x.place
          ex = is-node f rows t types ty x hx

          ey : y ≡ at y.place
          ey = is-node f rows t types ty y hy

          same : meet x y ≡ meet (at x.place) (at y.place)
          same = ap (λ z. meet z y) ex ∙ ap (λ z. meet (at x.place) z) ey

          go : (c : Bool) → leb x.place y.place ≡ c → meet x y ≤ max v w
          go true e =
              let le = leb-true x.place y.place e in
              omega (arith, same, d.most x.place y.place le (place_in f rows t types ty y hy) (kind_in x hx ∙ kx) (kind_in y hy ∙ ky))
          go false e =
              let lt = leb-false x.place y.place e in
              omega (
                arith,
                same,
                meet-sym ns (at x.place) (at y.place),
                g.most y.place x.place (omega arith) (place_in f rows t types ty x hx) (kind_in y hy ∙ ky) (kind_in x hx ∙ kx),
              )

  -- what two types meet at is no deeper than the format
  pub kinds_shallow : (a b : ℕ) → kinds_meet (nodes (Tables.rows f t)) a b ≤ f.levels
  kinds_shallow a b =
      kinds_meet_le ns a b f.levels
      (λ x y ox oy. omega (arith, shared-length x.dewey y.dewey, level_most f rows t types ty x ox.0))

-- ---- read off the rows' levels and types
module _ (f : Format) (rows : ℕ) (t levels types : List ℕ) (lv : Levelled f rows t levels types) where
  pub nearest_near : (a i : ℕ) → i ≤ rows → Near f t types a i (nearest levels types a i)
  unfolding nearest
  nearest_near a zero le = near_start f t types a
  nearest_near a (suc i) le =
      rw (← add-one i, lv.level-is i (omega arith))
      (near_step f rows t types lv.typed a i (nearest levels types a i) (omega arith) (nearest_near a i (omega arith)))

  pub deepest_deep : (a k i : ℕ) → i ≤ rows → Deepest f i t types a k (deepest levels types a k i)
  unfolding deepest
  deepest_deep a k zero le = deepest_start f t types a k 0 refl
  deepest_deep a k (suc i) le = go (eqb (get_or types i 0) k) refl (deepest_deep a k i (omega arith))
    where
      go : (b : Bool) → eqb (get_or types i 0) k ≡ b → Deepest f i t types a k (deepest levels types a k i)
          → Deepest f (suc i) t types a k
          (elim b as (λ _. ℕ) [ true ↦ max (deepest levels types a k i) (nearest levels types a (suc i)) | false ↦ deepest levels types a k i ])
      go true e d = rw (← add-one i) (deepest_own f rows t types lv.typed a k i _ _ (eqb-true (get_or types i 0) k e) d
          (nearest_near a (i + 1) (omega arith)))
      go false e d = rw (← add-one i) (deepest_other f rows t types lv.typed a k i _ (eqb-false (get_or types i 0) k e) d)

  pub types_meet_lem : (a b : ℕ) → types_meet levels types rows a b ≡ kinds_meet (nodes (Tables.rows f t)) a b
  types_meet_lem a b =
      kinds_deepest f rows t types lv.typed a b _ _ (deepest_deep a b rows (omega arith)) (deepest_deep b a rows (omega arith))

pub zeros-at : (n i : ℕ) → get_or {A = ℕ} (replicate n 0) i 0 ≡ 0
zeros-at zero i = refl
zeros-at (suc n) zero = refl
zeros-at (suc n) (suc i) = zeros-at n i
