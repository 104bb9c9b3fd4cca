-- The ways of entries, read place by place: what two ways share, the least level on a way, and whether it is sure. Assumes nothing.
use Prim.Native.Nat.{ℕ, zero, suc, ◌+◌, ◌*◌, ◌≤◌, ◌<◌, min}
use native.Mathlib.Numerals.{add-one}
use native.Mathlib.Omega.{arith}
use mathlib.Core.Path.{◌≡◌, refl, sym, ◌∙◌, ap, ap₂}
use mathlib.Core.Bool.{Bool, true, false, ◌&&◌, ◌||◌}
use mathlib.Core.List.{List, ◌∷◌}
use lib.Dec.{eqb}
use lib.ListN.{length, get_or, drop, length-take, length-drop}
use lib.Seq.{drop-cons}
use borrow.Author.Tests.{eq-eqb, ne_eqb}
use Rattle.paper.specs.Closeness.{shared}
use Rattle.tables.proofs.Laws.{shared_step, shared-stop, shared_end}
use Rattle.shapes.specs.Shape.{level_of}
use Rattle.shapes.specs.Ways.{way_places, way_at}
use Rattle.shapes.specs.declared.shape.Shape.{Shape}
use Rattle.shapes.proofs.Places.{way_place}
use Rattle.judging.specs.Pairs.{WayFits, Room, lowest, levels_on, sure_on}

-- ---- one way
pub way_fits : {s : Shape} {ways : List ℕ} → Room s ways → (e : ℕ) → e < s.entries → WayFits ways e (level_of s e)
way_fits room e le = record {
  entry = omega (arith, room.sized.few);
  ways_long = room.ways_long;
  short = room.short e le;
  inside = λ k lt. omega (arith, room.sized.few, room.inside e k le lt);
}

-- a way fits at the level that was read
pub fits_read : {ways : List ℕ} {e n size : ℕ} → size ≡ n → WayFits ways e n → WayFits ways e size
fits_read q fits = rw q fits

module _ {ways : List ℕ} {e n : ℕ} (fits : WayFits ways e n) where
  -- the places of a way lie within the ways
  pub way_within : way_places * e + n ≤ length ways
  way_within = omega (arith, fits.entry, fits.ways_long, fits.short)

  pub way_long : length (way_at ways e n) ≡ n
  way_long = omega (arith, way_within, length-take n (drop (way_places * e) ways), length-drop (way_places * e) ways)

  -- from place i on a way is the entry at that place, then what follows
  pub way_from : (i : ℕ) → i < n → drop i (way_at ways e n) ≡ get_or ways (way_places * e + i) 0 ∷ drop (i + 1) (way_at ways e n)
  way_from i lt =
      drop-cons (way_at ways e n) i 0 (omega (arith, way_long))
      ∙ ap₂ {C = List ℕ} (λ c j. c ∷ drop j (way_at ways e n)) (way_place ways e n i lt) (sym (add-one i))

-- ---- what two ways share
-- the first k places of two ways are alike
abbrev pub Alike : List ℕ → ℕ → ℕ → ℕ → Type 0
Alike ways e f k = (j : ℕ) → j < k → get_or ways (way_places * e + j) 0 ≡ get_or ways (way_places * f + j) 0

module _ {ways : List ℕ} {e f m n : ℕ} (fits-e : WayFits ways e m) (fits-f : WayFits ways f n) where
  abbrev here : ℕ → ℕ
  here k = get_or ways (way_places * e + k) 0

  abbrev there : ℕ → ℕ
  there k = get_or ways (way_places * f + k) 0

  at_e : (k : ℕ) → k < m → (k < length (way_at ways e m)) × (get_or (way_at ways e m) k 0 ≡ here k)
  at_e k lt = (omega (arith, way_long fits-e), way_place ways e m k lt)

  at_f : (k : ℕ) → k < n → (k < length (way_at ways f n)) × (get_or (way_at ways f n) k 0 ≡ there k)
  at_f k lt = (omega (arith, way_long fits-f), way_place ways f n k lt)

  along : (k : ℕ) → k ≤ m → k ≤ n → Alike ways e f k
      → k + shared (drop k (way_at ways e m)) (drop k (way_at ways f n)) ≡ shared (way_at ways e m) (way_at ways f n)
  along zero a b h = omega arith
  along (suc k) a b h =
      let x = at_e k (omega arith) in
      let y = at_f k (omega arith) in
      let step : shared (drop k (way_at ways e m)) (drop k (way_at ways f n)) ≡ suc (shared (drop (suc k) (way_at ways e m)) (drop (suc k) (way_at ways f n))) =
      shared_step (way_at ways e m) (way_at ways f n) k x.0 y.0 (x.1 ∙ h k (omega arith) ∙ sym y.1)
      ∙ ap (λ i. suc (shared (drop i (way_at ways e m)) (drop i (way_at ways f n)))) (add-one k) in
      omega (arith, step, along k (omega arith) (omega arith) (λ j lt. h j (omega arith)))

  module _ (most k : ℕ) (least : most ≡ min m n) (h : Alike ways e f k) where
    -- the ways part at place k
    pub shared_apart : k < most → (here k ≡ there k → ⊥) → k ≡ shared (way_at ways e m) (way_at ways f n)
    shared_apart lt ne =
        let x = at_e k (omega arith) in
        let y = at_f k (omega arith) in
        omega (arith, along k (omega arith) (omega arith) h, shared-stop (way_at ways e m) (way_at ways f n) k x.0 y.0 (λ q. ne (sym x.1 ∙ q ∙ y.1)))

    -- one way ends there
    pub shared-whole : k ≤ most → most ≤ k → most ≡ shared (way_at ways e m) (way_at ways f n)
    shared-whole a b =
        omega (
          arith,
          along k (omega arith) (omega arith) h,
          shared_end (way_at ways e m) (way_at ways f n) k (omega (arith, way_long fits-e, way_long fits-f)),
        )

-- ---- down one way
module _ {ways : List ℕ} {e n : ℕ} (fits : WayFits ways e n) (edges : List ℕ) (i : ℕ) where
  module _ (lt : i < n) where
    -- one edge more is passed
    pub lowest_step : (c v b r : ℕ) → c ≡ get_or ways (way_places * e + i) 0 → v ≡ get_or edges c 0 → r ≡ min b v
        → lowest r (levels_on edges (drop (i + 1) (way_at ways e n))) ≡ lowest b (levels_on edges (drop i (way_at ways e n)))
    lowest_step c v b r qc qv qr = rw (qr, qv, qc, way_from fits i lt) refl

    module _ (full : List Bool) (c v l : ℕ) (qc : c ≡ get_or ways (way_places * e + i) 0) (qv : v ≡ get_or edges c 0) where
      sure_here : sure_on edges full l (drop i (way_at ways e n)) ≡ (eqb v l || (get_or full c false && sure_on edges full l (drop (i + 1) (way_at ways e n))))
      sure_here = rw (qv, qc, way_from fits i lt) refl

      pub sure_found : v ≡ l → sure_on edges full l (drop i (way_at ways e n)) ≡ true
      sure_found h = sure_here ∙ rw (eq-eqb v l h) refl

      module _ (other : v ≡ l → ⊥) where
        pub sure_lost : get_or full c false ≡ false → sure_on edges full l (drop i (way_at ways e n)) ≡ false
        sure_lost h = sure_here ∙ rw (ne_eqb v l other, h) refl

        pub sure_step : get_or full c false ≡ true → sure_on edges full l (drop i (way_at ways e n)) ≡ sure_on edges full l (drop (i + 1) (way_at ways e n))
        sure_step h = sure_here ∙ rw (ne_eqb v l other, h) refl
