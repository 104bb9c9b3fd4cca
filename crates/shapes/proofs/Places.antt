-- The places of the ways: what an entry's way reads there. Assumes nothing.
use Prim.Native.Nat.{ℕ, zero, suc, ◌+◌, ◌*◌, ◌≤◌, ◌<◌, pred}
use native.Mathlib.Omega.{arith}
use mathlib.Core.Path.{◌≡◌, refl, sym, ◌∙◌}
use mathlib.Core.List.{List, [], ◌∷◌}
use lib.ListN.{length, get_or, take, drop, length-take, length-drop}
use lib.Seq.{ext_get_or, get_or-take, get_or-drop}
use Rattle.paper.specs.Lists.{last_or}
use Rattle.shapes.specs.Ways.{way_places, way_at}

-- the last element stands at the last place
pub last_at : (l : List ℕ) → last_or 0 l ≡ get_or l (pred (length l)) 0
last_at [] = refl
last_at (x ∷ l) = go x l
  where
    go : (x : ℕ) (l : List ℕ) → last_or x l ≡ get_or (x ∷ l) (length l) 0
    go x [] = refl
    go x (y ∷ l) = go y l

-- a place of a part is a place of the whole
pub part_at : (n at : ℕ) (l : List ℕ) (k : ℕ) → k < n → get_or (take n (drop at l)) k 0 ≡ get_or l (at + k) 0
part_at n at l k lt = get_or-take n (drop at l) k 0 lt ∙ get_or-drop at l k 0

-- ---- one way
module _ (ws : List ℕ) (e l : ℕ) where
  pub way_place : (k : ℕ) → k < l → get_or (way_at ws e l) k 0 ≡ get_or ws (way_places * e + k) 0
  way_place = part_at l (way_places * e) ws

  module _ (fits : way_places * e + l ≤ length ws) where
    way_length : length (way_at ws e l) ≡ l
    way_length = omega (arith, length-take l (drop (way_places * e) ws), length-drop (way_places * e) ws)

    -- the way is the list that its places hold
    pub way_by : (v : List ℕ) → length v ≡ l → ((k : ℕ) → k < l → get_or ws (way_places * e + k) 0 ≡ get_or v k 0) → way_at ws e l ≡ v
    way_by v n at =
        ext_get_or 0 (way_at ws e l) v (way_length ∙ sym n)
        (λ k lt. let lk : k < l = omega (arith, way_length) in way_place k lk ∙ at k lk)

-- only entry 0 has no entry before it
pub later : (e l : ℕ) → (e ≡ 0 → l ≡ 1) → 1 < l → 1 ≤ e
later zero l first two = omega (arith, first refl)
later (suc e) l first two = omega arith
