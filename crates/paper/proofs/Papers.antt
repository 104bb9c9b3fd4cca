-- On a sound table, document 01's closest is document 000's: joined, at the least distance of the two types. Assumes nothing.
use Prim.Native.Nat.{ℕ, ◌≤◌, ◌<◌}
use native.Mathlib.Nat.{le_antisymm}
use native.Mathlib.Omega.{arith}
use mathlib.Core.Path.{◌≡◌, refl, sym}
use mathlib.Core.Bool.{Bool, true, false}
use mathlib.Core.List.{List, [], ◌∷◌, map}
use mathlib.Core.Option.{none}
use lib.Dec.{eqb, ltb}
use lib.ListN.{length}
use borrow.Author.Tests.{eqb-true, eq-eqb, ltb-true, lt-ltb}
use Rattle.paper.specs.Lists.{Has, keep, least, join_map}
use Rattle.paper.specs.Format.{Format}
use Rattle.paper.specs.Tables.{Row, bad_row}
use Rattle.paper.specs.Closeness.{Node, nodes, meet, distance, of_kind, kinds_meet, closest, kinds_distance, least_distance}
use Rattle.paper.proofs.Lists.{both, and, keep-has, has-keep, has-map, map-has, has_join, join-has, least_le, least_reached}
use Rattle.paper.proofs.Agree.{agree→shared, shared→agree, shared-length}
use Rattle.paper.proofs.Closeness.{Of, kind_of, of_kind_lem, meet_le, meet-sym, kinds_meet_le, closest_near, near_closest}
use Rattle.paper.proofs.Tables.{Laid, one-level}

pub same_test : (a b : Bool) → (a ≡ true → b ≡ true) → (b ≡ true → a ≡ true) → a ≡ b
same_test true b to from = sym (to refl)
same_test false true to from = from refl
same_test false false to from = refl

least_in_lem : (x : ℕ) (xs : List ℕ) → Has x xs → Has (least xs) xs
least_in_lem x [] h = absurd h
least_in_lem x (z ∷ zs) h = least_reached z zs

module _ (t : List Node) (one-level : (x y : Node) → Has x t → Has y t → x.kind ≡ y.kind → length x.dewey ≡ length y.dewey) where
  -- the distances of the pairs of two kinds that meet
  abbrev joined_at : ℕ → Node → List ℕ
  joined_at k r = map (distance r) (keep (λ s. ltb 0 (meet r s)) (of_kind t k))

  distances_has : (j k n : ℕ) → Has n (join_map (joined_at k) (of_kind t j))
      → (x y : Node) × Of t j x × Of t k y × (0 < meet x y) × (n ≡ distance x y)
  distances_has j k n h =
      let (x, hx, h₁) = join-has (joined_at k) n (of_kind t j) h in
      let (y, hy, e) = map-has (distance x) n (keep (λ s. ltb 0 (meet x s)) (of_kind t k)) h₁ in
      let (hk, m) = keep-has (λ s. ltb 0 (meet x s)) y (of_kind t k) hy in
      (x, y, kind_of t j x hx, kind_of t k y hk, ltb-true 0 (meet x y) m, e)

  has_distances : (j k : ℕ) (x y : Node) → Of t j x → Of t k y → 0 < meet x y → Has (distance x y) (join_map (joined_at k) (of_kind t j))
  has_distances j k x y ox oy m =
      has_join (joined_at k) x (distance x y) (of_kind t j) (of_kind_lem t j x ox)
      (has-map (distance x) y (keep (λ s. ltb 0 (meet x s)) (of_kind t k)) (has-keep (λ s. ltb 0 (meet x s)) y (of_kind t k) (of_kind_lem t k y oy) (lt-ltb 0 (meet x y) m)))

  -- the meeting level lies within both levels
  within : (x y : Node) → (meet x y ≤ length x.dewey) × (meet x y ≤ length y.dewey)
  within x y = (shared-length x.dewey y.dewey, (omega (arith, meet-sym t x y, shared-length y.dewey x.dewey)))

  module _ (r s : Node) (hr : Has r t) (hs : Has s t) where
    level_r : (x : Node) → Of t r.kind x → length x.dewey ≡ length r.dewey
    level_r x o = one-level x r o.0 hr o.1

    level_s : (y : Node) → Of t s.kind y → length y.dewey ≡ length s.dewey
    level_s y o = one-level y s o.0 hs o.1

    to : closest t r s ≡ true → least_distance t r s ≡ true
    unfolding least_distance kinds_distance
    to c =
        let (pos, a) = closest_near t r.kind s.kind r s refl refl c in
        let m : kinds_meet t r.kind s.kind ≤ meet r s = agree→shared (kinds_meet t r.kind s.kind) r.dewey s.dewey a in
        let ds = join_map (joined_at s.kind) (of_kind t r.kind) in
        let here : Has (distance r s) ds = has_distances r.kind s.kind r s (hr, refl) (hs, refl) (omega arith) in
        let (x, y, ox, oy, mp, e) = distances_has r.kind s.kind (least ds) (least_in_lem (distance r s) ds here) in
        let le = meet_le t r.kind s.kind x y ox oy in
        and (lt-ltb 0 (meet r s) (omega arith))
        (eq-eqb (distance r s) (least ds) (le_antisymm
        (omega (arith, e, le, m, level_r x ox, level_s y oy, (within x y).0, (within x y).1, (within r s).0, (within r s).1)) (least_le (distance r s) ds here)))

    from : least_distance t r s ≡ true → closest t r s ≡ true
    unfolding least_distance kinds_distance
    from c =
        let ds = join_map (joined_at s.kind) (of_kind t r.kind) in
        let h = both (ltb 0 (meet r s)) (eqb (distance r s) (least ds)) c in
        let pos : 0 < meet r s = ltb-true 0 (meet r s) h.0 in
        let e : distance r s ≡ least ds = eqb-true (distance r s) (least ds) h.1 in
        let top : kinds_meet t r.kind s.kind ≤ meet r s =
        kinds_meet_le t r.kind s.kind (meet r s) (λ x y ox oy. up x y ox oy (ltb 0 (meet x y)) refl e) in
        let low = meet_le t r.kind s.kind r s (hr, refl) (hs, refl) in
        near_closest t r.kind s.kind r s (hr, refl) (hs, refl)
        (omega arith, shared→agree (kinds_meet t r.kind s.kind) r.dewey s.dewey top)
      where
        up : (x y : Node) → Of t r.kind x → Of t s.kind y → (b : Bool) → ltb 0 (meet x y) ≡ b
            → distance r s ≡ least (join_map (joined_at s.kind) (of_kind t r.kind)) → meet x y ≤ meet r s
        up x y ox oy true q e =
            let ds = join_map (joined_at s.kind) (of_kind t r.kind) in
            let le = least_le (distance x y) ds (has_distances r.kind s.kind x y ox oy (ltb-true 0 (meet x y) q)) in
            omega (arith, le, e, level_r x ox, level_s y oy, (within x y).0, (within x y).1, (within r s).0, (within r s).1)
        up x y ox oy false q e = omega (arith, borrow.Author.Tests.ltb-false 0 (meet x y) q)

    -- Two nodes whose kinds each have one level are closest exactly if they are joined at the least distance of their kinds.
    pub closest-distance : closest t r s ≡ least_distance t r s
    closest-distance = same_test (closest t r s) (least_distance t r s) to from

-- On a sound table, closest equals document 000's least-distance rule.
pub closest-least-distance : (f : Format) (rs : List Row) → Laid f rs → bad_row f rs ≡ none → (r s : Node) → Has r (nodes rs) → Has s (nodes rs)
    → closest (nodes rs) r s ≡ least_distance (nodes rs) r s
closest-least-distance f rs laid sound = closest-distance (nodes rs) (one-level f rs laid sound)
