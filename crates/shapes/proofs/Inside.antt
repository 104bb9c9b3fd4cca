-- The entries on the ways and paths of a shape. Assumes nothing.
use Prim.Native.Nat.{ℕ, zero, suc, ◌+◌, ◌<◌, pred}
use native.Mathlib.Omega.{arith}
use mathlib.Core.Path.{◌≡◌, refl, sym, ◌∙◌, ap}
use mathlib.Core.Logic.{⊎_elim}
use lib.ListN.{length, get_or, take, length-take}
use lib.Seq.{get_or-take}
use Rattle.paper.specs.Lists.{Has, last_or}
use Rattle.paper.specs.Closeness.{shared}
use Rattle.paper.specs.Shapes.{Shape, way, parent, path, side}
use Rattle.paper.proofs.Lists.{has_append, drop-has, has_get_d}
use Rattle.paper.proofs.Shapes.{Ways}
use Rattle.paper.proofs.Verdict.{last_way}
use Rattle.shapes.proofs.Places.{last_at}

module _ (s : Shape) (w : Ways s) (e : ℕ) (lt : e < length s.ways) where
  pub way_inside : (k : ℕ) → k < length (way s e) → get_or (way s e) k 0 < length s.ways
  way_inside k lk =
      let (g, lg, q) = w.cut e lt (k + 1) (omega arith) (omega arith) in
      let l : pred (length (way s g)) ≡ k = omega (arith, ap length q, length-take (k + 1) (way s e)) in
      let is : get_or (way s e) k 0 ≡ g =
      sym (get_or-take (k + 1) (way s e) k 0 (omega arith)) ∙ sym (ap (λ v. get_or v k 0) q) ∙ sym (ap (λ i. get_or (way s g) i 0) l) ∙ sym (last_at (way s g)) ∙ last_way s w g lg in
      omega (arith, is)

  has_inside : (c : ℕ) → Has c (way s e) → c < length s.ways
  has_inside c h = let (k, lk, q) = has_get_d 0 c (way s e) h in omega (arith, q, way_inside k lk)

  pub parent_inside : parent s e < length s.ways
  parent_inside = go (pred (length (way s e))) refl
    where
      go : (k : ℕ) → pred (length (way s e)) ≡ k → parent s e < length s.ways
      go zero q = let z : parent s e ≡ 0 = ap (λ k. last_or 0 (take k (way s e))) q in omega (arith, z)
      go (suc k) q =
          let (g, lg, c) = w.cut e lt (suc k) (omega arith) (omega arith) in
          let z : parent s e ≡ g = ap (λ k. last_or 0 (take k (way s e))) q ∙ sym (ap (last_or 0) c) ∙ last_way s w g lg in
          omega (arith, z)

pub path_inside : (s : Shape) → Ways s → (e f : ℕ) → e < length s.ways → f < length s.ways → (c : ℕ) → Has c (path s e f) → c < length s.ways
path_inside s w e f le lf c h =
    ⊎_elim (λ i. has_inside s w e le c (drop-has (shared (way s e) (way s f)) (way s e) c i))
    (λ i. has_inside s w f lf c (drop-has (shared (way s f) (way s e)) (way s f) c i)) (has_append c (side s e f) (side s f e) h)
