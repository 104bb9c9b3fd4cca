-- Meeting at a level, and how deep a row is that meets another. Assumes nothing.
use Prim.Native.Nat.{ℕ, ◌≤◌, ◌<◌}
use native.Mathlib.Omega.{arith}
use mathlib.Core.Path.{◌≡◌, refl, sym, ◌∙◌}
use mathlib.Core.Bool.{true}
use mathlib.Core.List.{List}
use lib.Dec.{eqb, ltb}
use lib.ListN.{get_or}
use borrow.Author.Tests.{lt-ltb, ltb-true, eqb-true, eq-eqb}
use Rattle.paper.specs.Format.{Format}
use Rattle.paper.specs.Tables.{rows}
use Rattle.paper.specs.Closeness.{Node, nodes, level, meet, meet_at, kinds_meet}
use Rattle.paper.proofs.Lists.{both, and}
use Rattle.paper.proofs.Agree.{shared-length}
use Rattle.paper.proofs.Closeness.{Of, kinds_meet-from}
use Rattle.paper.proofs.Tables.{rows_laid, one-level}
use Rattle.closest.specs.Node.{node, Typed}
use Rattle.closest.proofs.Meets.{here, kind_at}

-- ---- meeting at a level
pub at-zero-none : (l : ℕ) (x y : Node) → l ≡ 0 → meet_at l x y ≡ true → ⊥
unfolding meet_at
at-zero-none l x y z e = omega (arith, ltb-true 0 l (both (ltb 0 l) (eqb (meet x y) l) e).0)

pub at_meets : (l : ℕ) (x y : Node) → meet_at l x y ≡ true → meet x y ≡ l
unfolding meet_at
at_meets l x y e = eqb-true (meet x y) l (both (ltb 0 l) (eqb (meet x y) l) e).1

pub meets_at : (l : ℕ) (x y : Node) → 0 < l → meet x y ≡ l → meet_at l x y ≡ true
unfolding meet_at
meets_at l x y pos e = and (lt-ltb 0 l pos) (eq-eqb (meet x y) l e)

module _ (f : Format) (n : ℕ) (t ks : List ℕ) (ty : Typed f n t ks) (r : ℕ) (lr : r < n) where
  abbrev at : ℕ → Node
  at j = node f t j

  abbrev ns : List Node
  ns = nodes (rows f t)

  module _ (k l : ℕ) (el : l ≡ kinds_meet (nodes (rows f t)) (get_or ks r 0) k) where
    of : (i k : ℕ) → i < n → get_or ks i 0 ≡ k → Of ns k (at i)
    of i k lt e = (here f n t ks ty i lt, sym (kind_at f n t ks ty i lt) ∙ e)

    -- row r is at least as deep as its type meets the other
    pub deep : 0 < l → l ≤ level (node f t r)
    deep pos =
        let (x, y, ox, oy, e) = kinds_meet-from ns (get_or ks r 0) k (omega arith) in
        let own = of r (get_or ks r 0) lr refl in
        omega (
          arith,
          e,
          shared-length x.dewey y.dewey,
          one-level f (rows f t) (rows_laid f t) ty.sound.kept x (at r) ox.0 own.0 (ox.1 ∙ sym own.1),
        )
