-- The rows of a typed table, as nodes. Assumes nothing.
use Prim.Native.Nat.{ℕ, zero, suc, ◌+◌, ◌≤◌, ◌<◌}
use native.Mathlib.Omega.{arith}
use mathlib.Core.Path.{◌≡◌, sym, ◌∙◌, ap}
use mathlib.Core.List.{List, ◌∷◌, map}
use lib.ListN.{length, get_or, drop, length-take, drop_of_length-le}
use lib.Seq.{get_or-take}
use Rattle.paper.specs.Lists.{Has, count}
use Rattle.paper.specs.Format.{Format}
use Rattle.paper.specs.Tables.{rows, types}
use Rattle.paper.specs.Closeness.{Node, nodes, meet}
use Rattle.paper.proofs.Agree.{agree→shared, shared_agree}
use Rattle.paper.proofs.Forest.{Forest, Numbered, place_bounds, run}
use Rattle.paper.proofs.Tables.{type_of_lem, type_listed, number_at, rows_laid, nodes_numbered, sound_forest}
use Rattle.closest.specs.Node.{node, Typed}
use Rattle.closest.proofs.Nodes.{nodes_from_lem, node_in, in_node, length-nodes, length-kinds}

-- what stands between two nodes is at least as close to either
module _ (t : List Node) (num : Numbered 0 t) (forest : Forest t) (x y z : Node) (hx : Has x t) (hy : Has y t) (hz : Has z t)
    (a : x.place < y.place) (b : y.place < z.place) where
  pub closer_left : meet x z ≤ meet x y
  closer_left = agree→shared (meet x z) x.dewey y.dewey (run t num forest (meet x z) x y z hx hy hz a b (shared_agree x.dewey z.dewey)).0

  pub closer_right : meet x z ≤ meet y z
  closer_right = agree→shared (meet x z) y.dewey z.dewey (run t num forest (meet x z) x y z hx hy hz a b (shared_agree x.dewey z.dewey)).1

module _ (f : Format) (n : ℕ) (t ks : List ℕ) (ty : Typed f n t ks) where
  abbrev ns : List Node
  ns = nodes (rows f t)

  pub numbered : Numbered 0 (nodes (rows f t))
  numbered = nodes_numbered (rows f t)

  pub forest : Forest (nodes (rows f t))
  forest = sound_forest f (rows f t) (rows_laid f t) ty.sound.kept

  pub here : (i : ℕ) → i < n → Has (node f t i) (nodes (rows f t))
  here i lt = node_in f t i (omega (arith, ty.rows_n))

  pub ks_long : n ≤ length ks
  ks_long = omega (arith, ap length ty.listed, length-take n ks, length-kinds f t, ty.rows_n)

  -- the array holds the rows' type numbers
  pub kind_at : (i : ℕ) → i < n → get_or ks i 0 ≡ (node f t i).kind
  kind_at i lt = sym (get_or-take n ks i 0 lt) ∙ ap (λ l. get_or l i 0) ty.listed

  pub place_in : (x : Node) → Has x (nodes (rows f t)) → x.place < n
  place_in x h = omega (arith, (place_bounds 0 ns numbered x h).1, length-nodes f t, ty.rows_n)

  -- every node is some row's
  pub is-node : (x : Node) → Has x (nodes (rows f t)) → x ≡ node f t x.place
  is-node x h = in_node f t numbered x h (omega (arith, place_in x h, ty.rows_n))

  -- the nodes are those of the rows, in order
  nodes_on : (m i : ℕ) → i + m ≡ n → drop i (nodes (rows f t)) ≡ map (node f t) (count i m)
  nodes_on zero i e = drop_of_length-le (nodes (rows f t)) {i = i} (omega (arith, length-nodes f t, ty.rows_n))
  nodes_on (suc m) i e =
      nodes_from_lem f t i (omega (arith, ty.rows_n)) ∙ ap {B = List Node} (λ l. node f t i ∷ l) (nodes_on m (suc i) (omega arith))

  pub nodes_are : nodes (rows f t) ≡ map (node f t) (count 0 n)
  nodes_are = nodes_on n 0 (omega arith)

  -- a row's type number is that of a type
  pub kind_few : (i : ℕ) → i < n → get_or ks i 0 < length (types (rows f t))
  kind_few i lt =
      let (v, h, e) = type_of_lem f (rows f t) (rows_laid f t) ty.sound.kept (node f t i) (here i lt) in
      omega (arith, kind_at i lt, e, (number_at v (types (rows f t)) (type_listed f (rows f t) (rows_laid f t) ty.sound.kept ((node f t i).dewey, v) h)).0)
