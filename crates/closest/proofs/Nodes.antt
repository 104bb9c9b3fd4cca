-- The nodes of a table one by one. Assumes nothing.
use Prim.Native.Nat.{ℕ, zero, suc, ◌+◌, ◌≤◌, ◌<◌}
use native.Mathlib.Nat.{not-suc-le-zero, le_of_suc-le-suc, zero-add}
use native.Mathlib.Omega.{arith}
use mathlib.Core.Path.{◌≡◌, refl, ◌∙◌, ap, ap₂}
use mathlib.Core.List.{List, [], ◌∷◌, map}
use mathlib.Core.Option.{none}
use lib.ListN.{length, get_or, drop, length-map}
use Rattle.paper.specs.Lists.{Has}
use Rattle.paper.specs.Format.{Format, row_bytes, byte, word, whole}
use Rattle.paper.specs.Tables.{row_of, rows, dewey, bad_row, row_types, types, type_number}
use Rattle.paper.specs.Closeness.{Node, nodes_from, nodes}
use Rattle.paper.proofs.Forest.{Numbered, one_place}
use Rattle.paper.proofs.Tables.{step, length-ways}
use Rattle.paper.proofs.Calls.{count-rows}
use Rattle.paper.proofs.Index as Index
use Rattle.tables.proofs.Rows.{rec, rows_from_lem}
use Rattle.types.specs.Types.{kinds}
use Rattle.types.proofs.Listed.{at_drop, drop-has, l_fits, l_pos}
use Rattle.closest.specs.Node.{node}

nodes_from-drop : (i : ℕ) (ks : List ℕ) (ds : List (List ℕ)) (j : ℕ) → j < length ks → j < length ds
    → drop j (nodes_from i ks ds) ≡ record { place = i + j; kind = get_or ks j 0; dewey = get_or ds j [] } ∷ drop (suc j) (nodes_from i ks ds)
nodes_from-drop i [] ds j lk ld = absurd (not-suc-le-zero lk)
nodes_from-drop i (k ∷ ks) [] j lk ld = absurd (not-suc-le-zero ld)
nodes_from-drop i (k ∷ ks) (d ∷ ds) zero lk ld =
    ap {B = List Node} (λ n. record { place = n; kind = k; dewey = d } ∷ nodes_from (suc i) ks ds) (omega arith)
nodes_from-drop i (k ∷ ks) (d ∷ ds) (suc j) lk ld =
    nodes_from-drop (suc i) ks ds j (le_of_suc-le-suc lk) (le_of_suc-le-suc ld)
    ∙ ap {B = List Node} (λ n. record { place = n; kind = get_or ks j 0; dewey = get_or ds j [] } ∷ drop (suc j) (nodes_from (suc i) ks ds)) (omega arith)

module _ (f : Format) (t : List ℕ) where
  pub length-kinds : length (kinds (rows f t)) ≡ length (rows f t)
  unfolding kinds row_types
  length-kinds = length-map (row_types (rows f t)) (type_number (types (rows f t))) ∙ length-ways [] (map step (rows f t)) ∙ length-map (rows f t) step

  pub length-nodes : length (nodes (rows f t)) ≤ length (rows f t)
  length-nodes = omega (arith, Index.length-nodes (rows f t))

  -- the nodes from row i on
  pub nodes_from_lem : (i : ℕ) → i < length (rows f t) → drop i (nodes (rows f t)) ≡ node f t i ∷ drop (suc i) (nodes (rows f t))
  unfolding nodes kinds
  nodes_from_lem i lt =
      let rest = drop (suc i) (nodes_from 0 (kinds (rows f t)) (map dewey (rows f t))) in
      let d : get_or (map dewey (rows f t)) i [] ≡ dewey (row_of f (rec (row_bytes f) i t)) =
      at_drop dewey [] (rows f t) i (row_of f (rec (row_bytes f) i t)) (drop (suc i) (rows f t)) (rows_from_lem f t i (omega (arith, count-rows f t))) in
      nodes_from-drop 0 (kinds (rows f t)) (map dewey (rows f t)) i (omega (arith, length-kinds)) (omega (arith, length-map (rows f t) dewey))
      ∙ ap₂ {C = List Node} (λ n z. record { place = n; kind = get_or (kinds (rows f t)) i 0; dewey = z } ∷ rest) (zero-add i) d

  pub node_in : (i : ℕ) → i < length (rows f t) → Has (node f t i) (nodes (rows f t))
  node_in i lt = drop-has (nodes (rows f t)) i (node f t i) (drop (suc i) (nodes (rows f t))) (nodes_from_lem i lt)

  -- every node is a row's
  pub in_node : Numbered 0 (nodes (rows f t)) → (x : Node) → Has x (nodes (rows f t)) → (x.place < length (rows f t)) → x ≡ node f t x.place
  in_node num x h lt = one_place 0 (nodes (rows f t)) num x (node f t x.place) h (node_in x.place lt) refl

-- a row of a sound table has a level that the format has
pub row-level : (f : Format) (t : List ℕ) → bad_row f (rows f t) ≡ none → (i : ℕ) → i < whole (row_bytes f) t
    → (1 ≤ byte (rec (row_bytes f) i t) 0) × (byte (rec (row_bytes f) i t) 0 ≤ f.levels)
row-level f t sound i lt = (
  l_pos f t sound i lt (byte (rec (row_bytes f) i t) 0) (word (rec (row_bytes f) i t) 2) refl refl,
  l_fits f t sound i lt (byte (rec (row_bytes f) i t) 0) (word (rec (row_bytes f) i t) 2) refl refl,
)
