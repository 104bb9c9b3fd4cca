-- The lines that are read off the arrays are the paper's. Assumes nothing.
use Prim.Native.Nat.{ℕ, zero, suc, ◌+◌, ◌*◌, ◌-◌, ◌≤◌, ◌<◌, pred}
use native.Mathlib.Nat.{not-suc-le-zero, le_of_suc-le-suc}
use native.Mathlib.Omega.{arith}
use mathlib.Core.Path.{◌≡◌, refl, sym, ◌∙◌, ap, ap₂, subst}
use mathlib.Core.List.{List, [], ◌∷◌, ◌++◌, map, map-map}
use lib.Dec.{eqb}
use lib.ListN.{length, get_or, take, replicate, length-map}
use lib.Seq.{take-take}
use Rattle.paper.specs.Lists.{Has, joined, count, padded}
use Rattle.paper.specs.Format.{Format}
use Rattle.paper.specs.Tables.{Row, rows, row_back}
use Rattle.paper.specs.Closeness.{Node, nodes, of_kind, closest_of}
use Rattle.paper.specs.Shapes.{Shape, children}
use Rattle.paper.specs.NewTable.{Line, forest, tree, beneath, tops, lines, line_row, new_table, source_list, entry_unit}
use Rattle.paper.proofs.Lists.{join-has, join-same, join_map_lem, map-has, map_same, keep-has, count-has, joined_map}
use Rattle.paper.proofs.Verdict.{listed_child}
use Rattle.octets.specs.Served.{most_levels}
use Rattle.shapes.specs.Tests.{shape_in}
use Rattle.shapes.specs.Shape.{level_of, label_of, type_of, parent_of}
use Rattle.shapes.specs.Work.{Work, Ready}
use Rattle.shapes.proofs.Given.{ways_are}
use Rattle.lines.specs.Put.{line_of, line_bytes}
use Rattle.lines.specs.Lines.{Numbered, children_of, under, roots, bytes_of, sources_of}
use Rattle.lines.specs.Write.{all_lines}
use Rattle.lines.proofs.Trees.{forest_good, all_good}
use Rattle.reshaping.proofs.Children.{children_are}

-- ---- lists
-- a list with zeros behind it, cut sooner
zeros_cut : (m n k : ℕ) (d : List ℕ) → m ≤ n → m ≤ k → take m (d ++ replicate n 0) ≡ take m (d ++ replicate k 0)
zeros_cut zero n k d a b = refl
zeros_cut (suc m) zero k [] a b = absurd (not-suc-le-zero a)
zeros_cut (suc m) (suc n) zero [] a b = absurd (not-suc-le-zero b)
zeros_cut (suc m) (suc n) (suc k) [] a b = ap {B = List ℕ} (λ l. 0 ∷ l) (zeros_cut m n k [] (le_of_suc-le-suc a) (le_of_suc-le-suc b))
zeros_cut (suc m) n k (x ∷ d) a b = ap {B = List ℕ} (λ l. x ∷ l) (zeros_cut m n k d (omega arith) (omega arith))

padded_cut : (m n : ℕ) (d : List ℕ) → m ≤ n → take m (padded n d) ≡ padded m d
padded_cut m n d le = take-take m n (d ++ replicate n 0) le ∙ zeros_cut m n m d le (omega arith)

one_less : (n : ℕ) → n - 1 ≡ pred n
one_less zero = refl
one_less (suc n) = let e : suc n - 1 ≡ n = omega arith in e

module _ {f : Format} {t sb : List ℕ} {w : Work} (y : Ready f t sb w) where
  abbrev ns : List Node
  ns = nodes (rows f t)

  abbrev sh : Shape
  sh = shape_in f t sb

  abbrev Good : ℕ × Node → Type 0
  Good x = x.0 < w.shape.entries

  under-is : (x : ℕ × Node) → Good x → under ns w.shape x ≡ beneath ns sh x
  unfolding beneath
  under-is x lt =
      ap (map (λ c. map (λ (r : Node). (c, r)) (closest_of ns x.1 (type_of w.shape c)))) (children_are y x.0 lt)
      ∙ map_same _ _ (children sh x.0) (λ c h.
      let lc = (listed_child sh (ways_are f t sb y.given_is) x.0 c h).0 in
      ap (λ k. map {B = ℕ × Node} (λ (r : Node). (c, r)) (closest_of ns x.1 k)) (y.holds.type_is c (omega (arith, lc, y.holds.counted))))

  stay : (x : ℕ × Node) → Good x → (v : ℕ × Node) → Has v (joined (under ns w.shape x)) → Good v
  stay x lt v h =
      let cs = children_of ns w.shape x.0 in
      let g : ℕ → List (ℕ × Node) = λ c. map (λ (r : Node). (c, r)) (closest_of ns x.1 (type_of w.shape c)) in
      let (c, hc, hv) = join-has g v cs (subst (λ l. Has v l) (joined_map g cs) h) in
      let (r, hr, e) = map-has {B = ℕ × Node} (λ (r : Node). (c, r)) v (closest_of ns x.1 (type_of w.shape c)) hv in
      let left = w.shape.entries - (x.0 + 1) in
      let kept = keep-has (λ c. eqb (parent_of w.shape c) x.0) c (count (x.0 + 1) left) hc in
      let b = count-has (x.0 + 1) left c kept.0 in
      omega (arith, ap (λ (q : ℕ × Node). q.0) e, b.1)

  good_roots : (x : ℕ × Node) → Has x (roots ns w.shape) → Good x
  good_roots x h =
      let (r, hr, e) = map-has {B = ℕ × Node} (λ (r : Node). (0, r)) x (of_kind ns (type_of w.shape 0)) h in
      omega (arith, ap (λ (q : ℕ × Node). q.0) e, y.shaped.sized.some)

  abbrev found : List (Numbered)
  found = all_lines f t w.shape

  abbrev to_line : Numbered → Line
  to_line x = record { entry = x.0.0; source = x.0.1; dewey = x.1 }

  pub lines_are : map (λ (x : Numbered). record { entry = x.0.0; source = x.0.1; dewey = x.1 }) (all_lines f t w.shape)
      ≡ lines (nodes (rows f t)) (shape_in f t sb) f.levels
  unfolding lines tops
  lines_are =
      ap (map to_line) (forest_good Good (under ns w.shape) (beneath ns sh) under-is stay (f.levels - 1) [] 1 (roots ns w.shape) good_roots
      ∙ ap (λ k. forest (tree (beneath ns sh) (f.levels - 1)) [] 1 (map {B = ℕ × Node} (λ (r : Node). (0, r)) (of_kind ns k))) (y.holds.type_is 0 y.shaped.sized.some)
      ∙ ap (λ n. forest (tree (beneath ns sh) n) [] 1 (tops ns sh)) (one_less f.levels))

  pub sources_are : sources_of (all_lines f t w.shape) ≡ source_list (lines (nodes (rows f t)) (shape_in f t sb) f.levels)
  unfolding source_list
  sources_are = sym (map-map (λ (l : Line). l.entry * entry_unit + l.source.place) to_line found) ∙ ap source_list lines_are

  -- each line is of an entry of the shape
  entry-small : (x : Numbered) → Has x (all_lines f t w.shape) → x.0.0 < w.shape.entries
  entry-small = all_good Good (under ns w.shape) (beneath ns sh) under-is stay (f.levels - 1) [] 1 (roots ns w.shape) good_roots

  -- the record of a line
  record_is : (x : Numbered) → Has x found
      → line_bytes f t (level_of w.shape x.0.0) (label_of w.shape x.0.0) (padded most_levels x.1) x.0.1.place
      ≡ row_back (line_row f sh (rows f t) (to_line x))
  unfolding line_of line_row
  record_is x h =
      let lt = entry-small x h in
      let v = get_or (map (λ (x : Row). x.value) (rows f t)) x.0.1.place [] in
      let level = get_or sh.levels x.0.0 0 in
      let label = label_of w.shape x.0.0 in
      let list = take f.levels (padded most_levels x.1) in
      ap (λ l. row_back (record { level = l; spare = 0; label = label; components = list; value = v })) (y.holds.level-is x.0.0 lt)
      ∙ ap₂ (λ l c. row_back (record { level = level; spare = 0; label = l; components = c; value = v }))
      (y.holds.label_is x.0.0 lt)
      (padded_cut f.levels most_levels x.1 y.served.shallow)

  pub bytes_are : bytes_of f t w.shape (all_lines f t w.shape)
      ≡ new_table f (shape_in f t sb) (rows f t) (lines (nodes (rows f t)) (shape_in f t sb) f.levels)
  unfolding new_table
  bytes_are =
      join-same _ _ found record_is ∙ sym (join_map_lem (λ l. row_back (line_row f sh (rows f t) l)) to_line found) ∙ ap (new_table f sh (rows f t)) lines_are

  pub length-is : length (all_lines f t w.shape) ≡ length (lines (nodes (rows f t)) (shape_in f t sb) f.levels)
  length-is = sym (length-map found to_line) ∙ ap length lines_are
