-- What a table and a shape that pass tests 1 to 7 are. Assumes nothing.
use Prim.Native.Nat.{ℕ, ◌+◌, ◌≤◌, ◌<◌}
use native.Mathlib.Omega.{arith}
use mathlib.Core.Path.{◌≡◌, ap}
use mathlib.Core.List.{List}
use mathlib.Core.Option.{none}
use lib.ListN.{length, get_or}
use Rattle.paper.specs.Lists.{last_or, up}
use Rattle.paper.specs.Format.{Format}
use Rattle.paper.specs.Tables.{rows, types}
use Rattle.paper.specs.Closeness.{nodes}
use Rattle.paper.specs.Shapes.{Shape, entries, entry_kept, bad_entry, way, parent}
use Rattle.paper.specs.Calls.{given, tests1_7}
use Rattle.paper.proofs.Tables.{none-rules, Rules}
use Rattle.paper.proofs.Shapes.{Ways, level_of, shape-ways, way_level, size}
use Rattle.paper.proofs.Nearest.{parent_nearest}
use Rattle.paper.proofs.Verdict.{way_zero}
use Rattle.paper.proofs.Calls.{passed1_7, passed5_6}
use Rattle.shapes.specs.Tests.{shape_in}
use Rattle.shapes.proofs.Inside.{parent_inside}

module _ (f : Format) (t sb : List ℕ) (g : tests1_7 f t sb ≡ given (record { rows = rows f t; nodes = nodes (rows f t); shape = shape_in f t sb })) where
  abbrev sh : Shape
  sh = shape_in f t sb

  passed : (bad_entry f (entries f sb) ≡ none) × (0 < length (entries f sb))
  passed = let b = passed5_6 f sb (entries f sb) (passed1_7 f t sb _ g).1 in (b.1, b.2)

  pub rules : Rules (entry_kept f) level_of 0 (entries f sb)
  unfolding bad_entry
  rules = none-rules (entry_kept f) level_of 0 0 (entries f sb) passed.0

  pub ways_are : Ways (shape_in f t sb)
  ways_are = shape-ways f (types (rows f t)) (entries f sb) rules

  pub count-is : length (shape_in f t sb).ways ≡ length (entries f sb)
  count-is = size f (types (rows f t)) (entries f sb) rules

  pub some-entry : 1 ≤ length (shape_in f t sb).ways
  some-entry = omega (arith, count-is, passed.1)

  -- ---- levels and parents
  pub way_deep : (e : ℕ) → e < length (shape_in f t sb).ways
      → (length (way (shape_in f t sb) e) ≡ get_or (shape_in f t sb).levels e 0) × (length (way (shape_in f t sb) e) ≤ f.levels)
  way_deep e lt = way_level f (types (rows f t)) (entries f sb) rules e (omega (arith, count-is))

  pub top : get_or (shape_in f t sb).levels 0 0 ≡ 1
  top = omega (arith, (way_deep 0 some-entry).0, ap length (way_zero sh ways_are some-entry))

  pub root : parent (shape_in f t sb) 0 ≡ 0
  root = ap (λ w. last_or 0 (up w)) (way_zero sh ways_are some-entry)

  pub parent_in : (c : ℕ) → c < length (shape_in f t sb).ways → parent (shape_in f t sb) c < length (shape_in f t sb).ways
  parent_in c lt = parent_inside sh ways_are c lt

  -- the parent of a later entry stands before it, one level up
  pub over : (c : ℕ) → 0 < c → c < length (shape_in f t sb).ways → let p = parent (shape_in f t sb) c in
      (p < c) × (get_or (shape_in f t sb).levels p 0 + 1 ≡ get_or (shape_in f t sb).levels c 0)
  over c pos lt = let n = parent_nearest f (types (rows f t)) (entries f sb) rules c pos (omega (arith, count-is)) in (n.0, n.1)
