-- The entries of a prepared shape are the paper's, and so are the levels at which their types meet. Assumes nothing.
use Prim.Native.Nat.{ℕ, zero, suc, ◌<◌}
use native.Mathlib.Omega.{arith}
use mathlib.Core.Path.{◌≡◌, ◌∙◌, ap, ap₂}
use mathlib.Core.List.{List}
use lib.ListN.{length}
use Rattle.paper.specs.Format.{Format}
use Rattle.paper.specs.Tables.{rows}
use Rattle.paper.specs.Closeness.{Node, nodes, kinds_meet}
use Rattle.paper.specs.Shapes as Paper
use Rattle.paper.specs.Shapes.{kind, parent}
use Rattle.paper.specs.Verdict.{meeting, edge_level}
use Rattle.paper.proofs.Agree.{shared-length}
use Rattle.paper.proofs.Closeness.{kinds_meet-sym, kinds_meet_le}
use Rattle.closest.proofs.Levels.{level_most}
use Rattle.shapes.specs.Edges.{meeting_of}
use Rattle.shapes.specs.Shape.{type_of, parent_of, edge_of}
use Rattle.shapes.specs.Tests.{shape_in}
use Rattle.shapes.specs.Work.{Work, Ready}
use Rattle.shapes.specs.declared.shape.Shape.{Shape}

module _ {form : Format} {t sb : List ℕ} {w : Work} (r : Ready form t sb w) where
  abbrev ns : List Node
  ns = nodes (rows form t)

  -- the paper's shape
  abbrev p : Paper.Shape
  p = shape_in form t sb

  abbrev s : Shape
  s = w.shape

  pub entry_in : (e : ℕ) → e < w.shape.entries → e < length (shape_in form t sb).ways
  entry_in e lt = omega (arith, r.holds.counted)

  parent_in : (c : ℕ) → c < s.entries → parent_of s c < s.entries
  parent_in zero lt = omega (arith, r.shaped.sized.root)
  parent_in (suc c) lt = omega (arith, r.shaped.sized.under (suc c) (omega arith) lt)

  pub over-is : (c : ℕ) → c < w.shape.entries
      → type_of w.shape (parent_of w.shape c) ≡ kind (shape_in form t sb) (parent (shape_in form t sb) c)
  over-is c lt = r.holds.type_is (parent_of s c) (parent_in c lt) ∙ ap (kind p) (r.holds.parent_is c lt)

  pub meets_up : (c : ℕ) → c < w.shape.entries
      → edge_of w.shape c ≡ kinds_meet (nodes (rows form t)) (type_of w.shape c) (type_of w.shape (parent_of w.shape c))
  meets_up c lt = r.shaped.meets c lt ∙ kinds_meet-sym ns (type_of s (parent_of s c)) (type_of s c)

  pub edge_is : (c : ℕ) → c < w.shape.entries → edge_of w.shape c ≡ edge_level (nodes (rows form t)) (shape_in form t sb) c
  unfolding edge_level meeting
  edge_is c lt = r.shaped.meets c lt ∙ ap₂ (kinds_meet ns) (over-is c lt) (r.holds.type_is c lt)

  pub meeting_is : (e f : ℕ) → e < w.shape.entries → f < w.shape.entries
      → meeting_of w.meetings w.shape.types e f ≡ meeting (nodes (rows form t)) (shape_in form t sb) e f
  unfolding meeting
  meeting_is e f le lf = r.meets e f le lf ∙ ap₂ (kinds_meet ns) (r.holds.type_is e le) (r.holds.type_is f lf)

  -- types meet no deeper than the levels of the format
  pub meeting_small : (e f : ℕ) → meeting (nodes (rows form t)) (shape_in form t sb) e f < 255
  unfolding meeting
  meeting_small e f =
      omega (
        arith,
        kinds_meet_le ns (kind p e) (kind p f) form.levels (λ x y o q.
            omega (arith, shared-length x.dewey y.dewey, level_most form w.rows t w.types r.levelled.typed x o.0)),
        r.served.shallow,
      )
