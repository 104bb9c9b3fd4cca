-- When nothing is made up, and the row that verdict 1 names, over bytes. Assumes nothing.
use Rattle.std.specs.Prelude.{ℕ, ◌+◌, ◌*◌, ◌≡◌, Bool, not, List, eqb, length, take}
use Rattle.paper.specs.Lists.{Has, any}
use Rattle.paper.specs.Format.{Format}
use Rattle.paper.specs.Tables.{rows, types}
use Rattle.paper.specs.Closeness.{Node}
use Rattle.paper.specs.Shapes.{entries, shape_over, fork}
use Rattle.paper.specs.NewTable.{entry_unit}
use Rattle.paper.specs.Links.{new_nodes, source_row, source_pairs}

-- line x hangs under line z, or is z: its number begins with z's
abbrev pub Under : Node → Node → Type 0
Under z x = take (length z.dewey) x.dewey ≡ z.dewey

-- the fork entry of two entries of the shape
unfoldable pub fork_entry : Format → List ℕ → List ℕ → ℕ → ℕ → ℕ
fork_entry f table shape e g = fork (shape_over (types (rows f table)) (entries f shape)) e g

-- Any two lines of different entries that hang under, or are, one line of their fork entry have closest source rows.
unfoldable pub NothingMadeUp : Format → List ℕ → List ℕ → List ℕ → List ℕ → Type 0
NothingMadeUp f table shape new sources =
    let lines = new_nodes f new sources in
    (x y z : Node) → Has x lines → Has y lines → Has z lines → (x.kind ≡ y.kind → ⊥)
    → z.kind ≡ fork_entry f table shape x.kind y.kind → Under z x → Under z y
    → Has (source_row sources x, source_row sources y) (source_pairs f table shape x.kind y.kind)

-- The row stands in no line of the entry: no place of the source list is entry × 65,536 + row.
unfoldable pub unshown : ℕ → ℕ → List ℕ → Bool
unshown e r sources = not (any (eqb (e * entry_unit + r)) sources)
