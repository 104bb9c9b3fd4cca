-- Demand 3, over bytes: the links between records are kept. Assumes nothing.
use Rattle.std.specs.Prelude.{ℕ, ◌/◌, ◌%◌, ◌<◌, ◌↔◌, List, map, length, get_or}
use Rattle.paper.specs.Lists.{Has}
use Rattle.paper.specs.Format.{Format}
use Rattle.paper.specs.Tables.{rows, dewey, types, type_number}
use Rattle.paper.specs.Closeness.{Node, nodes_from, nodes, closest_pairs}
use Rattle.paper.specs.Shapes.{named, entries}
use Rattle.paper.specs.NewTable.{entry_unit}

-- The lines of a new table, read off its bytes and its source list: the kind of a line is its entry.
unfoldable pub new_nodes : Format → List ℕ → List ℕ → List Node
new_nodes f new sources = nodes_from 0 (map (λ x. x / entry_unit) sources) (map dewey (rows f new))

-- the source row of a line
unfoldable pub source_row : List ℕ → Node → ℕ
source_row sources l = get_or sources l.place 0 % entry_unit

-- the pairs of source rows read off the closest pairs of new lines of two entries
unfoldable pub shown_pairs : Format → List ℕ → List ℕ → ℕ → ℕ → List (ℕ × ℕ)
shown_pairs f new sources e g =
    map (λ (p : Node × Node). (source_row sources p.0, source_row sources p.1)) (closest_pairs (new_nodes f new sources) e g)

-- the closest pairs of source rows of the types of two entries
unfoldable pub source_pairs : Format → List ℕ → List ℕ → ℕ → ℕ → List (ℕ × ℕ)
source_pairs f table shape e g =
    let rs = rows f table in
    let kinds = map (λ x. type_number (types rs) (named x)) (entries f shape) in
    map (λ (p : Node × Node). (p.0.place, p.1.place)) (closest_pairs (nodes rs) (get_or kinds e 0) (get_or kinds g 0))

-- For any two entries of the shape, the pairs of source rows read off the closest pairs of new lines are exactly the closest
-- pairs of source rows of those two types.
unfoldable pub LinksKept : Format → List ℕ → List ℕ → List ℕ → List ℕ → Type 0
LinksKept f table shape new sources =
    (e g : ℕ) → e < length (entries f shape) → g < length (entries f shape) → (r s : ℕ)
    → Has (r, s) (shown_pairs f new sources e g) ↔ Has (r, s) (source_pairs f table shape e g)
