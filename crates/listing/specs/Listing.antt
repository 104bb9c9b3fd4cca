-- What the program prints. Assumes nothing.
use Rattle.std.specs.Prelude.{ℕ, ◌/◌, ◌%◌, true, false, List, [], ◌∷◌, ◌++◌, map, eqb, get_or, take, drop}
use Rattle.paper.specs.Lists.{join_map, count}
use Rattle.paper.specs.Format.{Format, row_bytes, signed}
use Rattle.paper.specs.Tables.{row_of, dewey}
use Rattle.paper.specs.NewTable.{entry_unit}
use Rattle.paper.specs.Partners.{EdgeNumbers}
use Rattle.paper.specs.Verdict.{Judgement, verdict_numbers}
use Rattle.paper.specs.Calls.{Reply, Reshaping}
use Rattle.grammar.specs.Text.{ascii, newline, space, dot, decimal, signed_text, parted}
use Rattle.grammar.specs.Names.{name_text}

-- a text and the end of its line
abbrev pub lined : List ℕ → List ℕ
lined text = text ++ (newline ∷ [])

-- `refused N P`
unfoldable pub refused_text : ℕ → ℕ → List ℕ
refused_text number place = lined (parted space (ascii "refused" ∷ decimal number ∷ decimal place ∷ []))

-- `verdict` with its numbers
unfoldable pub verdict_text : List ℕ → List ℕ
verdict_text numbers = lined (parted space (ascii "verdict" ∷ map decimal numbers))

-- a Dewey number: its components with dots between them
unfoldable pub dewey_text : List ℕ → List ℕ
dewey_text d = parted dot (map decimal d)

-- a line: Dewey number, entry, label name, source row, value; the source is entry × 65,536 + source row
unfoldable pub line_text : Format → List ℕ → ℕ → List ℕ
line_text f row source =
    let r = row_of f row in
    lined
    (parted space
    (dewey_text (dewey r)
    ∷ decimal (source / entry_unit)
    ∷ name_text r.label
    ∷ decimal (source % entry_unit)
    ∷ signed_text (signed r.value)
    ∷ []))

-- a line each, of a table's first records and their sources
unfoldable pub lines_text : Format → List ℕ → List ℕ → List ℕ
lines_text f table [] = []
lines_text f table (source ∷ sources) = line_text f (take (row_bytes f) table) source ++ lines_text f (drop (row_bytes f) table) sources

-- `edge`, the entry and its four numbers
unfoldable pub edge_text : ℕ → List ℕ → List ℕ
edge_text e numbers = lined (parted space (ascii "edge" ∷ decimal e ∷ map decimal numbers))

-- least and greatest children under a parent row, least and greatest parents of a child row
abbrev pub of_entry : EdgeNumbers → ℕ → List ℕ
of_entry x e = get_or x.least_children e 0 ∷ get_or x.greatest_children e 0 ∷ get_or x.least_parents e 0 ∷ get_or x.greatest_parents e 0 ∷ []

-- such a line for each of so many entries but the first
unfoldable pub edges_text : ℕ → EdgeNumbers → List ℕ
edges_text entries x = join_map (λ e. edge_text e (of_entry x e)) (drop 1 (count 0 entries))

-- `refused N P`, or `verdict` with its numbers, then a line each, and after the last line an edge line for each of the shape's entries but the
-- first; the second answer is not printed
unfoldable pub listing_text : Format → ℕ → Reply Judgement → Reshaping → List ℕ
listing_text f entries judged reshaped =
    let r = reshaped.reply in
    elim (eqb r.number 0) [
      | true ↦ verdict_text (verdict_numbers judged.rest.verdict) ++ lines_text f reshaped.table (take r.rest reshaped.sources)
          ++ edges_text entries judged.rest.edges
      | false ↦ refused_text r.number r.place
    ]
