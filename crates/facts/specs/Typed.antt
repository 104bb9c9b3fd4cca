-- What is reported of a typed tree that is refused: the text, and a mark under a place of it. Assumes nothing.
use Rattle.std.specs.Prelude.{ℕ, ◌+◌, true, false, List, [], ◌∷◌, map, ltb, replicate}
use Rattle.paper.specs.Lists.{joined}
use Rattle.grammar.specs.Text.{ascii, space}

-- a byte as it is shown on one line: printable ASCII as it is, every other as a question mark
unfoldable pub shown : ℕ → ℕ
shown b = elim (ltb b 32) [ true ↦ 63 | false ↦ elim (ltb 126 b) [ true ↦ 63 | false ↦ b ] ]

-- the text as it is shown, and on a line below it a mark under its byte at this place, or behind its last byte
unfoldable pub marked_text : List ℕ → ℕ → List ℕ
marked_text text place = joined (ascii "tree: " ∷ map shown text ∷ ascii "\n" ∷ replicate (6 + place) space ∷ ascii "^\n" ∷ [])
