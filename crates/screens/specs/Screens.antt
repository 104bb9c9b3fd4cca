-- What the two screens print of an entry and of a type. Assumes nothing.
use Rattle.std.specs.Prelude.{ℕ, ◌*◌, ◌-◌, Bool, true, false, List, [], ◌∷◌, ◌++◌, eqb, replicate}
use Rattle.paper.specs.Lists.{any, first_or}
use Rattle.paper.specs.Adorned.{Summary}
use Rattle.grammar.specs.Text.{ascii, space, decimal}
use Rattle.grammar.specs.Names.{name_text}
use Rattle.listing.specs.Listing.{lined}

-- ---- words
-- a number and the word for what is counted: one of it, or more
unfoldable pub counted : ℕ → List ℕ → List ℕ → List ℕ
counted n one more = decimal n ++ (space ∷ elim (eqb n 1) [ true ↦ one | false ↦ more ])

-- two spaces for each level below the first
unfoldable pub indent : ℕ → List ℕ
indent level = replicate (2 * (level - 1)) space

-- the byte is a, e, i, o or u
unfoldable pub vowel : ℕ → Bool
vowel b = any (eqb b) (ascii "aeiou")

-- the article of a name: `an` exactly when it begins with a, e, i, o or u
unfoldable pub article : List ℕ → List ℕ
article name = elim (vowel (first_or 0 name)) [ true ↦ ascii "an" | false ↦ ascii "a" ]

-- a name with its article before it
unfoldable pub with_article : List ℕ → List ℕ
with_article name = article name ++ (space ∷ name)

-- ---- an entry's figures
-- `LINES lines, ROWS rows, COPIES copies, DIFFERENT different rows`
unfoldable pub counts_text : ℕ → ℕ → ℕ → ℕ → List ℕ
counts_text lines rows copies different =
    counted lines (ascii "line") (ascii "lines")
    ++ ascii ", "
    ++ counted rows (ascii "row") (ascii "rows")
    ++ ascii ", "
    ++ counted copies (ascii "copy") (ascii "copies")
    ++ ascii ", "
    ++ counted different (ascii "different row") (ascii "different rows")

-- `ENTRY NAME: ` and the counts, indented by the entry's level
unfoldable pub figures_text : ℕ → ℕ → ℕ → ℕ → ℕ → ℕ → ℕ → List ℕ
figures_text level entry label lines rows copies different =
    lined (indent level ++ decimal entry ++ (space ∷ name_text label) ++ ascii ": " ++ counts_text lines rows copies different)

-- ---- a type
-- `NAME ROWS rows`, indented by the type's level
unfoldable pub rows_text : Summary → List ℕ
rows_text s = indent s.level ++ name_text s.label ++ (space ∷ counted s.rows (ascii "row") (ascii "rows"))

-- `, LEAST..GREATEST under ` and the name of the label above
unfoldable pub under_text : ℕ → ℕ → ℕ → List ℕ
under_text least greatest above =
    ascii ", " ++ decimal least ++ ascii ".." ++ decimal greatest ++ ascii " under " ++ with_article (name_text above)

-- a type's rows, and where its level is not 1 how many of them stand under a row of the type above
unfoldable pub type_text : Summary → ℕ → List ℕ
type_text s above = lined (rows_text s ++ elim (eqb s.level 1) [ true ↦ [] | false ↦ under_text s.least s.greatest above ])
