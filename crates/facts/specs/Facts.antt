-- What is reported of a row or an entry that an answer names, and of an edge. Assumes nothing.
use Rattle.std.specs.Prelude.{ℕ, List, [], ◌∷◌, map}
use Rattle.paper.specs.Lists.{joined}
use Rattle.paper.specs.Format.{Format, byte, word, signed}
use Rattle.paper.specs.Tables.{row_of, dewey}
use Rattle.paper.specs.Shapes.{entry_of, named}
use Rattle.grammar.specs.Text.{ascii, space, decimal, signed_text, followed, parted}
use Rattle.grammar.specs.Names.{name_text}
use Rattle.listing.specs.Listing.{lined, dewey_text}

-- the parts, one after the other, as a line
unfoldable pub joined_line : List (List ℕ) → List ℕ
joined_line ps = lined (joined ps)

-- the names of labels, a space before each
unfoldable pub names_text : List ℕ → List ℕ
names_text ks = followed space (map name_text ks)

-- the type that an entry's record holds: as many of its labels as it is long, from the root down
unfoldable pub labels_text : Format → List ℕ → List ℕ
labels_text f entry = names_text (named (entry_of f entry))

-- an entry's number and the labels of its type
unfoldable pub entry_text : Format → ℕ → List ℕ → List ℕ
entry_text f e entry = joined_line (ascii "entry " ∷ decimal e ∷ ascii ":" ∷ labels_text f entry ∷ [])

-- a row's number, its Dewey number, the labels of its type, which is held as an entry's record holds it, and its value
unfoldable pub row_text : Format → ℕ → List ℕ → List ℕ → List ℕ
row_text f r row held =
    let fields = row_of f row in
    joined_line
    (ascii "row "
    ∷ decimal r
    ∷ ascii ": "
    ∷ dewey_text (dewey fields)
    ∷ ascii ","
    ∷ labels_text f held
    ∷ ascii ", value "
    ∷ signed_text (signed fields.value)
    ∷ [])

-- the fields that a row has before its Dewey number, at either width
unfoldable pub row_head : ℕ → List ℕ → List ℕ
row_head r row =
    joined
    (ascii "row "
    ∷ decimal r
    ∷ ascii ": level "
    ∷ decimal (byte row 0)
    ∷ ascii ", zero byte "
    ∷ decimal (byte row 1)
    ∷ ascii ", label "
    ∷ decimal (word row 2)
    ∷ [])

-- every field of a row, whether or not it keeps the rules
unfoldable pub row_fields : Format → ℕ → List ℕ → List ℕ
row_fields f r row =
    let fields = row_of f row in
    joined_line (row_head r row ∷ ascii ", number " ∷ dewey_text fields.components ∷ ascii ", value " ∷ signed_text (signed fields.value) ∷ [])

-- the fields that an entry has before its labels, at either width
unfoldable pub entry_head : ℕ → List ℕ → List ℕ
entry_head e entry =
    joined
    (ascii "entry "
    ∷ decimal e
    ∷ ascii ": level "
    ∷ decimal (byte entry 0)
    ∷ ascii ", length of its type "
    ∷ decimal (byte entry 1)
    ∷ ascii ", zero bytes "
    ∷ decimal (word entry 2)
    ∷ [])

-- every field of an entry, whether or not it keeps the rules
unfoldable pub entry_fields : Format → ℕ → List ℕ → List ℕ
entry_fields f e entry = joined_line (entry_head e entry ∷ ascii ", labels " ∷ dewey_text (entry_of f entry).labels ∷ [])

-- `edge`, the entry, the last labels of its parent entry's type and of its own, and its four numbers
unfoldable pub edge_fact : ℕ → ℕ → ℕ → List ℕ → List ℕ
edge_fact e over own numbers = lined (parted space (ascii "edge" ∷ decimal e ∷ name_text over ∷ name_text own ∷ map decimal numbers))
