-- Facts of rows and entries, proved by computation. Assumes nothing.
use Rattle.std.specs.Prelude.{ℕ, ◌-◌, ◌^◌, ◌≡◌, refl, List, [], ◌∷◌, ◌++◌, map}
use Rattle.paper.specs.Format.{base, eight}
use Rattle.paper.specs.Opened.{opened}
use Rattle.paper.specs.samples.Files.{row, entry, portfolio, lessee, lease, asset}
use Rattle.grammar.specs.Text.{ascii, digits_in, decimal, signed_text, followed, parted}
use Rattle.grammar.specs.Names.{names, name_of, name_text}
use Rattle.listing.specs.Listing.{dewey_text}
use Rattle.facts.specs.Facts.{joined_line, names_text, labels_text, entry_text, row_text, row_head, row_fields, entry_head, entry_fields, edge_fact}
use Rattle.facts.specs.Typed.{shown, marked_text}

-- a level 7, and labels that are not there
wrong_entry : List ℕ
wrong_entry = 7 ∷ 2 ∷ 1 ∷ 2 ∷ 1 ∷ 0 ∷ 21 ∷ 0 ∷ 231 ∷ 3 ∷ 0 ∷ 0 ∷ 0 ∷ 0 ∷ 0 ∷ 1 ∷ []

-- an entry of eight labels, and a row on level 8 whose value stands after eight components
wide_entry : List ℕ
wide_entry = 8 ∷ 8 ∷ 0 ∷ 0 ∷ 1 ∷ 0 ∷ 2 ∷ 0 ∷ 3 ∷ 0 ∷ 3 ∷ 0 ∷ 3 ∷ 0 ∷ 3 ∷ 0 ∷ 3 ∷ 0 ∷ 99 ∷ 0 ∷ []

wide_row : List ℕ
wide_row = 8 ∷ 0 ∷ 4 ∷ 0 ∷ 1 ∷ 0 ∷ 2 ∷ 0 ∷ 3 ∷ 0 ∷ 4 ∷ 0 ∷ 5 ∷ 0 ∷ 6 ∷ 0 ∷ 7 ∷ 0 ∷ 0 ∷ 1 ∷ 9 ∷ 0 ∷ 0 ∷ 0 ∷ 0 ∷ 0 ∷ 0 ∷ 0 ∷ []

-- what the definitions say, beside what is to be reported
pub samples : List (List ℕ × List ℕ)
samples =
    (entry_text base 1 (entry 2 lease), ascii "entry 1: portfolio lessee lease\n")
    ∷ (entry_text base 15 (entry 1 (21 ∷ 99 ∷ [])), ascii "entry 15: 21 99\n")
    ∷ (entry_text base 0 wrong_entry, ascii "entry 0: portfolio 21\n")
    ∷ (row_text base 8 (row (1 ∷ 2 ∷ 1 ∷ []) 3 800) (entry 1 lease), ascii "row 8: 1.2.1, portfolio lessee lease, value 800\n")
    ∷ (row_text base 0 (row (1 ∷ []) 1 (2 ^ 64 - 1)) (entry 1 portfolio), ascii "row 0: 1, portfolio, value -1\n")
    ∷ (
      row_fields base 3 (9 ∷ 4 ∷ 5 ∷ 1 ∷ 0 ∷ 0 ∷ 2 ∷ 1 ∷ 0 ∷ 0 ∷ 0 ∷ 0 ∷ 0 ∷ 0 ∷ 7 ∷ 0 ∷ 1 ∷ 0 ∷ 0 ∷ 0 ∷ 0 ∷ 0 ∷ 0 ∷ 128 ∷ []),
      ascii "row 3: level 9, zero byte 4, label 261, number 0.258.0.0.0.7, value -9223372036854775807\n",
    )
    ∷ (entry_fields base 2 wrong_entry, ascii "entry 2: level 7, length of its type 2, zero bytes 513, labels 1.21.999.0.0.256\n")
    -- wide ones
    ∷ (entry_text eight 3 wide_entry, ascii "entry 3: portfolio lessee lease lease lease lease lease 99\n")
    ∷ (row_text eight 9 wide_row wide_entry, ascii "row 9: 1.2.3.4.5.6.7.256, portfolio lessee lease lease lease lease lease 99, value 9\n")
    ∷ (row_fields eight 9 wide_row, ascii "row 9: level 8, zero byte 0, label 4, number 1.2.3.4.5.6.7.256, value 9\n")
    ∷ (entry_fields eight 3 wide_entry, ascii "entry 3: level 8, length of its type 8, zero bytes 0, labels 1.2.3.3.3.3.3.99\n")
    -- edges, with and without names
    ∷ (edge_fact 2 3 4 (0 ∷ 2 ∷ 1 ∷ 1 ∷ []), ascii "edge 2 lease asset 0 2 1 1\n")
    ∷ (edge_fact 15 21 99 (0 ∷ 1023 ∷ 1 ∷ 1022 ∷ []), ascii "edge 15 21 99 0 1023 1 1022\n")
    -- typed trees, marked at a byte, at a tab among bytes that are not shown, and behind the last byte
    ∷ (marked_text (ascii "lease [ ]") 8, ascii "tree: lease [ ]\n              ^\n")
    ∷ (marked_text (ascii " ~" ++ 9 ∷ 31 ∷ 127 ∷ 200 ∷ []) 2, ascii "tree:  ~????\n        ^\n")
    ∷ (marked_text [] 0, ascii "tree: \n      ^\n")
    ∷ []

-- every sample is reported as it should be
pub samples_hold : map (λ (p : List ℕ × List ℕ). p.0) samples ≡ map (λ (p : List ℕ × List ℕ). p.1) samples
unfolding opened eight row entry portfolio lessee lease asset digits_in decimal signed_text followed parted names name_of name_text dewey_text
    joined_line names_text labels_text entry_text row_text row_head row_fields entry_head entry_fields edge_fact shown marked_text wrong_entry wide_entry wide_row samples
samples_hold = refl
