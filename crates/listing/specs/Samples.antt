-- Document 01's listing, and lines at the limits, proved by computation. Assumes nothing.
use Rattle.std.specs.Prelude.{ℕ, ◌+◌, ◌*◌, ◌-◌, ◌^◌, ◌≡◌, refl, List, [], ◌∷◌, ◌++◌, map, length}
use Rattle.paper.specs.Lists.{padded}
use Rattle.paper.specs.Format.{Format, base, eight, value_bytes, bytes}
use Rattle.paper.specs.Tables.{Row, row_back}
use Rattle.paper.specs.Shapes.{entries}
use Rattle.paper.specs.Calls.{judge}
use Rattle.paper.specs.NewTable.{entry_unit}
use Rattle.paper.specs.Opened.{opened}
use Rattle.paper.specs.samples.Files.{row, table, entry, A, table10, portfolio, lessee, lease, asset}
use Rattle.paper.specs.samples.Told.{reshaped}
use Rattle.grammar.specs.Text.{ascii, digits_in, decimal, signed_text, followed, parted}
use Rattle.grammar.specs.Names.{names, name_of, name_text}
use Rattle.listing.specs.Listing.{refused_text, verdict_text, dewey_text, line_text, lines_text, edge_text, edges_text, listing_text}

-- what is printed of a table and a shape
printed : List ℕ → List ℕ → List ℕ
unfolding opened
printed b sb = listing_text base (length (entries base sb)) (judge base b sb) (reshaped b sb)

-- the line of a row with this Dewey number, label and value, of an entry and a source row
line_of : Format → List ℕ → ℕ → ℕ → ℕ → ℕ → List ℕ
line_of f d label value e r =
    let row : Row = record { level = length d; spare = 0; label = label; components = padded f.levels d; value = bytes value_bytes value } in
    line_text f (row_back row) (e * entry_unit + r)

-- what the definitions say, beside what is to be printed
pub samples : List (List ℕ × List ℕ)
samples =
    -- P4, whole
    (
      printed A (entry 1 lease ++ entry 2 lessee ++ entry 2 asset),
      ascii "verdict 0\n"
          ++ ascii "1 0 lease 2 200\n"
          ++ ascii "1.1 1 lessee 1 100\n"
          ++ ascii "1.2 2 asset 3 300\n"
          ++ ascii "1.3 2 asset 4 400\n"
          ++ ascii "2 0 lease 5 500\n"
          ++ ascii "2.1 1 lessee 1 100\n"
          ++ ascii "2.2 2 asset 6 600\n"
          ++ ascii "3 0 lease 8 800\n"
          ++ ascii "3.1 1 lessee 7 700\n"
          ++ ascii "edge 1 1 1 1 2\n"
          ++ ascii "edge 2 0 2 1 1\n",
    )
    -- P1: refusal 7, place 0
    ∷ (printed [] (entry 1 (3 ∷ []) ++ entry 2 (2 ∷ []) ++ entry 2 (4 ∷ [])), ascii "refused 7 0\n")
    -- P10, whole: types that do not meet have an edge line too
    ∷ (printed table10 (entry 1 (2 ∷ []) ++ entry 2 (3 ∷ [])), ascii "verdict 1 1 1\n" ++ ascii "1 0 lessee 0 0\n" ++ ascii "edge 1 0 0 0 0\n")
    -- one entry: no edge
    ∷ (printed table10 (entry 1 (2 ∷ [])), ascii "verdict 0\n" ++ ascii "1 0 lessee 0 0\n")
    -- an edge with the largest numbers
    ∷ (edge_text 15 (0 ∷ 1023 ∷ 1 ∷ 1022 ∷ []), ascii "edge 15 0 1023 1 1022\n")
    -- P6: verdict 2, entries 1 and 2
    ∷ (verdict_text (2 ∷ 1 ∷ 2 ∷ []), ascii "verdict 2 1 2\n")
    -- labels 1, 20, 21 and 99
    ∷ (line_of base (1 ∷ []) 1 0 0 0, ascii "1 0 portfolio 0 0\n")
    ∷ (line_of base (1 ∷ 2 ∷ []) 20 7 1 9, ascii "1.2 1 document 9 7\n")
    ∷ (line_of base (1 ∷ 2 ∷ []) 21 10 1 10, ascii "1.2 1 21 10 10\n")
    ∷ (line_of base (10 ∷ []) 99 999 15 1023, ascii "10 15 99 1023 999\n")
    -- values: -1, the least and the greatest
    ∷ (line_of base (1 ∷ []) 3 (2 ^ 64 - 1) 0 0, ascii "1 0 lease 0 -1\n")
    ∷ (line_of base (1 ∷ []) 3 (2 ^ 63) 0 0, ascii "1 0 lease 0 -9223372036854775808\n")
    ∷ (line_of base (1 ∷ []) 3 (2 ^ 63 - 1) 0 0, ascii "1 0 lease 0 9223372036854775807\n")
    -- six levels, and the largest components
    ∷ (
      line_of base (65535 ∷ 65535 ∷ 65535 ∷ 65535 ∷ 65535 ∷ 65535 ∷ []) 7 0 15 1023,
      ascii "65535.65535.65535.65535.65535.65535 15 guarantor 1023 0\n",
    )
    -- a wide row: the value stands after eight components; eight levels, and the largest components
    ∷ (line_of eight (1 ∷ 2 ∷ []) 3 7 1 9, ascii "1.2 1 lease 9 7\n")
    ∷ (
      line_of eight (65535 ∷ 65535 ∷ 65535 ∷ 65535 ∷ 65535 ∷ 65535 ∷ 65535 ∷ 65535 ∷ []) 7 (2 ^ 63) 15 1023,
      ascii "65535.65535.65535.65535.65535.65535.65535.65535 15 guarantor 1023 -9223372036854775808\n",
    )
    ∷ []

-- every sample is printed as it should be
pub samples_hold : map (λ (p : List ℕ × List ℕ). p.0) samples ≡ map (λ (p : List ℕ × List ℕ). p.1) samples
unfolding opened eight row table entry A table10 portfolio lessee lease asset digits_in decimal signed_text followed parted names name_of name_text refused_text
    verdict_text dewey_text line_text lines_text edge_text edges_text listing_text printed line_of samples
samples_hold = refl
