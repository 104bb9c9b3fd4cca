-- Lines of the two screens, proved by computation. Assumes nothing.
use Rattle.std.specs.Prelude.{ℕ, ◌-◌, ◌^◌, ◌≡◌, refl, List, [], ◌∷◌, ◌++◌, map}
use Rattle.grammar.specs.Text.{ascii, digits_in, decimal}
use Rattle.grammar.specs.Names.{names, name_of, name_text}
use Rattle.screens.specs.Screens.{counted, indent, vowel, article, with_article, counts_text, figures_text, rows_text, under_text, type_text}

-- the largest number that is printed
abbrev largest : ℕ
largest = 2 ^ 64 - 1

-- the line of a type with this label, level, number of rows, least and greatest, under this label
type_of : ℕ → ℕ → ℕ → ℕ → ℕ → ℕ → List ℕ
type_of label level rows least greatest above =
    type_text (record { parent = 0; label = label; level = level; rows = rows; least = least; greatest = greatest }) above

-- what the definitions say, beside what is to be printed
pub samples : List (List ℕ × List ℕ)
samples =
    -- one of each, none of each, more of each
    (figures_text 1 0 3 1 1 1 1, ascii "0 lease: 1 line, 1 row, 1 copy, 1 different row\n")
    ∷ (figures_text 1 0 3 0 0 0 0, ascii "0 lease: 0 lines, 0 rows, 0 copies, 0 different rows\n")
    ∷ (figures_text 2 1 2 3 2 1 2, ascii "  1 lessee: 3 lines, 2 rows, 1 copy, 2 different rows\n")
    ∷ (figures_text 2 10 4 11 11 21 31, ascii "  10 asset: 11 lines, 11 rows, 21 copies, 31 different rows\n")
    -- P5: one of its three leases does not appear, and one appears twice
    ∷ (figures_text 2 1 3 3 3 1 2, ascii "  1 lease: 3 lines, 3 rows, 1 copy, 2 different rows\n")
    -- level 6, a label with no name, the largest numbers
    ∷ (figures_text 6 15 21 4096 1023 3073 1023, ascii "          15 21: 4096 lines, 1023 rows, 3073 copies, 1023 different rows\n")
    ∷ (
      figures_text 6 largest largest largest largest largest largest,
      ascii "          18446744073709551615 18446744073709551615: 18446744073709551615 lines, 18446744073709551615 rows"
          ++ ascii ", 18446744073709551615 copies, 18446744073709551615 different rows\n",
    )
    -- level 8
    ∷ (figures_text 8 15 4 2 1 1 1, ascii "              15 asset: 2 lines, 1 row, 1 copy, 1 different row\n")
    ∷ (type_of 4 8 3 0 2 3, ascii "              asset 3 rows, 0..2 under a lease\n")
    -- a root type, of one row and of more
    ∷ (type_of 1 1 1 1 1 0, ascii "portfolio 1 row\n")
    ∷ (type_of 2 1 12 12 12 4, ascii "lessee 12 rows\n")
    -- under a name, under a name with a vowel first, under a label with no name
    ∷ (type_of 4 4 3 0 2 3, ascii "      asset 3 rows, 0..2 under a lease\n")
    ∷ (type_of 6 2 1 0 1 4, ascii "  meter 1 row, 0..1 under an asset\n")
    ∷ (type_of 17 3 0 0 0 8, ascii "    reading 0 rows, 0..0 under an invoice\n")
    ∷ (type_of 22 2 5 1 4 21, ascii "  22 5 rows, 1..4 under a 21\n")
    -- level 6, the largest numbers
    ∷ (
      type_of 99 6 largest 1 largest 10,
      ascii "          99 18446744073709551615 rows, 1..18446744073709551615 under an insurance\n",
    )
    -- each vowel, and letters that are none
    ∷ (article (ascii "asset"), ascii "an")
    ∷ (article (ascii "entry"), ascii "an")
    ∷ (article (ascii "invoice"), ascii "an")
    ∷ (article (ascii "order"), ascii "an")
    ∷ (article (ascii "unit"), ascii "an")
    ∷ (article (ascii "lease"), ascii "a")
    ∷ (article (ascii "year"), ascii "a")
    ∷ (article [], ascii "a")
    ∷ []

-- every sample is printed as it should be
pub samples_hold : map (λ (p : List ℕ × List ℕ). p.0) samples ≡ map (λ (p : List ℕ × List ℕ). p.1) samples
unfolding digits_in decimal names name_of name_text counted indent vowel article with_article counts_text figures_text rows_text under_text type_text type_of samples
samples_hold = refl
