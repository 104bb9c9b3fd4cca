-- Histories and lines at the limits, proved by computation. Assumes nothing.
use Rattle.std.specs.Prelude.{ℕ, ◌+◌, ◌-◌, ◌^◌, ◌≡◌, refl, List, [], ◌∷◌, ◌++◌, map, pos, negsuc}
use Rattle.paper.specs.Format.{base}
use Rattle.paper.specs.Opened.{opened}
use Rattle.paper.specs.samples.Files.{row, table, entry, A, shape5, lessee, lease, asset}
use Rattle.grammar.specs.Text.{ascii, digits_in, decimal, signed_text}
use Rattle.totals.specs.Sums.{within}
use Rattle.totals.specs.Tape.{Tape, value_of, type_rows, out_of_range, shown_rows, unshown_rows, sums_of, sum_tape}
use Rattle.totals.specs.Total.{Total, nothing, cannot_be, total_with, take_in}
use Rattle.totals.specs.Told.{tape}
use Rattle.billing.specs.Billing.{sums_text, counted_text, not_counted_text, total_text, tape_text, lines_text, history_text}

-- the tape of document 01's P5, which shows one of its leases twice and one not at all, at one of its entries
tape5 : ℕ → Tape
tape5 e = tape base A shape5 e

-- a tape of one lessee with this value
lessee_of : ℕ → Tape
lessee_of value = tape base (row (1 ∷ []) 2 value) (entry 1 (2 ∷ [])) 0

-- both sums as they are, and the tapes
total_of : ℕ → Total
total_of tapes = record { shown = pos 0; unshown = pos 0; tapes = tapes }

-- what the definitions say, beside what is to be printed
pub samples : List (List ℕ × List ℕ)
samples =
    -- no folder
    (history_text [], ascii "total: shown 0, not shown 0, tapes 0\n")
    -- P5 at its lease, whose 800 is not shown; a value below 0; a value out of range; a table that is cut off; P5 at its lessee
    ∷ (
      history_text ((ascii "a", tape5 1) ∷ (ascii "b/c", lessee_of (2 ^ 64 - 900)) ∷ (ascii "d", lessee_of (10 ^ 12 + 1)) ∷ (ascii "", tape base (0 ∷ []) [] 0)
          ∷ (ascii "a", tape5 2) ∷ []),
      ascii "a: shown 700, not shown 800\n"
          ++ ascii "b/c: shown -900, not shown 0\n"
          ++ ascii "d: refused 17 0, not counted\n"
          ++ ascii ": refused 2 0, not counted\n"
          ++ ascii "a: shown 100, not shown 700\n"
          ++ ascii "total: shown -100, not shown 1500, tapes 3\n",
    )
    -- no such entry; the values at the limits; a total that is full, and one that is not
    ∷ (tape_text (ascii "p5") nothing (tape5 3), ascii "p5: refused 16 0, not counted\n")
    ∷ (tape_text (ascii "x") nothing (lessee_of (10 ^ 12)), ascii "x: shown 1000000000000, not shown 0\n")
    ∷ (tape_text (ascii "x") nothing (lessee_of (2 ^ 64 - 10 ^ 12)), ascii "x: shown -1000000000000, not shown 0\n")
    ∷ (tape_text (ascii "x") (total_of 1000) (lessee_of 1), ascii "x: refused 18 0, not counted\n")
    ∷ (tape_text (ascii "x") (total_of 999) (lessee_of 1), ascii "x: shown 1, not shown 0\n")
    -- the largest numbers
    ∷ (
      total_text (record { shown = negsuc (2 ^ 63 - 1); unshown = pos (2 ^ 63 - 1); tapes = 2 ^ 64 - 1 }),
      ascii "total: shown -9223372036854775808, not shown 9223372036854775807, tapes 18446744073709551615\n",
    )
    ∷ []

-- every sample is printed as it should be
pub samples_hold : map (λ (p : List ℕ × List ℕ). p.0) samples ≡ map (λ (p : List ℕ × List ℕ). p.1) samples
unfolding opened row table entry A shape5 lessee lease asset digits_in decimal signed_text within value_of type_rows out_of_range shown_rows unshown_rows sums_of sum_tape
    cannot_be total_with take_in sums_text counted_text not_counted_text total_text tape_text lines_text history_text tape5 lessee_of total_of samples
samples_hold = refl
