-- Samples of the two widths, one list under one statement like the marked ones: table A widened, judged and reshaped, files moved there and
-- back, and what is too deep. Assumes nothing.
use Rattle.std.specs.Prelude.{ℕ, zero, suc, ◌≡◌, refl, List, [], ◌∷◌, ◌++◌, map, length, take, drop, replicate}
use Rattle.paper.specs.Lists.{join_map, padded}
use Rattle.paper.specs.Format.{base, eight, value_bytes, bytes}
use Rattle.paper.specs.Tables.{row_back}
use Rattle.paper.specs.Calls.{look_up}
use Rattle.paper.specs.Widths.{record_to, table_to, shape_to, Moved, move_table, move_shape}
use Rattle.paper.specs.Opened.{opened}
use Rattle.paper.specs.samples.Files.{row, A, entry, shape4, shape5, new4, sources4, lent, files}
use Rattle.paper.specs.samples.Told.{added, examined, judged, rewritten, said}

-- ---- sample files
-- a row of a wide table with label 1
abbrev wide_row : List ℕ → List ℕ
wide_row d = row_back (record { level = length d; spare = 0; label = 1; components = padded eight.levels d; value = bytes value_bytes 0 })

-- a wide chain of n rows, each beneath the one before it
abbrev chain : ℕ → List ℕ
chain zero = []
chain (suc n) = chain n ++ wide_row (replicate (suc n) 1)

-- an entry of a wide shape whose type is k labels 1
abbrev wide_entry : ℕ → ℕ → List ℕ
wide_entry l k = l ∷ k ∷ 0 ∷ 0 ∷ join_map (bytes 2) (padded eight.levels (replicate k 1))

-- a shape of n entries with label 1, each beneath the one before it, of the entries that a level gives
abbrev nested : (ℕ → List ℕ) → ℕ → List ℕ
nested at zero = []
nested at (suc n) = nested at n ++ at (suc n)

-- wide ones, and narrow ones
abbrev wide_nested : ℕ → List ℕ
wide_nested n = nested (λ l. wide_entry l 1) n

abbrev narrow_nested : ℕ → List ℕ
narrow_nested n = nested (λ l. entry l (1 ∷ [])) n

-- ---- what the definitions say, as lists of figures
-- number, place and count, and the lent bytes afterwards
told : Moved → List (List ℕ)
told m = (m.reply.number ∷ m.reply.place ∷ m.reply.rest ∷ []) ∷ m.bytes ∷ []

-- ---- the list: what the definitions say, beside what request 9 says
pub widths : List (List (List ℕ) × List (List ℕ))
widths =
    -- a widened row has two zero components behind the six that it has, and its value behind them; a widened entry two zero labels
    (
      (take 28 (drop 28 (table_to base eight A)) ∷ []),
      (2 ∷ 0 ∷ 2 ∷ 0 ∷ 1 ∷ 0 ∷ 1 ∷ 0 ∷ 0 ∷ 0 ∷ 0 ∷ 0 ∷ 0 ∷ 0 ∷ 0 ∷ 0 ∷ 0 ∷ 0 ∷ 0 ∷ 0 ∷ 100 ∷ 0 ∷ 0 ∷ 0 ∷ 0 ∷ 0 ∷ 0 ∷ 0 ∷ []) ∷ [],
    )
    ∷ (
      (take 20 (shape_to base eight shape4) ∷ []),
      (1 ∷ 3 ∷ 0 ∷ 0 ∷ 1 ∷ 0 ∷ 2 ∷ 0 ∷ 3 ∷ 0 ∷ 0 ∷ 0 ∷ 0 ∷ 0 ∷ 0 ∷ 0 ∷ 0 ∷ 0 ∷ 0 ∷ 0 ∷ []) ∷ [],
    )
    -- table A widened is examined as table A; it is judged so by P4's shape and by P5's, widened
    ∷ (examined eight (table_to base eight A), (0 ∷ 0 ∷ 9 ∷ []) ∷ [])
    ∷ (judged eight (table_to base eight A) (shape_to base eight shape4), (0 ∷ 0 ∷ []) ∷ (0 ∷ []) ∷ [])
    ∷ (judged eight (table_to base eight A) (shape_to base eight shape5), (0 ∷ 0 ∷ []) ∷ (1 ∷ 1 ∷ 8 ∷ []) ∷ [])
    -- an entry on level 7 is refused in a narrow shape, and kept in that shape widened
    ∷ (judged base (row (1 ∷ []) 1 0) (narrow_nested 7), (6 ∷ 6 ∷ []) ∷ (0 ∷ []) ∷ [])
    ∷ (judged eight (table_to base eight (row (1 ∷ []) 1 0)) (shape_to base eight (narrow_nested 7)), (0 ∷ 0 ∷ []) ∷ (0 ∷ []) ∷ [])
    -- P4's new table, widened line by line, and its source list
    ∷ (rewritten eight (table_to base eight A) (shape_to base eight shape4) (λ b. b), (0 ∷ 0 ∷ []) ∷ table_to base eight new4 ∷ sources4 ∷ [])
    -- row 8 of it has 28 bytes
    ∷ (((look_up eight (table_to base eight A) 8).rest ∷ []), (record_to base eight (row (1 ∷ 2 ∷ 1 ∷ []) 3 800) ∷ []))
    -- widened into 254 bytes, table A takes 252 and the last two stay; a byte short, it is refused and none changes
    ∷ (told (move_table base eight A (lent 254)), (0 ∷ 0 ∷ 9 ∷ []) ∷ (table_to base eight A ++ lent 2) ∷ [])
    ∷ (told (move_table base eight A (lent 251)), (29 ∷ 0 ∷ 0 ∷ []) ∷ lent 251 ∷ [])
    ∷ (told (move_shape base eight shape4 (lent 60)), (0 ∷ 0 ∷ 3 ∷ []) ∷ shape_to base eight shape4 ∷ [])
    ∷ (told (move_shape base eight shape4 (lent 59)), (29 ∷ 0 ∷ 0 ∷ []) ∷ lent 59 ∷ [])
    -- narrowed again, both are what they were
    ∷ (told (move_table eight base (table_to base eight A) (lent 216)), (0 ∷ 0 ∷ 9 ∷ []) ∷ A ∷ [])
    ∷ (told (move_shape eight base (shape_to base eight shape4) (lent 49)), (0 ∷ 0 ∷ 3 ∷ []) ∷ (shape4 ++ lent 1) ∷ [])
    -- a chain down to level 8 is a wide table; with its last components lost, row 6 breaks a rule of the narrow ones
    ∷ (examined eight (chain 8), (0 ∷ 0 ∷ 8 ∷ []) ∷ [])
    ∷ (examined base (table_to eight base (chain 8)), (3 ∷ 6 ∷ 0 ∷ []) ∷ [])
    -- 24 at the first row too deep, on level 7; six levels pass; beside 29; not beside 3
    ∷ (told (move_table eight base (chain 8) (lent 3)), (24 ∷ 6 ∷ 0 ∷ []) ∷ lent 3 ∷ [])
    ∷ (told (move_table eight base (chain 7) (lent 0)), (24 ∷ 6 ∷ 0 ∷ []) ∷ [] ∷ [])
    ∷ (told (move_table eight base (chain 6) (lent 0)), (29 ∷ 0 ∷ 0 ∷ []) ∷ [] ∷ [])
    ∷ (told (move_table eight base (chain 7 ++ lent 28) (lent 0)), (3 ∷ 7 ∷ 0 ∷ []) ∷ [] ∷ [])
    -- 24 at the first entry too deep: on level 7, or with a type of 7 labels; six of either pass; not beside 6
    ∷ (told (move_shape eight base (wide_nested 8) (lent 3)), (24 ∷ 6 ∷ 0 ∷ []) ∷ lent 3 ∷ [])
    ∷ (told (move_shape eight base (wide_nested 6) (lent 0)), (29 ∷ 0 ∷ 0 ∷ []) ∷ [] ∷ [])
    ∷ (told (move_shape eight base (wide_entry 1 6 ++ wide_entry 2 7 ++ wide_entry 2 8) (lent 3)), (24 ∷ 1 ∷ 0 ∷ []) ∷ lent 3 ∷ [])
    ∷ (told (move_shape eight base (wide_entry 1 7 ++ lent 20) (lent 0)), (6 ∷ 1 ∷ 0 ∷ []) ∷ [] ∷ [])
    -- the tests of the file come first: 2 and 5 by its own width
    ∷ (told (move_table eight base (lent 24) (lent 0)), (2 ∷ 0 ∷ 0 ∷ []) ∷ [] ∷ [])
    ∷ (told (move_shape base eight (lent 20) (lent 0)), (5 ∷ 0 ∷ 0 ∷ []) ∷ [] ∷ [])
    ∷ []

-- every sample says what request 9 says
pub widths_hold : map (λ (p : List (List ℕ) × List (List ℕ)). p.0) widths ≡ map (λ (p : List (List ℕ) × List (List ℕ)). p.1) widths
unfolding opened added files said widths told
widths_hold = refl
