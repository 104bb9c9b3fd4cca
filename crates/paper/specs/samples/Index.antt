-- Samples of request 4, one list under one statement like the marked ones: indexes built, and calls with right and wrong ones. Assumes nothing.
use Rattle.std.specs.Prelude.{ℕ, ◌≡◌, refl, List, [], ◌∷◌, ◌++◌, map, drop, replicate}
use Rattle.paper.specs.Format.{base}
use Rattle.paper.specs.Verdict.{verdict_numbers}
use Rattle.paper.specs.Calls.{reshape, Reshaping}
use Rattle.paper.specs.Index.{Built, build_index, judge_with, reshape_with, summarise_with}
use Rattle.paper.specs.Opened.{opened}
use Rattle.paper.specs.samples.Files.{table, A, table7, table10, shape4, lent, files}
use Rattle.paper.specs.samples.Told.{added}

-- ---- sample lists
-- the index of table A, with 65535 for no row
unfoldable last_a : List ℕ
last_a = 8 ∷ 6 ∷ 4 ∷ 3 ∷ 4 ∷ 6 ∷ 6 ∷ 8 ∷ 8 ∷ []

unfoldable next_a : List ℕ
next_a = 65535 ∷ 7 ∷ 5 ∷ 4 ∷ 6 ∷ 8 ∷ 65535 ∷ 65535 ∷ 65535 ∷ []

-- a lease under a lessee and a lease without one: one label, two types
unfoldable two_leases : List ℕ
two_leases = table 0 ((1 ∷ [], 2) ∷ (1 ∷ 1 ∷ [], 3) ∷ (2 ∷ [], 3) ∷ (3 ∷ [], 2) ∷ (3 ∷ 1 ∷ [], 3) ∷ [])

-- three trees with roots of one type, of which the first has a row beneath it
unfoldable three_roots : List ℕ
three_roots = table 0 ((1 ∷ [], 1) ∷ (1 ∷ 1 ∷ [], 2) ∷ (2 ∷ [], 1) ∷ (3 ∷ [], 1) ∷ [])

-- ---- what is said of them
-- number, place and rows of building, and both lists afterwards
unfoldable pub built : List ℕ → List ℕ → List ℕ → List (List ℕ)
unfolding opened added
built b last next =
    let x : Built = build_index base b last next in
    (x.reply.number ∷ x.reply.place ∷ x.reply.rest ∷ []) ∷ x.last ∷ x.next ∷ []

-- number, place and verdict of judging with an index
unfoldable pub judged_with : List ℕ → List ℕ → List ℕ → List ℕ → List (List ℕ)
unfolding opened added
judged_with b sb last next =
    let x = judge_with base b sb last next in
    (x.number ∷ x.place ∷ verdict_numbers x.rest.verdict) ∷ []

-- number, place and lines of reshaping with an index, and the lent places of the source list afterwards
unfoldable pub reshaped_with : List ℕ → List ℕ → List ℕ → List ℕ → List (List ℕ)
unfolding opened added
reshaped_with b sb last next =
    let x : Reshaping = reshape_with base b sb last next (replicate 240 9) (lent 12) in
    (x.reply.number ∷ x.reply.place ∷ x.reply.rest ∷ []) ∷ x.sources ∷ []

-- number and place of a summary with an index
unfoldable pub summarised_with : List ℕ → List ℕ → List ℕ → List ℕ → List (List ℕ)
unfolding opened added
summarised_with b sb last next = let x = summarise_with base b sb last next in (x.number ∷ x.place ∷ []) ∷ []

pub samples : List (List (List ℕ) × List (List ℕ))
samples =
    -- table A; the places past its rows stay as they were
    (built A (lent 9) (lent 11), (0 ∷ 0 ∷ 9 ∷ []) ∷ last_a ∷ (next_a ++ lent 2) ∷ [])
    -- one label is not one type: row 1 is followed by row 4, and row 2 by none
    ∷ (
      built two_leases (lent 5) (lent 5),
      (0 ∷ 0 ∷ 5 ∷ []) ∷ (1 ∷ 1 ∷ 2 ∷ 4 ∷ 4 ∷ []) ∷ (3 ∷ 4 ∷ 65535 ∷ 65535 ∷ 65535 ∷ []) ∷ [],
    )
    -- a root type of several rows
    ∷ (
      built three_roots (lent 4) (lent 4),
      (0 ∷ 0 ∷ 4 ∷ []) ∷ (1 ∷ 1 ∷ 2 ∷ 3 ∷ []) ∷ (2 ∷ 65535 ∷ 3 ∷ 65535 ∷ []) ∷ [],
    )
    -- the tables of P7 and P10, and no rows at all
    ∷ (built table7 (lent 5) (lent 5), (0 ∷ 0 ∷ 5 ∷ []) ∷ (4 ∷ 2 ∷ 2 ∷ 3 ∷ 4 ∷ []) ∷ (65535 ∷ 3 ∷ 65535 ∷ 65535 ∷ 65535 ∷ []) ∷ [])
    ∷ (built table10 (lent 2) (lent 2), (0 ∷ 0 ∷ 2 ∷ []) ∷ (0 ∷ 1 ∷ []) ∷ (65535 ∷ 65535 ∷ []) ∷ [])
    ∷ (built [] [] (lent 1), (0 ∷ 0 ∷ 0 ∷ []) ∷ [] ∷ lent 1 ∷ [])
    -- 14: either list is one place short; nothing changes
    ∷ (built A (lent 8) (lent 9), (14 ∷ 0 ∷ 0 ∷ []) ∷ lent 8 ∷ lent 9 ∷ [])
    ∷ (built A (lent 9) (lent 8), (14 ∷ 0 ∷ 0 ∷ []) ∷ lent 9 ∷ lent 8 ∷ [])
    -- 3 before 14: the last row alone is no table
    ∷ (built (drop 192 A) [] [], (3 ∷ 0 ∷ 0 ∷ []) ∷ [] ∷ [] ∷ [])
    -- P4 with the index of table A, and with places past its rows
    ∷ (judged_with A shape4 last_a next_a, (0 ∷ 0 ∷ 0 ∷ []) ∷ [])
    ∷ (judged_with A shape4 (last_a ++ lent 3) (next_a ++ lent 1), (0 ∷ 0 ∷ 0 ∷ []) ∷ [])
    ∷ (reshaped_with A shape4 last_a next_a, (0 ∷ 0 ∷ 9 ∷ []) ∷ (reshape base A shape4 (replicate 240 9) (lent 12)).sources ∷ [])
    ∷ (summarised_with A shape4 last_a next_a, (0 ∷ 0 ∷ []) ∷ [])
    -- 15: wrong at the last row, in either list
    ∷ (judged_with A shape4 (8 ∷ 6 ∷ 4 ∷ 3 ∷ 4 ∷ 6 ∷ 6 ∷ 8 ∷ 7 ∷ []) next_a, (15 ∷ 8 ∷ 0 ∷ []) ∷ [])
    ∷ (reshaped_with A shape4 last_a (65535 ∷ 7 ∷ 5 ∷ 4 ∷ 6 ∷ 8 ∷ 65535 ∷ 65535 ∷ 0 ∷ []), (15 ∷ 8 ∷ 0 ∷ []) ∷ lent 12 ∷ [])
    -- wrong in both: the least row is named
    ∷ (summarised_with A shape4 (8 ∷ 6 ∷ 4 ∷ 3 ∷ 4 ∷ 5 ∷ 6 ∷ 8 ∷ 8 ∷ []) (65535 ∷ 7 ∷ 8 ∷ 4 ∷ 6 ∷ 8 ∷ 65535 ∷ 65535 ∷ 65535 ∷ []), (15 ∷ 2 ∷ []) ∷ [])
    -- 14 before 15, and 15 before 5
    ∷ (judged_with A shape4 (lent 9) (lent 8), (14 ∷ 0 ∷ 0 ∷ []) ∷ [])
    ∷ (judged_with A [] (lent 9) (lent 9), (15 ∷ 0 ∷ 0 ∷ []) ∷ [])
    ∷ (judged_with A [] last_a next_a, (5 ∷ 0 ∷ 0 ∷ []) ∷ [])
    -- 2 before 14
    ∷ (summarised_with (drop 1 A) shape4 [] [], (2 ∷ 0 ∷ []) ∷ [])
    ∷ []

-- every sample says what document 02 says
pub samples_hold : map (λ (p : List (List ℕ) × List (List ℕ)). p.0) samples ≡ map (λ (p : List (List ℕ) × List (List ℕ)). p.1) samples
unfolding opened added files samples last_a next_a two_leases three_roots built judged_with reshaped_with summarised_with
samples_hold = refl
