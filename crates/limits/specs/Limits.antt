-- Samples at the limits of rows, types, lines and labels, one list under one statement, proved by computation. They take long tables, so they
-- stand above `paper`, out of the way of its edits. Assumes nothing.
use Rattle.std.specs.Prelude.{ℕ, zero, suc, ◌≡◌, refl, List, [], ◌∷◌, ◌++◌, map, replicate}
use Rattle.paper.specs.Format.{base, eight}
use Rattle.paper.specs.Calls.{look_up, room_in}
use Rattle.paper.specs.Widths.{Moved, table_to, move_table}
use Rattle.paper.specs.Labels.{convert}
use Rattle.paper.specs.Index.{build_index}
use Rattle.paper.specs.Opened.{opened}
use Rattle.paper.specs.samples.Files.{row, typed, entry, portfolio, shape4, lent, files}
use Rattle.paper.specs.samples.Told.{added, examined, adorned_into, judged, said}
use Rattle.paper.specs.samples.Index.{judged_with, reshaped_with, summarised_with}

-- n bytes of zeros
unfoldable zeros : ℕ → List ℕ
zeros n = replicate n 0

-- the pairs of old labels from k on with new labels 2, 3 and so on, n of them
unfoldable run : ℕ → ℕ → ℕ → List ℕ
run k j zero = []
run k j (suc n) = k ∷ j ∷ run (suc k) (suc j) n

-- ---- what the definitions say, as lists of figures
-- number, place and count of what is moved
counted : Moved → List (List ℕ)
counted m = (m.reply.number ∷ m.reply.place ∷ m.reply.rest ∷ []) ∷ []

-- number, place and counts of converting, with n bytes lent for the table and for the shape
converted : ℕ → List ℕ → List ℕ → List ℕ → List (List ℕ)
unfolding opened added
converted n b s numbers =
    let r = (convert base b s numbers (lent n) (lent n)).reply in
    (r.number ∷ r.place ∷ r.rest.rows ∷ r.rest.entries ∷ []) ∷ []

-- number, place and count of rows of building, with n places lent for either list
built_in : ℕ → List ℕ → List (List ℕ)
unfolding opened added
built_in n b = let r = (build_index base b (lent n) (lent n)).reply in (r.number ∷ r.place ∷ r.rest ∷ []) ∷ []

-- number and place of a look-up
looked_up : List ℕ → ℕ → List (List ℕ)
unfolding opened
looked_up b i = let r = look_up base b i in (r.number ∷ r.place ∷ []) ∷ []

-- ---- the list: what the definitions say, beside what the documents say
pub limits : List (List (List ℕ) × List (List ℕ))
limits =
    -- 1 alone cannot be: the shortest table that is too long earns a 2 as well; of the longest that is not, row 0 breaks a rule
    (examined base (zeros 24577), (1 ∷ 0 ∷ 0 ∷ []) ∷ [])
    ∷ (examined base (zeros 24576), (3 ∷ 0 ∷ 0 ∷ []) ∷ [])
    -- so by the wide width
    ∷ (examined eight (lent 28673), (1 ∷ 0 ∷ 0 ∷ []) ∷ [])
    ∷ (examined eight (lent 28672), (3 ∷ 0 ∷ 0 ∷ []) ∷ [])
    -- and for converting, before 25
    ∷ (converted 0 (lent 24577) [] (1 ∷ []), (1 ∷ 0 ∷ 0 ∷ 0 ∷ []) ∷ [])
    -- 3 beside 4
    ∷ (judged base (typed 65 ++ zeros 24) [], (3 ∷ 66 ∷ []) ∷ (0 ∷ []) ∷ [])
    -- 4 at the first row of the 65th type, 64 pass; beside 5, beside 10
    ∷ (adorned_into 64 (typed 64), (0 ∷ 0 ∷ 64 ∷ []) ∷ [])
    ∷ (adorned_into 65 (typed 65), (4 ∷ 65 ∷ 0 ∷ []) ∷ [])
    ∷ (judged base (typed 65) [], (4 ∷ 65 ∷ []) ∷ (0 ∷ []) ∷ [])
    ∷ (adorned_into 0 (typed 65), (4 ∷ 65 ∷ 0 ∷ []) ∷ [])
    -- 65 types are no fault to examining, to a look-up, to widening and narrowing, to converting and to building an index
    ∷ (examined base (typed 65), (0 ∷ 0 ∷ 66 ∷ []) ∷ [])
    ∷ (looked_up (typed 65) 65, (0 ∷ 0 ∷ []) ∷ [])
    ∷ (counted (move_table base eight (typed 65) (lent 1848)), (0 ∷ 0 ∷ 66 ∷ []) ∷ [])
    ∷ (counted (move_table eight base (table_to base eight (typed 65)) (lent 1584)), (0 ∷ 0 ∷ 66 ∷ []) ∷ [])
    ∷ (converted 1584 (typed 65) (entry 1 portfolio) [], (0 ∷ 0 ∷ 66 ∷ 1 ∷ []) ∷ [])
    ∷ (built_in 66 (typed 65), (0 ∷ 0 ∷ 66 ∷ []) ∷ [])
    ∷ (built_in 65 (typed 65), (14 ∷ 0 ∷ 0 ∷ []) ∷ [])
    -- the calls with an index test 4, and before 14
    ∷ (judged_with (typed 65) shape4 [] [], (4 ∷ 65 ∷ 0 ∷ []) ∷ [])
    ∷ (reshaped_with (typed 65) shape4 [] [], (4 ∷ 65 ∷ 0 ∷ []) ∷ lent 12 ∷ [])
    ∷ (summarised_with (typed 65) shape4 [] [], (4 ∷ 65 ∷ []) ∷ [])
    ∷ (judged_with (typed 64) shape4 [] [], (14 ∷ 0 ∷ 0 ∷ []) ∷ [])
    -- there is room for 4,096 lines in what holds 4,100
    ∷ ((room_in base (zeros 98400) (zeros 4100) ∷ []) ∷ [], (4096 ∷ []) ∷ [])
    -- 98 pairs beside label 1 can be right, the 99th cannot
    ∷ (converted 0 (row (1 ∷ []) 1 0) (entry 1 (1 ∷ [])) (run 100 2 98), (29 ∷ 0 ∷ 0 ∷ 0 ∷ []) ∷ [])
    ∷ (converted 0 (row (1 ∷ []) 1 0) (entry 1 (1 ∷ [])) (run 100 2 99), (25 ∷ 98 ∷ 0 ∷ 0 ∷ []) ∷ [])
    ∷ []

-- every sample says what the documents say
pub limits_hold : map (λ (p : List (List ℕ) × List (List ℕ)). p.0) limits ≡ map (λ (p : List (List ℕ) × List (List ℕ)). p.1) limits
unfolding opened added files said limits zeros run counted converted built_in looked_up judged_with reshaped_with summarised_with
limits_hold = refl
