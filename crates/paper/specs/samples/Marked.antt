-- The marked samples of document 01, one list under one statement, proved by computation. Assumes nothing.
use Rattle.std.specs.Prelude.{ℕ, ◌*◌, ◌/◌, ◌%◌, ◌≡◌, refl, List, [], ◌∷◌, ◌++◌, map, get_or, take, replicate}
use Rattle.paper.specs.Format.{base, row_bytes, number}
use Rattle.paper.specs.Tables.{Row, rows, dewey}
use Rattle.paper.specs.Closeness.{Node, nodes, meet, kinds_meet, kinds_distance}
use Rattle.paper.specs.NewTable.{entry_unit}
use Rattle.paper.specs.Opened.{opened}
use Rattle.paper.specs.samples.Files.{A, table7, table8, table10, entry, portfolio, lessee, lease, asset, shape4, shape5, files}
use Rattle.paper.specs.samples.Told.{filled, adorned_over, judged, reshaped, said}

-- ---- what the definitions say, as lists of figures
-- the refusal and its place, and the number of lines
lined : List ℕ → List ℕ → List (List ℕ)
unfolding opened
lined b sb = let r = (reshaped b sb).reply in (r.number ∷ r.place ∷ r.rest ∷ []) ∷ []

-- line by line: the Dewey number; then entry, label, source row, value
listing : List Row → List ℕ → List (List ℕ)
unfolding opened
listing [] xs = []
listing (r ∷ rs) [] = []
listing (r ∷ rs) (x ∷ xs) = dewey r ∷ (x / entry_unit ∷ r.label ∷ x % entry_unit ∷ number r.value ∷ []) ∷ listing rs xs

listed : List ℕ → List ℕ → List (List ℕ)
unfolding opened listing
listed b sb =
    let r = reshaped b sb in
    let n = r.reply.rest in
    listing (rows base (take (n * row_bytes base) r.table)) (take n r.sources)

-- the level at which two rows meet; the level at which the types of two rows meet, and their distance
rows_meet : List ℕ → ℕ → ℕ → List (List ℕ)
unfolding opened
rows_meet b i j =
    let t = nodes (rows base b) in
    let deweys = map (λ (r : Node). r.dewey) t in
    (meet (record { place = i; kind = 0; dewey = get_or deweys i [] }) (record { place = j; kind = 0; dewey = get_or deweys j [] }) ∷ []) ∷ []

types_meet : List ℕ → ℕ → ℕ → List (List ℕ)
unfolding opened
types_meet b i j =
    let t = nodes (rows base b) in
    let kinds = map (λ (r : Node). r.kind) t in
    (kinds_meet t (get_or kinds i 0) (get_or kinds j 0) ∷ kinds_distance t (get_or kinds i 0) (get_or kinds j 0) ∷ []) ∷ []

-- ---- the list: what the definitions say, beside what document 01 says
pub samples : List (List (List ℕ) × List (List ℕ))
samples =
    -- P1: refusal 7, place 0
    (judged base [] (entry 1 (3 ∷ []) ++ entry 2 (2 ∷ []) ++ entry 2 (4 ∷ [])), (7 ∷ 0 ∷ []) ∷ (0 ∷ []) ∷ [])
    ∷ (lined [] (entry 1 (3 ∷ []) ++ entry 2 (2 ∷ []) ++ entry 2 (4 ∷ [])), (7 ∷ 0 ∷ 0 ∷ []) ∷ [])
    -- P2: 4 types; children counts: lessee 2..2, lease 1..2, asset 0..2; the fifth lent summary stays as it was
    ∷ (
      adorned_over (replicate 5 (filled 0)) A,
      (0 ∷ 0 ∷ 4 ∷ []) ∷ (64 ∷ 1 ∷ 1 ∷ 1 ∷ 1 ∷ 1 ∷ []) ∷ (0 ∷ 2 ∷ 2 ∷ 2 ∷ 2 ∷ 2 ∷ []) ∷ (1 ∷ 3 ∷ 3 ∷ 3 ∷ 1 ∷ 2 ∷ []) ∷ (2 ∷ 4 ∷ 4 ∷ 3 ∷ 0 ∷ 2 ∷ [])
          ∷ (0 ∷ 0 ∷ 0 ∷ 0 ∷ 0 ∷ 0 ∷ []) ∷ [],
    )
    -- P3: rows 3 and 4 meet at 3; 3 and 6 at 2; 3 and 8 at 1; lessee and asset meet at 2, distance 2
    ∷ (rows_meet A 3 4, (3 ∷ []) ∷ [])
    ∷ (rows_meet A 3 6, (2 ∷ []) ∷ [])
    ∷ (rows_meet A 3 8, (1 ∷ []) ∷ [])
    ∷ (types_meet A 1 3, (2 ∷ 2 ∷ []) ∷ [])
    -- P4: verdict 0 and the listing
    ∷ (judged base A shape4, (0 ∷ 0 ∷ []) ∷ (0 ∷ []) ∷ [])
    ∷ (
      listed A shape4,
      (1 ∷ []) ∷ (0 ∷ 3 ∷ 2 ∷ 200 ∷ []) ∷ (1 ∷ 1 ∷ []) ∷ (1 ∷ 2 ∷ 1 ∷ 100 ∷ [])
          ∷ (1 ∷ 2 ∷ []) ∷ (2 ∷ 4 ∷ 3 ∷ 300 ∷ []) ∷ (1 ∷ 3 ∷ []) ∷ (2 ∷ 4 ∷ 4 ∷ 400 ∷ [])
          ∷ (2 ∷ []) ∷ (0 ∷ 3 ∷ 5 ∷ 500 ∷ []) ∷ (2 ∷ 1 ∷ []) ∷ (1 ∷ 2 ∷ 1 ∷ 100 ∷ [])
          ∷ (2 ∷ 2 ∷ []) ∷ (2 ∷ 4 ∷ 6 ∷ 600 ∷ []) ∷ (3 ∷ []) ∷ (0 ∷ 3 ∷ 8 ∷ 800 ∷ [])
          ∷ (3 ∷ 1 ∷ []) ∷ (1 ∷ 2 ∷ 7 ∷ 700 ∷ []) ∷ [],
    )
    -- P5: verdict 1, entry 1, row 8; 9 lines
    ∷ (judged base A shape5, (0 ∷ 0 ∷ []) ∷ (1 ∷ 1 ∷ 8 ∷ []) ∷ [])
    ∷ (lined A shape5, (0 ∷ 0 ∷ 9 ∷ []) ∷ [])
    -- P6: verdict 2, entries 1 and 2
    ∷ (judged base A (entry 1 portfolio ++ entry 2 lessee ++ entry 2 asset), (0 ∷ 0 ∷ []) ∷ (2 ∷ 1 ∷ 2 ∷ []) ∷ [])
    -- P7: verdict 3, entries 0 and 2; 4 lines
    ∷ (judged base table7 (entry 1 (1 ∷ 3 ∷ []) ++ entry 2 (1 ∷ 3 ∷ 4 ∷ []) ++ entry 3 (1 ∷ 5 ∷ [])), (0 ∷ 0 ∷ []) ∷ (3 ∷ 0 ∷ 2 ∷ []) ∷ [])
    ∷ (lined table7 (entry 1 (1 ∷ 3 ∷ []) ++ entry 2 (1 ∷ 3 ∷ 4 ∷ []) ++ entry 3 (1 ∷ 5 ∷ [])), (0 ∷ 0 ∷ 4 ∷ []) ∷ [])
    -- P8: the types of rows 2 and 4 meet at 1, distance 4
    ∷ (types_meet table8 2 4, (1 ∷ 4 ∷ []) ∷ [])
    -- P9: lease[lease]: verdict 0, 6 lines; portfolio[lease lease]: verdict 2, entries 1 and 2; 7 lines
    ∷ (judged base A (entry 1 lease ++ entry 2 lease), (0 ∷ 0 ∷ []) ∷ (0 ∷ []) ∷ [])
    ∷ (lined A (entry 1 lease ++ entry 2 lease), (0 ∷ 0 ∷ 6 ∷ []) ∷ [])
    ∷ (judged base A (entry 1 portfolio ++ entry 2 lease ++ entry 2 lease), (0 ∷ 0 ∷ []) ∷ (2 ∷ 1 ∷ 2 ∷ []) ∷ [])
    ∷ (lined A (entry 1 portfolio ++ entry 2 lease ++ entry 2 lease), (0 ∷ 0 ∷ 7 ∷ []) ∷ [])
    -- P10: 1 line; verdict 1, entry 1, row 1
    ∷ (lined table10 (entry 1 (2 ∷ []) ++ entry 2 (3 ∷ [])), (0 ∷ 0 ∷ 1 ∷ []) ∷ [])
    ∷ (judged base table10 (entry 1 (2 ∷ []) ++ entry 2 (3 ∷ [])), (0 ∷ 0 ∷ []) ∷ (1 ∷ 1 ∷ 1 ∷ []) ∷ [])
    ∷ []

-- every sample says what document 01 says
pub samples_hold : map (λ (p : List (List ℕ) × List (List ℕ)). p.0) samples ≡ map (λ (p : List (List ℕ) × List (List ℕ)). p.1) samples
unfolding opened files said samples lined listing listed rows_meet types_meet
samples_hold = refl
