-- Further samples, one list under one statement like the marked ones: the numbers of a source list, a new table as a source, the
-- figures of a summary, which entry, row or pair a verdict names, the second answer, and each refusal with its place, alone and
-- beside the next in document 01's order, but 1 and 4, which take a long table (crates/limits). Assumes nothing.
use Rattle.std.specs.Prelude.{ℕ, zero, suc, ◌*◌, ◌≡◌, refl, true, false, List, [], ◌∷◌, ◌++◌, map, take, replicate}
use Rattle.paper.specs.Lists.{joined, padded}
use Rattle.paper.specs.Format.{base, row_bytes}
use Rattle.paper.specs.Calls.{look_up, judge, reshape, summarise}
use Rattle.paper.specs.Opened.{opened}
use Rattle.paper.specs.samples.Files.{row, table, A, table7, table10, entry, portfolio, lessee, lease, asset, shape4, shape5, new4, sources4, lent, files}
use Rattle.paper.specs.samples.Told.{examined, filled, adorned_into, adorned_over, judged, reshaped, rewritten, said}

-- ---- sample files
-- n bytes of zeros
abbrev zeros : ℕ → List ℕ
zeros n = replicate n 0

-- a chain of n rows, each beneath the one before it
abbrev chain : ℕ → List ℕ
chain zero = []
chain (suc n) = chain n ++ row (replicate (suc n) 1) 1 0

-- a 3 of entries 0 and 2 comes before a 2 of entries 0 and 3
abbrev later_apart : List ℕ × List ℕ
later_apart = (
  table 0 ((1 ∷ [], 1) ∷ (1 ∷ 1 ∷ [], 2) ∷ (1 ∷ 1 ∷ 1 ∷ [], 3) ∷ (1 ∷ 2 ∷ [], 2) ∷ []),
  entry 1 (1 ∷ 2 ∷ []) ++ entry 2 (1 ∷ 2 ∷ 3 ∷ []) ++ entry 3 (1 ∷ []) ++ entry 4 (1 ∷ 2 ∷ 3 ∷ []),
)

-- a row that is joined with no other earns a 1, and entries 1 and 2 a 2
abbrev pub orphaned : List ℕ × List ℕ
orphaned = (
  table 0 ((1 ∷ [], 1) ∷ (1 ∷ 1 ∷ [], 2) ∷ (1 ∷ 2 ∷ [], 2) ∷ (2 ∷ [], 3) ∷ []),
  entry 1 portfolio ++ entry 2 lessee ++ entry 2 lessee ++ entry 2 (3 ∷ []),
)

-- one lessee, shown by two entries
abbrev pub single : List ℕ × List ℕ
single = (table 0 ((1 ∷ [], 1) ∷ (1 ∷ 1 ∷ [], 2) ∷ []), entry 1 portfolio ++ entry 2 lessee ++ entry 2 lessee)

-- three portfolios, of which the second has two lessees and the third none
unfoldable roots : List ℕ
roots = table 0 ((1 ∷ [], 1) ∷ (1 ∷ 1 ∷ [], 2) ∷ (2 ∷ [], 1) ∷ (2 ∷ 1 ∷ [], 2) ∷ (2 ∷ 2 ∷ [], 2) ∷ (3 ∷ [], 1) ∷ [])

-- those portfolios beneath their lessees
unfoldable upside_down : List ℕ
upside_down =
    row (1 ∷ []) 2 100 ++ row (1 ∷ 1 ∷ []) 1 0 ++ row (2 ∷ []) 2 300 ++ row (2 ∷ 1 ∷ []) 1 200 ++ row (3 ∷ []) 2 400 ++ row (3 ∷ 1 ∷ []) 1 200

-- an entry whose type no table here has
abbrev stranger : ℕ → List ℕ
stranger l = entry l (99 ∷ [])

-- ---- what the definitions say, as lists of figures
-- number, place, and the part
looked_up : List ℕ → ℕ → List (List ℕ)
unfolding opened
looked_up b i = let r = look_up base b i in (r.number ∷ r.place ∷ []) ∷ r.rest ∷ []

-- number and second answer, yes as 1
second : List ℕ → List ℕ → List (List ℕ)
unfolding opened
second b sb = let r = judge base b sb in (r.number ∷ elim r.rest.none_apart [ true ↦ 1 | false ↦ 0 ] ∷ []) ∷ []

-- number, place and count of lines, with so many bytes and places lent
lined_into : ℕ → ℕ → List ℕ → List ℕ → List (List ℕ)
unfolding opened
lined_into bytes places b sb = let r = (reshape base b sb (zeros bytes) (zeros places)).reply in (r.number ∷ r.place ∷ r.rest ∷ []) ∷ []

-- number, place and count of lines, and the lent bytes and places afterwards
left_in : ℕ → ℕ → List ℕ → List ℕ → List (List ℕ)
unfolding opened
left_in bytes places b sb =
    let r = reshape base b sb (lent bytes) (lent places) in
    (r.reply.number ∷ r.reply.place ∷ r.reply.rest ∷ []) ∷ r.table ∷ r.sources ∷ []

-- the new table
written : List ℕ → List ℕ → List ℕ
unfolding opened
written b sb = let r = reshaped b sb in take (r.reply.rest * row_bytes base) r.table

-- number and place; lines, source rows, copies and different source rows of 16 entries
summed : List ℕ → List ℕ → List (List ℕ)
unfolding opened
summed b sb = let r = summarise base b sb in (r.number ∷ r.place ∷ []) ∷ r.rest.lines ∷ r.rest.rows ∷ r.rest.copies ∷ r.rest.different ∷ []

-- ---- the list: what the definitions say, beside what document 01 says
pub further : List (List (List ℕ) × List (List ℕ))
further =
    -- P4's new table and its source list
    (rewritten base A shape4 (λ b. b), (0 ∷ 0 ∷ []) ∷ new4 ∷ sources4 ∷ [])
    -- that new table is a sound source of 9 rows and 3 types; reshaped again, by lessee, it has 9 lines
    ∷ (examined base new4, (0 ∷ 0 ∷ 9 ∷ []) ∷ [])
    ∷ (adorned_into 3 new4, (0 ∷ 0 ∷ 3 ∷ []) ∷ [])
    ∷ (lined_into 216 9 new4 (entry 1 (3 ∷ 2 ∷ []) ++ entry 2 (3 ∷ []) ++ entry 3 (3 ∷ 4 ∷ [])), (0 ∷ 0 ∷ 9 ∷ []) ∷ [])
    -- two entries of one type beneath one entry are one type of the new table: portfolio[lease lease] has 2
    ∷ (adorned_into 2 (written A (entry 1 portfolio ++ entry 2 lease ++ entry 2 lease)), (0 ∷ 0 ∷ 2 ∷ []) ∷ [])
    -- bytes and places past the last line stay as they were, whatever they hold; where there is no room, all do
    ∷ (left_in 240 12 A shape4, (0 ∷ 0 ∷ 9 ∷ []) ∷ (new4 ++ lent 24) ∷ (sources4 ++ lent 3) ∷ [])
    ∷ (left_in 30 3 A (entry 1 portfolio), (0 ∷ 0 ∷ 1 ∷ []) ∷ (row (1 ∷ []) 1 0 ++ lent 6) ∷ (0 ∷ lent 2) ∷ [])
    ∷ (left_in 23 1 A (entry 1 portfolio), (8 ∷ 0 ∷ 0 ∷ []) ∷ lent 23 ∷ lent 1 ∷ [])
    -- a root type of several rows has their number as both figures; a lent summary past the types stays as it was
    ∷ (
      adorned_over (replicate 3 (filled 7)) roots,
      (0 ∷ 0 ∷ 2 ∷ []) ∷ (64 ∷ 1 ∷ 1 ∷ 3 ∷ 3 ∷ 3 ∷ []) ∷ (0 ∷ 2 ∷ 2 ∷ 3 ∷ 0 ∷ 2 ∷ []) ∷ lent 6 ∷ [],
    )
    -- each of its rows has its own lessees beneath it; beneath the lessees the third is not shown
    ∷ (judged base roots (entry 1 portfolio ++ entry 2 lessee), (0 ∷ 0 ∷ []) ∷ (0 ∷ []) ∷ [])
    ∷ (rewritten base roots (entry 1 portfolio ++ entry 2 lessee) (λ b. b), (0 ∷ 0 ∷ []) ∷ roots ∷ (0 ∷ 65537 ∷ 2 ∷ 65539 ∷ 65540 ∷ 5 ∷ []) ∷ [])
    ∷ (judged base roots (entry 1 lessee ++ entry 2 portfolio), (0 ∷ 0 ∷ []) ∷ (1 ∷ 1 ∷ 5 ∷ []) ∷ [])
    ∷ (left_in 144 6 roots (entry 1 lessee ++ entry 2 portfolio), (0 ∷ 0 ∷ 6 ∷ []) ∷ upside_down ∷ (1 ∷ 65536 ∷ 3 ∷ 65538 ∷ 4 ∷ 65538 ∷ []) ∷ [])
    -- the summary of P4: the lessee of two leases is copied once
    ∷ (
      summed A shape4,
      (0 ∷ 0 ∷ []) ∷ padded 16 (3 ∷ 3 ∷ 3 ∷ []) ∷ padded 16 (3 ∷ 2 ∷ 3 ∷ []) ∷ padded 16 (0 ∷ 1 ∷ 0 ∷ []) ∷ padded 16 (3 ∷ 2 ∷ 3 ∷ []) ∷ [],
    )
    -- of P5: lease row 2 stands twice and row 8 not at all, so that of 3 rows 2 are shown, in 3 lines, and 1 line is a copy
    ∷ (
      summed A shape5,
      (0 ∷ 0 ∷ []) ∷ padded 16 (3 ∷ 3 ∷ 3 ∷ []) ∷ padded 16 (3 ∷ 3 ∷ 2 ∷ []) ∷ padded 16 (0 ∷ 1 ∷ 2 ∷ []) ∷ padded 16 (3 ∷ 2 ∷ 1 ∷ []) ∷ [],
    )
    -- of P10: a row that is not shown is no copy
    ∷ (
      summed table10 (entry 1 (2 ∷ []) ++ entry 2 (3 ∷ [])),
      (0 ∷ 0 ∷ []) ∷ padded 16 (1 ∷ 0 ∷ []) ∷ padded 16 (1 ∷ 1 ∷ []) ∷ zeros 16 ∷ padded 16 (1 ∷ 0 ∷ []) ∷ [],
    )
    -- two entries of one type, lease[asset[lease]]: each counts the rows of its own lines; entry 0 shows three leases, entry 2 two
    ∷ (
      summed A (entry 1 lease ++ entry 2 asset ++ entry 3 lease),
      (0 ∷ 0 ∷ []) ∷ padded 16 (3 ∷ 3 ∷ 3 ∷ []) ∷ padded 16 (3 ∷ 3 ∷ 3 ∷ []) ∷ padded 16 (0 ∷ 0 ∷ 1 ∷ []) ∷ padded 16 (3 ∷ 3 ∷ 2 ∷ []) ∷ [],
    )
    -- refused, a summary holds zeros
    ∷ (summed A (entry 1 lease ++ stranger 2), (7 ∷ 1 ∷ []) ∷ zeros 16 ∷ zeros 16 ∷ zeros 16 ∷ zeros 16 ∷ [])
    -- verdict 1 names the first entry, whatever the rows: entry 1 has row 1 alone, and entry 2 row 0
    ∷ (judged base table10 (entry 1 (2 ∷ []) ++ entry 2 (3 ∷ []) ++ entry 3 (2 ∷ [])), (0 ∷ 0 ∷ []) ∷ (1 ∷ 1 ∷ 1 ∷ []) ∷ [])
    -- pairs are taken by e, then f: entries 0 and 3 earn a 2, and so do 1 and 2
    ∷ (
      judged base (table 0 ((1 ∷ [], 1) ∷ (1 ∷ 1 ∷ [], 2) ∷ (1 ∷ 2 ∷ [], 3) ∷ []))
          (entry 1 (1 ∷ 2 ∷ []) ++ entry 2 (1 ∷ 3 ∷ []) ++ entry 2 (1 ∷ 3 ∷ []) ++ entry 3 (1 ∷ 2 ∷ [])),
      (0 ∷ 0 ∷ []) ∷ (2 ∷ 0 ∷ 3 ∷ []) ∷ [],
    )
    -- the first pair decides, whatever it earns: entries 0 and 2 earn a 3, and 0 and 3 a 2
    ∷ (judged base later_apart.0 later_apart.1, (0 ∷ 0 ∷ []) ∷ (3 ∷ 0 ∷ 2 ∷ []) ∷ [])
    -- the second answer: yes in P4, in P5 beside verdict 1, in P7 beside verdict 3 and in P10; no in P6, in P9 and, refused, in P1
    ∷ (second A shape4, (0 ∷ 1 ∷ []) ∷ [])
    ∷ (second A shape5, (0 ∷ 1 ∷ []) ∷ [])
    ∷ (second A (entry 1 portfolio ++ entry 2 lessee ++ entry 2 asset), (0 ∷ 0 ∷ []) ∷ [])
    ∷ (second table7 (entry 1 (1 ∷ 3 ∷ []) ++ entry 2 (1 ∷ 3 ∷ 4 ∷ []) ++ entry 3 (1 ∷ 5 ∷ [])), (0 ∷ 1 ∷ []) ∷ [])
    ∷ (second A (entry 1 portfolio ++ entry 2 lease ++ entry 2 lease), (0 ∷ 0 ∷ []) ∷ [])
    ∷ (second table10 (entry 1 (2 ∷ []) ++ entry 2 (3 ∷ [])), (0 ∷ 1 ∷ []) ∷ [])
    ∷ (second [] (entry 1 (3 ∷ []) ++ entry 2 (2 ∷ []) ++ entry 2 (4 ∷ [])), (7 ∷ 0 ∷ []) ∷ [])
    -- no, for a 2 that comes later than the pair that the verdict names
    ∷ (second later_apart.0 later_apart.1, (0 ∷ 0 ∷ []) ∷ [])
    -- no, for a 2 that comes after a verdict 1
    ∷ (judged base orphaned.0 orphaned.1, (0 ∷ 0 ∷ []) ∷ (1 ∷ 3 ∷ 3 ∷ []) ∷ [])
    ∷ (second orphaned.0 orphaned.1, (0 ∷ 0 ∷ []) ∷ [])
    -- no, though the one lessee is closest to itself
    ∷ (second single.0 single.1, (0 ∷ 0 ∷ []) ∷ [])
    -- 2; beside 3
    ∷ (examined base (zeros 1), (2 ∷ 0 ∷ 0 ∷ []) ∷ [])
    ∷ (examined base (zeros 25), (2 ∷ 0 ∷ 0 ∷ []) ∷ [])
    -- 3 at the first bad row: label 99 passes, 100 does not, and so levels 6 and 7; beside 11
    ∷ (examined base (zeros 24), (3 ∷ 0 ∷ 0 ∷ []) ∷ [])
    ∷ (examined base (A ++ zeros 48), (3 ∷ 9 ∷ 0 ∷ []) ∷ [])
    ∷ (examined base (row (1 ∷ []) 99 0), (0 ∷ 0 ∷ 1 ∷ []) ∷ [])
    ∷ (examined base (row (1 ∷ []) 100 0), (3 ∷ 0 ∷ 0 ∷ []) ∷ [])
    ∷ (examined base (chain 6), (0 ∷ 0 ∷ 6 ∷ []) ∷ [])
    ∷ (examined base (chain 6 ++ row (1 ∷ 1 ∷ 1 ∷ 1 ∷ 1 ∷ 2 ∷ 0 ∷ []) 1 0), (3 ∷ 6 ∷ 0 ∷ []) ∷ [])
    ∷ (looked_up (zeros 24) 1, (3 ∷ 0 ∷ []) ∷ [] ∷ [])
    -- 5: no entry, 17 entries, 16 pass; beside 6
    ∷ (judged base (row (1 ∷ []) 1 0) (entry 1 portfolio ++ joined (replicate 15 (entry 2 portfolio))), (0 ∷ 0 ∷ []) ∷ (0 ∷ []) ∷ [])
    ∷ (judged base [] [], (5 ∷ 0 ∷ []) ∷ (0 ∷ []) ∷ [])
    ∷ (judged base [] (zeros 272), (5 ∷ 0 ∷ []) ∷ (0 ∷ []) ∷ [])
    ∷ (judged base [] (zeros 17), (5 ∷ 0 ∷ []) ∷ (0 ∷ []) ∷ [])
    -- 6 at the first bad entry; beside 7
    ∷ (judged base A (entry 1 lease ++ zeros 32), (6 ∷ 1 ∷ []) ∷ (0 ∷ []) ∷ [])
    ∷ (judged base A (stranger 1 ++ zeros 16), (6 ∷ 1 ∷ []) ∷ (0 ∷ []) ∷ [])
    -- 7 at the first entry without a row; beside 8
    ∷ (judged base A (entry 1 lease ++ stranger 2 ++ stranger 2), (7 ∷ 1 ∷ []) ∷ (0 ∷ []) ∷ [])
    ∷ (lined_into 0 0 A (entry 1 lease ++ stranger 2), (7 ∷ 1 ∷ 0 ∷ []) ∷ [])
    -- 8: a byte short, a place short; just enough
    ∷ (lined_into 23 1 A (entry 1 portfolio), (8 ∷ 0 ∷ 0 ∷ []) ∷ [])
    ∷ (lined_into 24 0 A (entry 1 portfolio), (8 ∷ 0 ∷ 0 ∷ []) ∷ [])
    ∷ (lined_into 24 1 A (entry 1 portfolio), (0 ∷ 0 ∷ 1 ∷ []) ∷ [])
    -- 10: a summary short; just enough
    ∷ (adorned_into 3 A, (10 ∷ 0 ∷ 0 ∷ []) ∷ [])
    ∷ (adorned_into 4 A, (0 ∷ 0 ∷ 4 ∷ []) ∷ [])
    -- 11 at the row asked for; the last row there is
    ∷ (looked_up A 9, (11 ∷ 9 ∷ []) ∷ [] ∷ [])
    ∷ (looked_up A 300, (11 ∷ 300 ∷ []) ∷ [] ∷ [])
    ∷ (looked_up A 8, (0 ∷ 0 ∷ []) ∷ row (1 ∷ 2 ∷ 1 ∷ []) 3 800 ∷ [])
    ∷ []

-- every sample says what document 01 says
pub further_hold : map (λ (p : List (List ℕ) × List (List ℕ)). p.0) further ≡ map (λ (p : List (List ℕ) × List (List ℕ)). p.1) further
unfolding opened files said further looked_up second lined_into left_in written summed roots upside_down
further_hold = refl
