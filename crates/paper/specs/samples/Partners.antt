-- Samples of request 5, one list under one statement like the marked ones: the numbers of each edge, both ways. Assumes nothing.
use Rattle.std.specs.Prelude.{ℕ, ◌≡◌, refl, List, [], ◌∷◌, ◌++◌, map, length, get_or, replicate}
use Rattle.paper.specs.Lists.{count}
use Rattle.paper.specs.Format.{base, most_entries}
use Rattle.paper.specs.Partners.{EdgeNumbers}
use Rattle.paper.specs.Calls.{judge}
use Rattle.paper.specs.Opened.{opened}
use Rattle.paper.specs.samples.Files.{entry, A, table7, table10, portfolio, lessee, lease, asset, shape4, shape5, files}

-- of each of the first n entries: least and greatest children under a parent row, least and greatest parents of a child row
edged : List ℕ → List ℕ → ℕ → List (List ℕ)
unfolding opened
edged b sb n =
    let x : EdgeNumbers = (judge base b sb).rest.edges in
    map (λ e. get_or x.least_children e 0 ∷ get_or x.greatest_children e 0 ∷ get_or x.least_parents e 0 ∷ get_or x.greatest_parents e 0 ∷ []) (count 0 n)

-- how many places each list has
places : List ℕ → List ℕ → List (List ℕ)
unfolding opened
places b sb =
    let x : EdgeNumbers = (judge base b sb).rest.edges in
    (length x.least_children ∷ length x.greatest_children ∷ length x.least_parents ∷ length x.greatest_parents ∷ []) ∷ []

-- no numbers
none : List ℕ
none = 0 ∷ 0 ∷ 0 ∷ 0 ∷ []

pub samples : List (List (List ℕ) × List (List ℕ))
samples =
    -- P4: `edge 1 1 1 1 2` and `edge 2 0 2 1 1`: lease 8 has no asset; entry 0 and entries past the last hold zeros
    (
      edged A shape4 most_entries,
      none ∷ (1 ∷ 1 ∷ 1 ∷ 2 ∷ []) ∷ (0 ∷ 2 ∷ 1 ∷ 1 ∷ []) ∷ replicate 13 none,
    )
    ∷ (places A shape4, (16 ∷ 16 ∷ 16 ∷ 16 ∷ []) ∷ [])
    -- P5, verdict 1 at entry 1: all edges. Lease 8 has no asset for a parent; lessee 7 has lease 8, which no line shows
    ∷ (edged A shape5 4, none ∷ (1 ∷ 1 ∷ 0 ∷ 2 ∷ []) ∷ (1 ∷ 1 ∷ 1 ∷ 2 ∷ []) ∷ none ∷ [])
    -- P6, verdict 2: both edges
    ∷ (edged A (entry 1 portfolio ++ entry 2 lessee ++ entry 2 asset) 3, none ∷ (2 ∷ 2 ∷ 1 ∷ 1 ∷ []) ∷ (3 ∷ 3 ∷ 1 ∷ 1 ∷ []) ∷ [])
    -- P7, verdict 3: of two leases one has an asset; an asset and a payment meet in their portfolio
    ∷ (edged table7 (entry 1 (1 ∷ 3 ∷ []) ++ entry 2 (1 ∷ 3 ∷ 4 ∷ []) ++ entry 3 (1 ∷ 5 ∷ [])) 3, none ∷ (0 ∷ 1 ∷ 1 ∷ 1 ∷ []) ∷ (1 ∷ 1 ∷ 1 ∷ 1 ∷ []) ∷ [])
    -- P9, lease[lease]: a row is its own closest row
    ∷ (edged A (entry 1 lease ++ entry 2 lease) 2, none ∷ (1 ∷ 1 ∷ 1 ∷ 1 ∷ []) ∷ [])
    -- P10: types that do not meet
    ∷ (edged table10 (entry 1 (2 ∷ []) ++ entry 2 (3 ∷ [])) 2, none ∷ none ∷ [])
    -- P1, refused: zeros
    ∷ (edged [] (entry 1 (3 ∷ []) ++ entry 2 (2 ∷ []) ++ entry 2 (4 ∷ [])) most_entries, replicate 16 none)
    ∷ []

-- every sample says what document 02 says
pub samples_hold : map (λ (p : List (List ℕ) × List (List ℕ)). p.0) samples ≡ map (λ (p : List (List ℕ) × List (List ℕ)). p.1) samples
unfolding opened files samples edged places none
samples_hold = refl
