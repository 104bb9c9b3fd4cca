-- Sample files: the tables, types and shapes of document 01, and the words that write such files. Assumes nothing.
use Rattle.std.specs.Prelude.{ℕ, zero, suc, ◌*◌, List, [], ◌∷◌, ◌++◌, length, replicate}
use Rattle.paper.specs.Lists.{join_map, padded}
use Rattle.paper.specs.Format.{base, value_bytes, bytes}
use Rattle.paper.specs.Tables.{row_back}
use Rattle.paper.specs.Opened.{opened}

-- ---- tables
-- a row with its Dewey number, label and value
unfoldable pub row : List ℕ → ℕ → ℕ → List ℕ
unfolding opened
row d l v =
    row_back (record { level = length d; spare = 0; label = l; components = padded base.levels d; value = bytes value_bytes v })

-- number:label, row by row from row k; row k has value 100 × k
unfoldable pub table : ℕ → List (List ℕ × ℕ) → List ℕ
table k [] = []
table k (x ∷ xs) = row x.0 x.1 (100 * k) ++ table (suc k) xs

-- table A
unfoldable pub A : List ℕ
A = table 0 ((1 ∷ [], 1) ∷ (1 ∷ 1 ∷ [], 2) ∷ (1 ∷ 1 ∷ 1 ∷ [], 3) ∷ (1 ∷ 1 ∷ 1 ∷ 1 ∷ [], 4) ∷ (1 ∷ 1 ∷ 1 ∷ 2 ∷ [], 4)
    ∷ (1 ∷ 1 ∷ 2 ∷ [], 3) ∷ (1 ∷ 1 ∷ 2 ∷ 1 ∷ [], 4) ∷ (1 ∷ 2 ∷ [], 2) ∷ (1 ∷ 2 ∷ 1 ∷ [], 3) ∷ [])

-- the tables of P7, P8 and P10
unfoldable pub table7 : List ℕ
table7 = table 0 ((1 ∷ [], 1) ∷ (1 ∷ 1 ∷ [], 3) ∷ (1 ∷ 1 ∷ 1 ∷ [], 4) ∷ (1 ∷ 2 ∷ [], 3) ∷ (1 ∷ 3 ∷ [], 5) ∷ [])

unfoldable pub table8 : List ℕ
table8 = table 0 ((1 ∷ [], 1) ∷ (1 ∷ 1 ∷ [], 2) ∷ (1 ∷ 1 ∷ 1 ∷ [], 3) ∷ (1 ∷ 2 ∷ [], 2) ∷ (1 ∷ 2 ∷ 1 ∷ [], 4) ∷ [])

unfoldable pub table10 : List ℕ
table10 = table 0 ((1 ∷ [], 2) ∷ (2 ∷ [], 3) ∷ [])

-- n trees of one row each, the tree k + 1 with label k and so on
unfoldable pub trees : ℕ → ℕ → List ℕ
trees k zero = []
trees k (suc n) = row (suc k ∷ []) k 0 ++ trees (suc k) n

-- n types, of which the first has two rows
unfoldable pub typed : ℕ → List ℕ
typed n = row (1 ∷ []) 1 0 ++ trees 1 n

-- ---- shapes
-- an entry with its level and its type
unfoldable pub entry : ℕ → List ℕ → List ℕ
unfolding opened
entry l k = l ∷ length k ∷ 0 ∷ 0 ∷ join_map (bytes 2) (padded base.levels k)

-- the types of A
unfoldable pub portfolio : List ℕ
portfolio = 1 ∷ []

unfoldable pub lessee : List ℕ
lessee = 1 ∷ 2 ∷ []

unfoldable pub lease : List ℕ
lease = 1 ∷ 2 ∷ 3 ∷ []

unfoldable pub asset : List ℕ
asset = 1 ∷ 2 ∷ 3 ∷ 4 ∷ []

-- the shape of P4, and that of P5
unfoldable pub shape4 : List ℕ
shape4 = entry 1 lease ++ entry 2 lessee ++ entry 2 asset

unfoldable pub shape5 : List ℕ
shape5 = entry 1 asset ++ entry 2 lease ++ entry 3 lessee

-- ---- what P4 leaves
-- its new table, line by line
unfoldable pub new4 : List ℕ
new4 =
    row (1 ∷ []) 3 200 ++ row (1 ∷ 1 ∷ []) 2 100 ++ row (1 ∷ 2 ∷ []) 4 300 ++ row (1 ∷ 3 ∷ []) 4 400 ++ row (2 ∷ []) 3 500
    ++ row (2 ∷ 1 ∷ []) 2 100 ++ row (2 ∷ 2 ∷ []) 4 600 ++ row (3 ∷ []) 3 800 ++ row (3 ∷ 1 ∷ []) 2 700

-- its source list: entry × 65,536 + source row
unfoldable pub sources4 : List ℕ
sources4 = 2 ∷ 65537 ∷ 131075 ∷ 131076 ∷ 5 ∷ 65537 ∷ 131078 ∷ 8 ∷ 65543 ∷ []

-- ---- room
-- n lent bytes or places, each of 7
unfoldable pub lent : ℕ → List ℕ
lent n = replicate n 7

-- One name that opens them all.
unfoldable pub files : Unit {0}
unfolding row table A table7 table8 table10 trees typed entry portfolio lessee lease asset shape4 shape5 new4 sources4 lent
files = tt
