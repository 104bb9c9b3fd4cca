-- Samples of request 10, one list under one statement like the marked ones: a table and its shape converted, judged and reshaped as before, at
-- both widths, and each refusal with its place, alone and beside the next. Assumes nothing.
use Rattle.std.specs.Prelude.{ℕ, ◌*◌, ◌≡◌, refl, List, [], ◌∷◌, ◌++◌, map}
use Rattle.paper.specs.Format.{base, eight}
use Rattle.paper.specs.Widths.{table_to, shape_to}
use Rattle.paper.specs.Labels.{old_range, pairs, table_with, Converting, convert}
use Rattle.paper.specs.Opened.{opened}
use Rattle.paper.specs.samples.Files.{row, table, entry, lent, files}
use Rattle.paper.specs.samples.Told.{added, examined, judged, rewritten, said}

-- ---- sample files
-- portfolio over two machines (label 100), each over a meter (label 999); x and y stand for 100 and 999
abbrev tape : ℕ → ℕ → List ℕ
tape x y =
    table 0 ((1 ∷ [], 1) ∷ (1 ∷ 1 ∷ [], x) ∷ (1 ∷ 1 ∷ 1 ∷ [], y) ∷ (1 ∷ 2 ∷ [], x) ∷ (1 ∷ 2 ∷ 1 ∷ [], y) ∷ (1 ∷ 2 ∷ 2 ∷ [], y) ∷ [])

-- the meters over their machines
abbrev wanted : ℕ → ℕ → List ℕ
wanted x y = entry 1 (1 ∷ x ∷ y ∷ []) ++ entry 2 (1 ∷ x ∷ [])

-- one row with label x, and an entry whose type it is
abbrev one : ℕ → List ℕ
one x = row (1 ∷ []) x 0

abbrev only : ℕ → List ℕ
only x = entry 1 (x ∷ [])

-- ---- what the definitions say, as lists of figures
-- number, place and the counts of rows and entries, and the lent bytes afterwards
told : Converting → List (List ℕ)
told c = (c.reply.number ∷ c.reply.place ∷ c.reply.rest.rows ∷ c.reply.rest.entries ∷ []) ∷ c.table ∷ c.shape ∷ []

-- with bytes lent for n rows and m entries
abbrev told_in : ℕ → ℕ → List ℕ → List ℕ → List ℕ → List (List ℕ)
told_in n m b s numbers = told (convert base b s numbers (lent (24 * n)) (lent (16 * m)))

-- number and place, with no byte lent
refusal : List ℕ → List ℕ → List ℕ → List (List ℕ)
unfolding added
refusal b s numbers = let r = (convert base b s numbers [] []).reply in (r.number ∷ r.place ∷ []) ∷ []

-- 100 becomes 21 and 999 becomes 99; 500 occurs nowhere
abbrev three : List ℕ
three = 100 ∷ 21 ∷ 500 ∷ 7 ∷ 999 ∷ 99 ∷ []

-- ---- the list: what the definitions say, beside what request 10 says
pub labels : List (List (List ℕ) × List (List ℕ))
labels =
    -- the labels are converted, and every other byte stays; a byte lent past what is written stays too
    (told_in 6 2 (tape 100 999) (wanted 100 999) three, (0 ∷ 0 ∷ 6 ∷ 2 ∷ []) ∷ tape 21 99 ∷ wanted 21 99 ∷ [])
    ∷ (told_in 7 3 (tape 100 999) (wanted 100 999) three, (0 ∷ 0 ∷ 6 ∷ 2 ∷ []) ∷ (tape 21 99 ++ lent 24) ∷ (wanted 21 99 ++ lent 16) ∷ [])
    -- so at the wide width
    ∷ (
      told (convert eight (table_to base eight (tape 100 999)) (shape_to base eight (wanted 100 999)) three (lent 168) (lent 40)),
      (0 ∷ 0 ∷ 6 ∷ 2 ∷ []) ∷ table_to base eight (tape 21 99) ∷ shape_to base eight (wanted 21 99) ∷ [],
    )
    -- before it the table is sound on the old range and breaks a rule on the new one; after it, it is sound on the new one
    ∷ (examined (old_range base) (tape 100 999), (0 ∷ 0 ∷ 6 ∷ []) ∷ [])
    ∷ (examined base (tape 100 999), (3 ∷ 1 ∷ 0 ∷ []) ∷ [])
    ∷ (examined base (tape 21 99), (0 ∷ 0 ∷ 6 ∷ []) ∷ [])
    ∷ (examined (old_range base) (one 1000), (3 ∷ 0 ∷ 0 ∷ []) ∷ [])
    -- it is judged and reshaped as before, and the new table's labels are the converted ones
    ∷ (judged base (tape 21 99) (wanted 21 99), judged (old_range base) (tape 100 999) (wanted 100 999))
    ∷ (
      rewritten base (tape 21 99) (wanted 21 99) (λ b. b),
      rewritten (old_range base) (tape 100 999) (wanted 100 999) (table_with base (pairs three)),
    )
    -- a table without rows; labels to 99 need no list
    ∷ (told_in 0 1 [] (only 100) (100 ∷ 1 ∷ []), (0 ∷ 0 ∷ 0 ∷ 1 ∷ []) ∷ [] ∷ only 1 ∷ [])
    ∷ (told_in 1 1 (one 99) (only 1) [], (0 ∷ 0 ∷ 1 ∷ 1 ∷ []) ∷ one 99 ∷ only 1 ∷ [])
    -- 2, 3, 5 and 6 on the old range, each before the next and all before 25
    ∷ (refusal (lent 25) [] (1 ∷ []), (2 ∷ 0 ∷ []) ∷ [])
    ∷ (refusal (one 1 ++ one 1) [] (1 ∷ []), (3 ∷ 1 ∷ []) ∷ [])
    ∷ (refusal (one 1000) (only 1) [], (3 ∷ 0 ∷ []) ∷ [])
    ∷ (refusal (one 1) (lent 17) (1 ∷ []), (5 ∷ 0 ∷ []) ∷ [])
    ∷ (refusal (one 1) (only 1 ++ only 1) (1 ∷ []), (6 ∷ 1 ∷ []) ∷ [])
    ∷ (refusal (one 1) (only 1000) [], (6 ∷ 0 ∷ []) ∷ [])
    -- 25: an old label below 100 or above 999; a new one of 0 or above 99
    ∷ (refusal (one 1) (only 1) (100 ∷ 2 ∷ 99 ∷ 3 ∷ []), (25 ∷ 1 ∷ []) ∷ [])
    ∷ (refusal (one 1) (only 1) (999 ∷ 2 ∷ 1000 ∷ 3 ∷ []), (25 ∷ 1 ∷ []) ∷ [])
    ∷ (refusal (one 1) (only 1) (100 ∷ 0 ∷ []), (25 ∷ 0 ∷ []) ∷ [])
    ∷ (refusal (one 1) (only 1) (100 ∷ 99 ∷ 101 ∷ 100 ∷ []), (25 ∷ 1 ∷ []) ∷ [])
    -- a new label that occurs in the table, or in the shape only; its old label need not occur
    ∷ (refusal (one 5) (only 6) (100 ∷ 7 ∷ 101 ∷ 5 ∷ []), (25 ∷ 1 ∷ []) ∷ [])
    ∷ (refusal (one 5) (only 6) (100 ∷ 7 ∷ 101 ∷ 6 ∷ []), (25 ∷ 1 ∷ []) ∷ [])
    -- of two pairs that share an old label, or a new one, the later
    ∷ (refusal (one 1) (only 1) (100 ∷ 2 ∷ 101 ∷ 3 ∷ 100 ∷ 4 ∷ []), (25 ∷ 2 ∷ []) ∷ [])
    ∷ (refusal (one 1) (only 1) (100 ∷ 2 ∷ 101 ∷ 3 ∷ 102 ∷ 2 ∷ []), (25 ∷ 2 ∷ []) ∷ [])
    -- a half pair, at its own number; a pair before it that breaks a rule comes first
    ∷ (refusal (one 1) (only 1) (100 ∷ []), (25 ∷ 0 ∷ []) ∷ [])
    ∷ (refusal (one 1) (only 1) (100 ∷ 2 ∷ 101 ∷ 3 ∷ 102 ∷ []), (25 ∷ 2 ∷ []) ∷ [])
    ∷ (refusal (one 1) (only 1) (100 ∷ 2 ∷ 101 ∷ 2 ∷ 102 ∷ []), (25 ∷ 1 ∷ []) ∷ [])
    -- 25 before 26; 26 with the first row, though an entry before it is at fault; else with the first entry; 26 before 29
    ∷ (refusal (one 500) (only 500) (100 ∷ []), (25 ∷ 0 ∷ []) ∷ [])
    ∷ (refusal (tape 100 999) (only 500) (100 ∷ 2 ∷ []), (26 ∷ 2 ∷ []) ∷ [])
    ∷ (refusal (tape 100 999) (wanted 1 1 ++ entry 2 (1 ∷ 500 ∷ [])) (100 ∷ 2 ∷ 999 ∷ 3 ∷ []), (26 ∷ 2 ∷ []) ∷ [])
    -- 29: a byte short for the table, or for the shape; no lent byte changes
    ∷ (told (convert base (one 100) (only 100) (100 ∷ 1 ∷ []) (lent 23) (lent 16)), (29 ∷ 0 ∷ 0 ∷ 0 ∷ []) ∷ lent 23 ∷ lent 16 ∷ [])
    ∷ (told (convert base (one 100) (only 100) (100 ∷ 1 ∷ []) (lent 24) (lent 15)), (29 ∷ 0 ∷ 0 ∷ 0 ∷ []) ∷ lent 24 ∷ lent 15 ∷ [])
    ∷ []

-- every sample says what request 10 says
pub labels_hold : map (λ (p : List (List ℕ) × List (List ℕ)). p.0) labels ≡ map (λ (p : List (List ℕ) × List (List ℕ)). p.1) labels
unfolding opened added files said labels told refusal
labels_hold = refl
