-- Document 02, request 4: an index beside a table, two lists of one place a row, and the calls with one. Assumes nothing.
use Rattle.std.specs.Prelude.{ℕ, Bool, not, ◌&&◌, ◌||◌, List, map, eqb, ltb, length, get_or}
use Rattle.std.proofs.Math.Option.{Option}
use Rattle.paper.specs.Lists.{keep, first_or, last_or, first_place}
use Rattle.paper.specs.Format.{Format}
use Rattle.paper.specs.Tables.{Row}
use Rattle.paper.specs.Closeness.{Node, nodes, level, meet}
use Rattle.paper.specs.Figures.{Figures}
use Rattle.paper.specs.Verdict.{Judgement}
use Rattle.paper.specs.Calls.{Answer, given, ◌>>=◌, refuse, refuse_at, Reply, reply, after, tests1_3, tests1_4}
use Rattle.paper.specs.Calls.{judge_rows, Reshaping, reshape_rows, summarise_rows}

-- ---- the two lists
-- what stands for no row
abbrev pub no_row : ℕ
no_row = 65535

-- s is row r or one of its descendants: its Dewey number begins with r's
abbrev pub descends : Node → Node → Bool
descends r s = eqb (meet r s) (level r)

-- s stands after row r and is of the same type
abbrev pub repeats : Node → Node → Bool
repeats r s = ltb r.place s.place && eqb s.kind r.kind

abbrev pub places : List Node → List ℕ
places t = map (λ (r : Node). r.place) t

-- the row's last descendant (itself if none)
unfoldable pub last_descendant : List Node → Node → ℕ
last_descendant t r = last_or r.place (places (keep (descends r) t))

-- the next row of the same type, 65,535 for none
unfoldable pub next_of_type : List Node → Node → ℕ
next_of_type t r = first_or no_row (places (keep (repeats r) t))

pub record Index : Type 0 where
  pub last : List ℕ
  pub next : List ℕ

-- the index of a table
unfoldable pub index_of : List Node → Index
index_of t = record { last = map (last_descendant t) t; next = map (next_of_type t) t }

-- ---- the refusals
-- 14: either list is shorter than the table
abbrev pub too_short : List Row → List ℕ → List ℕ → Bool
too_short rs last next = ltb (length last) (length rs) || ltb (length next) (length rs)

-- either list is wrong at row r
unfoldable pub wrong_at : List Node → List ℕ → List ℕ → Node → Bool
wrong_at t last next r = not (eqb (get_or last r.place 0) (last_descendant t r)) || not (eqb (get_or next r.place 0) (next_of_type t r))

-- 15: the lists lent for reading are not this table's, with the first wrong row
unfoldable pub wrong_row : List Node → List ℕ → List ℕ → Option ℕ
wrong_row t last next = first_place (wrong_at t last next) t

-- 1 to 4, then 14 and 15, and the rows
unfoldable pub tests_index : Format → List ℕ → List ℕ → List ℕ → Answer (List Row)
tests_index f b last next = do
  rs ← tests1_4 f b
  _ ← refuse 14 (too_short rs last next)
  _ ← refuse_at 15 (wrong_row (nodes rs) last next)
  given rs

-- ---- the builder
-- 1 to 3, then 14, and the index
unfoldable pub building : Format → List ℕ → List ℕ → List ℕ → Answer Index
building f b last next = do
  rs ← tests1_3 f b
  _ ← refuse 14 (too_short rs last next)
  given (index_of (nodes rs))

-- Building adds the count of rows.
pub record Built : Type 0 where
  pub reply : Reply ℕ
  pub last : List ℕ  -- the lent places of either list afterwards
  pub next : List ℕ

unfoldable pub build_index : Format → List ℕ → List ℕ → List ℕ → Built
build_index f b last next =
    let a = building f b last next in
    record {
      reply = reply 0 (do x ← a; given (length x.last));
      last = after last (do x ← a; given x.last);
      next = after next (do x ← a; given x.next);
    }

-- ---- the calls with an index: each reads its rows by 1 to 4, 14 and 15
unfoldable pub judge_with : Format → List ℕ → List ℕ → List ℕ → List ℕ → Reply Judgement
judge_with f b sb last next = judge_rows f (tests_index f b last next) sb

unfoldable pub summarise_with : Format → List ℕ → List ℕ → List ℕ → List ℕ → Reply Figures
summarise_with f b sb last next = summarise_rows f (tests_index f b last next) sb

unfoldable pub reshape_with : Format → List ℕ → List ℕ → List ℕ → List ℕ → List ℕ → List ℕ → Reshaping
reshape_with f b sb last next table sources = reshape_rows f (tests_index f b last next) sb table sources
