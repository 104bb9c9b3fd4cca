-- The six calls: the refusals in the order they are tested, and the whole answer of each call for every input. Assumes nothing.
use Rattle.std.specs.Prelude.{ℕ, suc, ◌*◌, ◌%◌, min, Bool, true, false, not, ◌||◌, List, [], ◌++◌, eqb, ltb, length, get_or, drop}
use Rattle.std.proofs.Math.Option.{Option, none, some}
use Rattle.paper.specs.Lists.{any, place, first_place, same}
use Rattle.paper.specs.Format.{Format, most_rows, most_types, most_entries, most_lines, row_bytes, entry_bytes, whole}
use Rattle.paper.specs.Tables.{Row, rows, row_part, bad_row, row_types, types}
use Rattle.paper.specs.Closeness.{Node, nodes}
use Rattle.paper.specs.Shapes.{Entry, Shape, entries, named, bad_entry, shape_over}
use Rattle.paper.specs.Adorned.{Summary, adorned}
use Rattle.paper.specs.NewTable.{Line, lines, new_table, source_list}
use Rattle.paper.specs.Figures.{Figures, figures, no_figures}
use Rattle.paper.specs.Partners.{no_edges}
use Rattle.paper.specs.Verdict.{Judgement, kept, judgement}

-- ---- answers
-- A refusal with its number and place, or what is given.
pub data Answer (A : Type 0) : Type 0 where
  refused : ℕ → ℕ → Answer A
  given : A → Answer A

infixl 10 ◌>>=◌
-- the next test, unless this one refuses
abbrev pub ◌>>=◌ : {A B : Type 0} → Answer A → (A → Answer B) → Answer B
◌>>=◌ (refused k p) next = refused k p
◌>>=◌ (given a) next = next a

-- refusal k at place 0
abbrev pub refuse : ℕ → Bool → Answer (Unit {0})
refuse k true = refused k 0
refuse k false = given tt

-- refusal k at the place found
abbrev pub refuse_at : ℕ → Option ℕ → Answer (Unit {0})
refuse_at k none = given tt
refuse_at k (some p) = refused k p

-- An accepted call returns number 0 and place 0; a refused one its number and place, zeros elsewhere.
pub record Reply (A : Type 0) : Type 0 where
  pub number : ℕ
  pub place : ℕ
  pub rest : A

abbrev pub reply : {A : Type 0} → A → Answer A → Reply A
reply zeros (refused k p) = record { number = k; place = p; rest = zeros }
reply zeros (given a) = record { number = 0; place = 0; rest = a }

-- What a lent list holds afterwards: what is given stands at its front, and places past that stay as they were. Refused, none
-- changes.
abbrev pub after : {A : Type 0} → List A → Answer (List A) → List A
after before (refused k p) = before
after before (given new) = new ++ drop (length new) before

-- ---- the refusals, in the order they are tested; number 9 is unused
-- the first row of the 65th type
unfoldable pub type_too_many : List Row → Option ℕ
type_too_many rs =
    let ts = types rs in
    elim (ltb most_types (length ts)) [ true ↦ some (place (same (get_or ts most_types [])) (row_types rs)) | false ↦ none ]

-- the first entry whose type has no row
unfoldable pub type_missing : List Row → List Entry → Option ℕ
type_missing rs es = first_place (λ e. not (any (same (named e)) (types rs))) es

-- 1 to 3, and the rows
unfoldable pub tests1_3 : Format → List ℕ → Answer (List Row)
tests1_3 f b = do
  _ ← refuse 1 (ltb (most_rows * row_bytes f) (length b))
  _ ← refuse 2 (not (eqb (length b % row_bytes f) 0))
  let rs = rows f b
  _ ← refuse_at 3 (bad_row f rs)
  given rs

-- 1 to 4, and the rows
unfoldable pub tests1_4 : Format → List ℕ → Answer (List Row)
tests1_4 f b = do
  rs ← tests1_3 f b
  _ ← refuse_at 4 (type_too_many rs)
  given rs

-- 5 and 6, and the entries
unfoldable pub tests5_6 : Format → List ℕ → Answer (List Entry)
tests5_6 f b = do
  _ ← refuse 5 (eqb (length b) 0 || ltb (most_entries * entry_bytes f) (length b) || not (eqb (length b % entry_bytes f) 0))
  let es = entries f b
  _ ← refuse_at 6 (bad_entry f es)
  given es

-- What judging, reshaping and summarising work on.
pub record Work : Type 0 where
  pub rows : List Row
  pub nodes : List Node
  pub shape : Shape

-- 5 to 7, for rows that were read: by 1 to 4, or by 1 to 4 and tests of what is lent beside the table
unfoldable pub tests5_7 : Format → Answer (List Row) → List ℕ → Answer Work
tests5_7 f read sb = do
  rs ← read
  es ← tests5_6 f sb
  _ ← refuse_at 7 (type_missing rs es)
  given (record { rows = rs; nodes = nodes rs; shape = shape_over (types rs) es })

-- 1 to 7
abbrev pub tests1_7 : Format → List ℕ → List ℕ → Answer Work
tests1_7 f b sb = tests5_7 f (tests1_4 f b) sb

-- 8, and the lines
unfoldable pub test8 : Format → Work → ℕ → Answer (List Line)
test8 f w room = do
  let ls = lines w.nodes w.shape f.levels
  _ ← refuse 8 (ltb room (length ls))
  given ls

-- ---- the calls
-- Examining adds the count of rows.
unfoldable pub examine : Format → List ℕ → Reply ℕ
examine f b = reply 0 do
  rs ← tests1_3 f b
  given (length rs)

-- Look-up gives back the row's own bytes of the caller's table; refused, an empty part.
unfoldable pub look_up : Format → List ℕ → ℕ → Reply (List ℕ)
look_up f b i = reply [] do
  rs ← tests1_3 f b
  _ ← refuse_at 11 (elim (ltb i (length rs)) [ true ↦ none | false ↦ some i ])
  given (row_part f b i)

-- A small reader over a table holds the table and a row position and hands out rows in order. Past the last whole row it hands
-- out an empty part and stays there.
unfoldable pub reader_row : Format → List ℕ → ℕ → List ℕ
reader_row f b at = elim (ltb at (whole (row_bytes f) b)) [ true ↦ row_part f b at | false ↦ [] ]

unfoldable pub reader_next : Format → List ℕ → ℕ → ℕ
reader_next f b at = elim (ltb at (whole (row_bytes f) b)) [ true ↦ suc at | false ↦ at ]

-- Adorning adds the count of types.
pub record Adorning : Type 0 where
  pub reply : Reply ℕ
  pub summaries : List Summary  -- the lent summaries afterwards

unfoldable pub adorning : Format → List ℕ → ℕ → Answer (List Summary)
adorning f b lent = do
  rs ← tests1_4 f b
  let xs = adorned rs
  _ ← refuse 10 (ltb lent (length xs))
  given xs

unfoldable pub adorn : Format → List ℕ → List Summary → Adorning
adorn f b before =
    let a = adorning f b (length before) in
    record { reply = reply 0 (do xs ← a; given (length xs)); summaries = after before a }

-- Judging, reshaping and summarising are each one definition over rows that were read; the plain call reads them by 1 to 4.
-- Judging adds the verdict, the second answer and the numbers of each edge; refused, verdict 0, no and zeros.
abbrev pub no_judgement : Judgement
no_judgement = record { verdict = kept; none_apart = false; edges = no_edges }

unfoldable pub judge_rows : Format → Answer (List Row) → List ℕ → Reply Judgement
judge_rows f read sb = reply no_judgement do
  w ← tests5_7 f read sb
  given (judgement w.nodes w.shape)

unfoldable pub judge : Format → List ℕ → List ℕ → Reply Judgement
judge f b sb = judge_rows f (tests1_4 f b) sb

-- Reshaping adds the count of lines.
pub record Reshaping : Type 0 where
  pub reply : Reply ℕ
  pub table : List ℕ  -- the lent bytes afterwards
  pub sources : List ℕ  -- the lent places of the source list afterwards

-- Room in a reshape is the least of the whole records lent, the source-list places lent and 4,096.
abbrev pub room_in : Format → List ℕ → List ℕ → ℕ
room_in f table sources = min (whole (row_bytes f) table) (min (length sources) most_lines)

-- 5 to 8, and the new table's bytes and the source list
unfoldable pub reshaping : Format → Answer (List Row) → List ℕ → ℕ → Answer (List ℕ × List ℕ)
reshaping f read sb room = do
  w ← tests5_7 f read sb
  ls ← test8 f w room
  given (new_table f w.shape w.rows ls, source_list ls)

unfoldable pub reshape_rows : Format → Answer (List Row) → List ℕ → List ℕ → List ℕ → Reshaping
reshape_rows f read sb table sources =
    let a = reshaping f read sb (room_in f table sources) in
    record {
      reply = reply 0 (do x ← a; given (length x.1));
      table = after table (do x ← a; given x.0);
      sources = after sources (do x ← a; given x.1);
    }

unfoldable pub reshape : Format → List ℕ → List ℕ → List ℕ → List ℕ → Reshaping
reshape f b sb table sources = reshape_rows f (tests1_4 f b) sb table sources

-- Summarising adds the figures of each entry.
unfoldable pub summarise_rows : Format → Answer (List Row) → List ℕ → Reply Figures
summarise_rows f read sb = reply no_figures do
  w ← tests5_7 f read sb
  ls ← test8 f w most_lines
  given (figures w.nodes w.shape ls)

unfoldable pub summarise : Format → List ℕ → List ℕ → Reply Figures
summarise f b sb = summarise_rows f (tests1_4 f b) sb
