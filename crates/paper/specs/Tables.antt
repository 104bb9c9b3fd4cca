-- Tables: rows, the row rules, types. Assumes nothing.
use Rattle.std.specs.Prelude.{ℕ, suc, ◌+◌, ◌*◌, Bool, ◌&&◌, ◌||◌, List, [], ◌∷◌, ◌++◌, map, eqb, length, take, drop}
use Rattle.std.proofs.Math.Option.{Option}
use Rattle.paper.specs.Lists.{all, place, join_map, first_break, between, same, distinct, ways}
use Rattle.paper.specs.Format.{Format, head_bytes, list_bytes, value_bytes, row_bytes, byte, word, words, span, records, whole, bytes}

-- A record of a table, field by field.
pub record Row : Type 0 where
  pub level : ℕ  -- byte 0
  pub spare : ℕ  -- byte 1
  pub label : ℕ  -- bytes 2–3
  pub components : List ℕ  -- bytes 4–15 on six levels, 4–19 on eight: one component for each level of the format
  pub value : List ℕ  -- the eight bytes past them: 16–23 on six levels, 20–27 on eight

unfoldable pub row_of : Format → List ℕ → Row
row_of f b = record {
  level = byte b 0;
  spare = byte b 1;
  label = word b 2;
  components = words f.levels b head_bytes;
  value = span value_bytes b (head_bytes + list_bytes f);
}

-- the bytes of a row
unfoldable pub row_back : Row → List ℕ
row_back r = r.level ∷ r.spare ∷ bytes 2 r.label ++ join_map (bytes 2) r.components ++ r.value

-- the rows of a table
unfoldable pub rows : Format → List ℕ → List Row
rows f b = map (row_of f) (records (row_bytes f) (whole (row_bytes f) b) b)

-- A row is handed on as its own bytes (24 on six levels, 28 on eight) from the middle of the table.
abbrev pub row_part : Format → List ℕ → ℕ → List ℕ
row_part f b i = take (row_bytes f) (drop (row_bytes f * i) b)

abbrev pub dewey : Row → List ℕ
dewey r = take r.level r.components

-- ---- the row rules
-- level 1 to the number of levels (6 or 8), byte 1 zero, label 1 to the largest (99), components past the level zero
unfoldable pub fields_kept : Format → Row → Bool
fields_kept f r =
    between 1 r.level f.levels && eqb r.spare 0 && between 1 r.label f.labels && all (eqb 0) (drop r.level r.components)

-- the last component raised by one
abbrev pub raised : List ℕ → List ℕ
raised [] = []
raised (x ∷ []) = suc x ∷ []
raised (x ∷ y ∷ ys) = x ∷ raised (y ∷ ys)

-- Each later row is either the previous number with a component 1 added at its end, or the previous number cut after some
-- component, that component raised by one. (Row 0 has Dewey number 1: it follows the empty number. By this rule alone the empty number would
-- follow every number, itself too; that a level is at least 1, by `fields_kept`, shuts it out.)
unfoldable pub follows : List ℕ → List ℕ → Bool
follows p d = same d (p ++ (1 ∷ [])) || same d (raised (take (length d) p))

-- a row keeps the rules after a row with Dewey number p
unfoldable pub row_kept : Format → List ℕ → Row → Bool
row_kept f p r = fields_kept f r && follows p (dewey r)

-- the first row that breaks a rule
unfoldable pub bad_row : Format → List Row → Option ℕ
bad_row f rs = first_break (row_kept f) dewey 0 [] rs

-- ---- types
-- A row's type is the list of labels from its tree's root down to it.
unfoldable pub row_types : List Row → List (List ℕ)
row_types rs = ways [] (map (λ (r : Row). (r.level, r.label)) rs)

-- Types are numbered from 0 by first row.
unfoldable pub types : List Row → List (List ℕ)
types rs = distinct (row_types rs)

-- the number of a type; the number of types where it is none of them
unfoldable pub type_number : List (List ℕ) → List ℕ → ℕ
type_number ts k = place (same k) ts
