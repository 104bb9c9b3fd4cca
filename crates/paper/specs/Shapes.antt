-- Shapes: entries, the entry rules, parents and paths. Assumes nothing.
use Rattle.std.specs.Prelude.{ℕ, zero, suc, Bool, ◌&&◌, List, [], ◌∷◌, ◌++◌, map, eqb, length, get_or, take, drop}
use Rattle.std.proofs.Math.Option.{Option}
use Rattle.paper.specs.Lists.{keep, all, last_or, count, first_break, between, same, up, ways}
use Rattle.paper.specs.Format.{Format, head_bytes, entry_bytes, byte, word, words, records, whole}
use Rattle.paper.specs.Tables.{type_number}
use Rattle.paper.specs.Closeness.{shared}

-- A record of a shape, field by field.
pub record Entry : Type 0 where
  pub level : ℕ  -- byte 0
  pub size : ℕ  -- byte 1, the length of its type
  pub spare : ℕ  -- bytes 2–3
  pub labels : List ℕ  -- bytes 4–15 on six levels, 4–19 on eight: one label for each level of the format

unfoldable pub entry_of : Format → List ℕ → Entry
entry_of f b = record { level = byte b 0; size = byte b 1; spare = word b 2; labels = words f.levels b head_bytes }

-- the entries of a shape
unfoldable pub entries : Format → List ℕ → List Entry
entries f b = map (entry_of f) (records (entry_bytes f) (whole (entry_bytes f) b) b)

-- the type that an entry names
abbrev pub named : Entry → List ℕ
named e = take e.size e.labels

-- ---- the entry rules
-- Entry 0 has level 1; every later entry has level at least 2 and at most one more than the entry before it (level 0: none).
abbrev pub level_kept : ℕ → ℕ → Bool
level_kept zero l = eqb l 1
level_kept (suc before) l = between 2 l (suc (suc before))

-- level and length 1 to the number of levels (6 or 8), bytes 2–3 zero, labels 1 to the largest (99) within the length and zero past it
unfoldable pub entry_kept : Format → ℕ → Entry → Bool
entry_kept f before e =
    between 1 e.level f.levels && between 1 e.size f.levels && eqb e.spare 0
    && all (λ x. between 1 x f.labels) (named e) && all (eqb 0) (drop e.size e.labels)
    && level_kept before e.level

-- the first entry that breaks a rule
unfoldable pub bad_entry : Format → List Entry → Option ℕ
bad_entry f es = first_break (entry_kept f) (λ (e : Entry). e.level) 0 0 es

-- ---- a shape beside a table
pub record Shape : Type 0 where
  pub levels : List ℕ  -- each entry's level
  pub labels : List ℕ  -- the last label of each entry's type
  pub kinds : List ℕ  -- the number, in the table, of each entry's type
  pub ways : List (List ℕ)  -- each entry's way: the entries from entry 0 down to it

-- each entry's level and number
abbrev pub steps : ℕ → List Entry → List (ℕ × ℕ)
steps i [] = []
steps i (e ∷ es) = (e.level, i) ∷ steps (suc i) es

-- the shape of the entries, over the types of a table
unfoldable pub shape_over : List (List ℕ) → List Entry → Shape
shape_over ts es = record {
  levels = map (λ (e : Entry). e.level) es;
  labels = map (λ (e : Entry). last_or 0 (named e)) es;
  kinds = map (λ (e : Entry). type_number ts (named e)) es;
  ways = ways [] (steps 0 es);
}

module _ (s : Shape) where
  -- the entry numbers
  abbrev pub numbers : List ℕ
  numbers = count 0 (length s.ways)

  abbrev pub kind : ℕ → ℕ
  kind e = get_or s.kinds e 0

  abbrev pub way : ℕ → List ℕ
  way e = get_or s.ways e []

  -- An entry's parent is the nearest earlier entry one level up: the last but one of its way.
  abbrev pub parent : ℕ → ℕ
  parent e = last_or 0 (up (way e))

  -- the entries whose parent is e, in shape order
  abbrev pub children : ℕ → List ℕ
  children e = keep (λ c. same (up (way c)) (way e)) numbers

  -- the deepest entry that is above or equal to both: the last that their ways share
  abbrev pub fork : ℕ → ℕ → ℕ
  fork e f = last_or 0 (take (shared (way e) (way f)) (way e))

  -- the entries below the fork on the way to e
  abbrev pub side : ℕ → ℕ → List ℕ
  side e f = drop (shared (way e) (way f)) (way e)

  -- The path between two entries runs up to the fork and down again; each edge is named by its lower entry.
  abbrev pub path : ℕ → ℕ → List ℕ
  path e f = side e f ++ side f e
