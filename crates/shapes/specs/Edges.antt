-- The levels of a shape's edges, and the ends of its entries' children. Assumes nothing.
use Rattle.std.specs.Prelude.{ℕ, ◌+◌, ◌*◌, ◌≤◌, ◌<◌, max, ◌≡◌, List, get_or}
use Rattle.paper.specs.Format.{most_entries, most_types}

-- each entry has a parent among the entries
pub record Inside (entries : ℕ) (parents : List ℕ) : Type 0 where
  pub few : entries ≤ most_entries
  pub under : (e : ℕ) → e < entries → get_or parents e 0 < entries

-- and the number of a type
pub record Known (entries : ℕ) (types parents : List ℕ) : Type 0 where
  pub inside : Inside entries parents
  pub typed : (e : ℕ) → e < entries → get_or types e 0 < most_types

-- the level at which the types of two entries meet, from the places of `closest::meet::meetings`
abbrev pub meeting_of : List ℕ → List ℕ → ℕ → ℕ → ℕ
meeting_of meetings types e f =
    max (get_or meetings (most_entries * get_or types f 0 + e) 0) (get_or meetings (most_entries * get_or types e 0 + f) 0)

-- Each edge has the meeting level of its two types.
abbrev pub EdgeLevels : List ℕ → List ℕ → List ℕ → ℕ → List ℕ → Type 0
EdgeLevels meetings types parents entries edges = (c : ℕ) → c < entries → get_or edges c 0 ≡ meeting_of meetings types (get_or parents c 0) c

-- each child entry stands before the end of its parent's, which is among the entries
pub record Ends (parents : List ℕ) (entries : ℕ) (ends : List ℕ) : Type 0 where
  pub before : (e : ℕ) → get_or ends e 0 ≤ entries
  pub last : (c : ℕ) → 0 < c → c < entries → c < get_or ends (get_or parents c 0) 0
