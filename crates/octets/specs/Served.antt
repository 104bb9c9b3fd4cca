-- The formats that the layers serve. Assumes nothing.
use Rattle.std.specs.Prelude.{ℕ, ◌≤◌, ◌<◌}
use Rattle.paper.specs.Format.{Format, format, row_bytes}

-- A Dewey number goes by value, in so many places of 16 bits.
abbrev pub most_levels : ℕ
most_levels = 8

-- The fewest levels with which lines are written: all eight places of a number are put, two bytes each, and the eight bytes of the value
-- cover those past the levels, so that these are four at the most.
abbrev pub least_levels : ℕ
least_levels = 4

-- labels are 16-bit numbers
pub record Served (f : Format) : Type 0 where
  pub deep : least_levels ≤ f.levels
  pub shallow : f.levels ≤ most_levels
  pub small : f.labels < 65536

-- the bytes of the longest record that the layers serve
abbrev pub most_bytes : ℕ
most_bytes = row_bytes (format most_levels 0)
