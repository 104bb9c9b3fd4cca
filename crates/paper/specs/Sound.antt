-- A reshaped table as a source, over bytes. Assumes nothing.
use Rattle.std.specs.Prelude.{ℕ, ◌≤◌, ◌≡◌, List, length}
use Rattle.std.proofs.Math.Option.{none}
use Rattle.paper.specs.Format.{Format}
use Rattle.paper.specs.Tables.{rows, bad_row, types}
use Rattle.paper.specs.Shapes.{entries}
use Rattle.paper.specs.Calls.{given, tests1_4, examine}

-- What it is for bytes to be n rows that keep the row rules.
pub record KeepsRules (f : Format) (new : List ℕ) (n : ℕ) : Type 0 where
  pub counted : length (rows f new) ≡ n
  pub none_bad : bad_row f (rows f new) ≡ none

-- What it is for a table of n lines, written by a reshape to a shape, to be a sound source.
pub record SoundSource (f : Format) (shape new : List ℕ) (n : ℕ) : Type 0 where
  -- examining accepts it, with the count n
  pub examined : examine f new ≡ record { number = 0; place = 0; rest = n }
  -- it has at most one type for each entry of the shape, and so at most 64
  pub one_each : length (types (rows f new)) ≤ length (entries f shape)
  -- no call that takes it as its table refuses it with 1 to 4
  pub passes : tests1_4 f new ≡ given (rows f new)
