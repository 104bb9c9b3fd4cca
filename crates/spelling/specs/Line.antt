-- The parts of a printed line. Assumes nothing.
use Rattle.std.specs.Prelude.{ℕ, ◌≡◌, List, map}
use Rattle.paper.specs.Format.{Format, entry_bytes, whole}
use Rattle.paper.specs.Shapes.{entries}
use Rattle.paper.specs.Calls.{given, tests5_6}
use Rattle.octets.specs.Served.{Served}
use Rattle.grammar.specs.Text.{space, dot, followed}
use Rattle.grammar.specs.Names.{name_text}
use Rattle.grammar.specs.Typed.{brackets_to, token_bytes, whole_path, line_of}

-- the names of labels, a dot before each
abbrev pub path_text : List ℕ → List ℕ
path_text labels = followed dot (map name_text labels)

-- the brackets between an entry of level l and the next, of level m, a space before each
abbrev pub brackets_text : ℕ → ℕ → List ℕ
brackets_text l m = followed space (map token_bytes (brackets_to l m))

-- the line of a shape
abbrev pub shape_line : Format → List ℕ → List ℕ
shape_line f s = line_of (map whole_path (entries f s))

-- The shape passes its tests, and has so many entries.
pub record Passed (f : Format) (s : List ℕ) (count : ℕ) : Type 0 where
  pub served : Served f
  pub counted : count ≡ whole (entry_bytes f) s
  pub passes : tests5_6 f s ≡ given (entries f s)
