-- How long a wanted tree is. Assumes nothing.
use Rattle.std.specs.Prelude.{ℕ}
use Rattle.printing.specs.declared.tape.Wanted.{Wanted}
use Rattle.printing.specs.declared.tape.Wanted.TheVariants.{Shape, Text}

-- its bytes, as a shape or as a text
abbrev pub wanted_bytes : Wanted → ℕ
wanted_bytes (Shape n) = n
wanted_bytes (Text n) = n
