-- What a number says of the width. Assumes nothing.
use Rattle.std.specs.Prelude.{ℕ, true, false, eqb}
use Rattle.paper.specs.Format.{Format}
use Rattle.paper.specs.Widths.{format_of}
use Rattle.paper.specs.declared.Width.{Width}
use Rattle.paper.specs.declared.Width.TheVariants.{Six, Eight}

-- 8 names eight levels, and every other number six
abbrev pub width_of : ℕ → Width
width_of n = elim (eqb n 8) [ true ↦ Eight | false ↦ Six ]

abbrev pub format_numbered : ℕ → Format
format_numbered n = format_of (width_of n)
