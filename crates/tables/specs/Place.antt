-- How a place among n is told as a number: n stands for none. Assumes nothing.
use Rattle.std.specs.Prelude.{ℕ, true, false, ltb}
use Rattle.std.proofs.Math.Option.{Option, none, some}

unfoldable pub place_of : ℕ → ℕ → Option ℕ
place_of r n = elim (ltb r n) [ true ↦ some r | false ↦ none ]
