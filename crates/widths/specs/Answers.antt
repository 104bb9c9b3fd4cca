-- What moving a file answers and leaves, in the paper's terms. Assumes nothing.
use Rattle.std.specs.Prelude.{ℕ, ◌≡◌, List}
use Rattle.paper.specs.Calls.{Reply}
use Rattle.paper.specs.Widths as Widths

-- The answer, and every lent byte, are the definition's.
abbrev pub Moves : Widths.Moved → Reply ℕ → List ℕ → Type 0
Moves m r new = (r ≡ m.reply) × (new ≡ m.bytes)
