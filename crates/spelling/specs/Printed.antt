-- What printing a shape answers and leaves, in the grammar's terms. Assumes nothing.
use Rattle.std.specs.Prelude.{ℕ, ◌≡◌, List}
use Rattle.paper.specs.Calls.{Reply}
use Rattle.grammar.specs.Typed.{Printing}

-- The answer, and every lent byte, are the definition's.
abbrev pub Prints : Printing → Reply ℕ → List ℕ → Type 0
Prints p r text = (r ≡ p.reply) × (text ≡ p.text)
