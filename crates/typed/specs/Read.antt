-- What reading a typed tree answers and leaves, in the grammar's terms. Assumes nothing.
use Rattle.std.specs.Prelude.{ℕ, List}
use Rattle.paper.specs.Format.{Format}
use Rattle.paper.specs.Calls.{Reply}
use Rattle.grammar.specs.Typed.{Reading, ReadTree}

-- the answer and the lent bytes together
abbrev pub reading_of : Reply ℕ → List ℕ → Reading
reading_of r shape = record { reply = r; shape = shape }

-- The answer, and every byte lent for the shape, are the definition's.
abbrev pub ReadsTree : Format → List ℕ → List ℕ → List ℕ → Reply ℕ → List ℕ → Type 0
ReadsTree f b text lent r shape = ReadTree f b text lent (reading_of r shape)
