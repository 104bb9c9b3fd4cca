-- Text written into a lent buffer. Assumes nothing.
use Rattle.std.specs.Prelude.{ℕ, ◌+◌, ◌≡◌, List, length}
use Rattle.std.proofs.lemmas.List.Edits.{sets}

-- The text stands in the buffer from place `at` on, every other byte is as it was before, and `next` is the place after the text.
pub record Put (before : List ℕ) (at : ℕ) (text after : List ℕ) (next : ℕ) : Type 0 where
  pub written : after ≡ sets before at text
  pub ends : next ≡ at + length text
