-- The entry that a word names. Assumes nothing.
use Rattle.std.specs.Prelude.{ℕ, ◌≤◌, ◌<◌, ◌≡◌, List}
use Rattle.paper.specs.Format.{most_entries}
use Rattle.grammar.specs.Text.{decimal}

-- It is the entry whose decimal digits the word is; 16, of which no shape has an entry, where it is those of none.
pub record EntryOf (word : List ℕ) (r : ℕ) : Type 0 where
  pub few : r ≤ most_entries
  pub entry-is : r < most_entries → word ≡ decimal r
  pub entry-none : r ≡ most_entries → (e : ℕ) → e < most_entries → word ≡ decimal e → ⊥
