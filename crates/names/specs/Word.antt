-- What was read of a word. Assumes nothing.
use Rattle.std.specs.Prelude as Std
use Rattle.std.specs.Prelude.{ℕ, suc, ◌-◌, ◌≤◌, ◌<◌, ◌≡◌, true, false, None, Some, List, [], ◌∷◌, eqb, leb, length, take, drop}
use Rattle.std.proofs.Math.Option.{none, some}
use Rattle.paper.specs.Lists.{first_or}
use Rattle.paper.specs.Format.{Format}
use Rattle.grammar.specs.Text.{dot, decimal}
use Rattle.grammar.specs.Names.{named, name_of}
use Rattle.grammar.specs.Grammar.{Name}
use Rattle.grammar.specs.Reader.{parts, name_of_word}
use Rattle.names.specs.declared.word.Word.{Word}

-- ---- a part
-- the bytes of the longest name
abbrev pub longest_name : ℕ
longest_name = 9

-- It is the one name that has this first byte and this length, wherever there is one.
abbrev pub Guessed : ℕ → ℕ → ℕ → Type 0
Guessed first size r = (k : ℕ) → k < named → first_or 0 (name_of k) ≡ first → length (name_of k) ≡ size → r ≡ k

-- It is the label that has the text as its name, 0 for none.
pub record NamedBy (w : List ℕ) (r : ℕ) : Type 0 where
  pub few : r ≤ named
  pub name_is : 0 < r → name_of (r - 1) ≡ w
  pub name_none : r ≡ 0 → (k : ℕ) → k < named → name_of k ≡ w → ⊥

-- the digits of the largest label
abbrev pub most_digits : ℕ
most_digits = 5

-- It is the number above 0 of at most five digits that the text spells, 0 for none.
pub record NumberOf (w : List ℕ) (r : ℕ) : Type 0 where
  pub number_is : 0 < r → decimal r ≡ w
  pub number-none : r ≡ 0 → (n : ℕ) → 0 < n → length (decimal n) ≤ most_digits → decimal n ≡ w → ⊥

-- the parts from byte p on, none where that is past the end
unfoldable pub parts_from : ℕ → List ℕ → List (List ℕ)
parts_from p w = elim (leb p (length w)) [ true ↦ parts (drop p w) | false ↦ [] ]

-- The part that begins at byte p ends before byte q, and the next one begins after it.
pub record PartEnds (w : List ℕ) (p q : ℕ) : Type 0 where
  pub begins : p ≤ q
  pub within : q ≤ length w
  pub first : parts_from p w ≡ take (q - p) (drop p w) ∷ parts_from (suc q) w

-- the byte that the first part begins at, behind a leading dot
unfoldable pub first_at : List ℕ → ℕ
first_at [] = 0
first_at (b ∷ bs) = elim (eqb b dot) [ true ↦ 1 | false ↦ 0 ]

-- ---- a word
-- the labels of a name that are kept
abbrev pub most_kept : ℕ
most_kept = 8

-- It holds the name: of its labels the first eight are kept, and how many there are.
pub record Holds (r : Word) (n : Name) : Type 0 where
  pub whole_is : r.whole ≡ n.whole
  pub size_is : r.size ≡ length n.labels
  pub labels_are : take r.size r.labels ≡ take most_kept n.labels

-- It holds the name that the word spells.
pub record Spelled (f : Format) (w : List ℕ) (r : Word) : Type 0 where
  pub name : Name
  pub spells_one : name_of_word f w ≡ some name
  pub held : Holds r name

-- Or the word spells none.
abbrev pub Reads : Format → List ℕ → Std.Option Word → Type 0
Reads f w None = name_of_word f w ≡ none
Reads f w (Some r) = Spelled f w r
