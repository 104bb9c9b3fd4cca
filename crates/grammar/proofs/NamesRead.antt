-- What the reader's walk needs to know of names: a word spells one name, and the name's word is it. Assumes nothing.
use Prim.Native.Nat.{ℕ}
use mathlib.Core.Path.{◌≡◌}
use mathlib.Core.Bool.{true}
use mathlib.Core.List.{List}
use mathlib.Core.Option.{some}
use Rattle.paper.specs.Format.{Format}
use Rattle.grammar.specs.Grammar.{Name, name_kept, spelled}
use Rattle.grammar.specs.Reader.{name_of_word}

pub record NamesRead (f : Format) : Type 0 where
  pub spelled-read : (n : Name) → name_kept f n ≡ true → name_of_word f (spelled n) ≡ some n
  pub read_kept : (w : List ℕ) (n : Name) → name_of_word f w ≡ some n → name_kept f n ≡ true
  pub read-spelled : (w : List ℕ) (n : Name) → name_of_word f w ≡ some n → spelled n ≡ w
  pub a_name : Name
  pub a_name_kept : name_kept f a_name ≡ true
