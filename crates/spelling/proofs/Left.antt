-- What is still to be put into a buffer. Assumes nothing.
use Prim.Native.Nat.{ℕ}
use mathlib.Core.Path.{◌≡◌, refl, sym, ◌∙◌}
use mathlib.Core.List.{List, [], ◌++◌}
use lib.ListN.{length}
use Rattle.names.specs.Put.{Put}
use Rattle.names.proofs.Putting.{as_long, put_none, put_then, put_as}

-- With `rest` put into l from place p on, `text` is put into l₀ from place `at` on.
pub record Left (l₀ : List ℕ) (at : ℕ) (text l : List ℕ) (p : ℕ) (rest : List ℕ) : Type 0 where
  pub long : length l ≡ length l₀
  pub asked : (l' : List ℕ) (j : ℕ) → Put l p rest l' j → Put l₀ at text l' j

-- At first all of it is left.
pub left_all : (l : List ℕ) (at : ℕ) (text : List ℕ) → Left l at text l at text
left_all l at text = record { long = refl; asked = λ l' j put. put }

module _ {l₀ : List ℕ} {at : ℕ} {text l : List ℕ} {p : ℕ} {rest : List ℕ} (left : Left l₀ at text l p rest) where
  -- The first part of it is put.
  pub left_less : {a l' : List ℕ} {q : ℕ} (b : List ℕ) → rest ≡ a ++ b → Put l p a l' q → Left l₀ at text l' q b
  left_less b e put = record {
    long = as_long put ∙ left.long;
    asked = λ l'' j next. left.asked l'' j (put_as (put_then put next) (sym e));
  }

  -- Nothing of it is left.
  pub left_none : rest ≡ [] → Put l₀ at text l p
  left_none e = left.asked l p (put_as (put_none l p) (sym e))
