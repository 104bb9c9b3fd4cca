-- The parts of a line one after the other: names in a path, brackets between two entries. Assumes nothing.
use Prim.Native.Nat.{ℕ, suc, ◌+◌, ◌-◌, ◌≤◌, ◌<◌}
use native.Mathlib.Numerals.{add-one}
use native.Mathlib.Omega.{arith}
use mathlib.Core.Path.{◌≡◌, refl, sym, ◌∙◌, ap, ap₂}
use mathlib.Core.Bool.{true}
use mathlib.Core.List.{List, [], ◌∷◌, ◌++◌, map}
use lib.ListN.{length, get_or, drop, replicate, drop_of_length-le}
use lib.Seq.{drop-cons}
use Rattle.grammar.specs.Text.{space, dot, followed, parted}
use Rattle.grammar.specs.Names.{name_text}
use Rattle.grammar.specs.Grammar.{closing, open_byte, close_byte, dotted, spelled}
use Rattle.grammar.specs.Typed.{token_bytes}
use Rattle.grammar.proofs.Lines.{up_to_lem, down_to}
use Rattle.spelling.specs.Line.{path_text, brackets_text}

-- ---- a path
module _ (labels : List ℕ) (k : ℕ) where
  -- From label k on it is a dot and that label's name, and the path from the next on.
  pub path_next : (x : ℕ) → k < length labels → x ≡ get_or labels k 0
      → path_text (drop k labels) ≡ (dot ∷ name_text x) ++ path_text (drop (k + 1) labels)
  unfolding followed
  path_next x lt e =
      ap path_text (drop-cons labels k 0 lt)
      ∙ ap₂ {C = List ℕ} (λ y j. (dot ∷ name_text y) ++ path_text (drop j labels)) (sym e) (sym (add-one k))

  -- Past the last label nothing is left.
  pub path_end : length labels ≤ k → path_text (drop k labels) ≡ []
  unfolding followed
  path_end le = ap path_text (drop_of_length-le labels {i = k} le)

-- The path of a whole label list is the list's name as a word.
pub path_word : (labels : List ℕ) → 1 ≤ length labels → path_text labels ≡ spelled (record { whole = true; labels = labels })
unfolding followed parted dotted spelled
path_word [] le = absurd (omega arith)
path_word (x ∷ labels) le = refl

-- ---- brackets
-- n closing brackets, a space before each
abbrev pub closings : ℕ → List ℕ
closings n = followed space (map token_bytes (replicate n closing))

module _ (l m : ℕ) where
  -- An entry beneath is led by an opening bracket.
  pub brackets_open : l < m → (space ∷ open_byte ∷ []) ≡ brackets_text l m
  unfolding followed
  brackets_open lt = sym (ap (λ ts. followed space (map token_bytes ts)) (down_to l m lt))

  -- Any other is led by a closing one for each level up.
  pub brackets_close : m ≤ l → closings (l - m) ≡ brackets_text l m
  brackets_close le = sym (ap (λ ts. followed space (map token_bytes ts)) (up_to_lem l m le))

  -- One of them, and those for the levels above.
  pub closings_next : m < l → closings (l - m) ≡ (space ∷ close_byte ∷ []) ++ closings (l - (m + 1))
  unfolding followed
  closings_next lt = let more : l - m ≡ suc (l - (m + 1)) = omega arith in ap closings more

  pub closings_end : l ≤ m → closings (l - m) ≡ []
  unfolding followed
  closings_end le = let none : l - m ≡ 0 = omega arith in ap closings none
