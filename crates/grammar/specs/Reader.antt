-- A way to find what the grammar says of a text, token by token. That it is the grammar's answer is proved (proofs/Right.antt); nothing is
-- defined by it but what computes samples and what the code follows. Assumes nothing.
use Rattle.std.specs.Prelude.{ℕ, suc, pred, Bool, true, false, List, [], ◌∷◌, map, eqb, ltb, length}
use Rattle.std.proofs.Math.Option.{Option, none, some}
use Rattle.paper.specs.Lists.{keep, all, first_or, count, same}
use Rattle.paper.specs.Format.{Format}
use Rattle.paper.specs.Calls.{Answer, refused, given}
use Rattle.grammar.specs.Text.{dot}
use Rattle.grammar.specs.Names.{name_text}
use Rattle.grammar.specs.Grammar.{Token, opening, closing, word, tokens, Name, first_byte}
use Rattle.grammar.specs.Typed.{Wanted, most_text}

-- ---- a word
-- the label whose part is w, 0 for none
unfoldable pub label_of : Format → List ℕ → ℕ
label_of f w = first_or 0 (keep (λ l. same (name_text l) w) (count 1 f.labels))

abbrev pub onto : ℕ → List (List ℕ) → List (List ℕ)
onto b [] = (b ∷ []) ∷ []
onto b (p ∷ ps) = (b ∷ p) ∷ ps

-- the parts between dots
unfoldable pub parts : List ℕ → List (List ℕ)
parts [] = [] ∷ []
parts (b ∷ bs) = elim (eqb b dot) [ true ↦ [] ∷ parts bs | false ↦ onto b (parts bs) ]

-- the labels of the parts, 0 for what is none
unfoldable pub labels_of : Format → List ℕ → List ℕ
labels_of f w = map (label_of f) (parts w)

-- the name that a word spells, if it spells one
abbrev pub named : Bool → List ℕ → Option Name
named whole labels = elim (all (ltb 0) labels) [ true ↦ some (record { whole = whole; labels = labels }) | false ↦ none ]

unfoldable pub name_of_word : Format → List ℕ → Option Name
name_of_word f [] = named false (labels_of f [])
name_of_word f (b ∷ bs) = elim (eqb b dot) [ true ↦ named true (labels_of f bs) | false ↦ named false (labels_of f (b ∷ bs)) ]

-- ---- tokens in order
-- what stands just before: nothing, a name, an opening or a closing bracket
pub data Stage : Type 0 where
  first : Stage
  behind_name : Stage
  behind_open : Stage
  behind_close : Stage

-- At depth d, within so many brackets: may a name stand next, an opening bracket, a closing one, or nothing?
abbrev pub may_name : Stage → ℕ → Bool
may_name first d = true
may_name behind_name d = ltb 0 d
may_name behind_open d = true
may_name behind_close d = ltb 0 d

abbrev pub may_open : Stage → Bool
may_open first = false
may_open behind_name = true
may_open behind_open = false
may_open behind_close = false

abbrev pub may_close : Stage → ℕ → Bool
may_close first d = false
may_close behind_name d = ltb 0 d
may_close behind_open d = false
may_close behind_close d = ltb 0 d

abbrev pub may_end : Stage → ℕ → Bool
may_end first d = false
may_end behind_name d = eqb d 0
may_end behind_open d = false
may_end behind_close d = eqb d 0

-- the number of tokens before the first that no wanted tree has there, or the entries
pub data Walked : Type 0 where
  wrong : ℕ → Walked
  right : List Wanted → Walked

abbrev pub behind : Walked → Walked
behind (wrong n) = wrong (suc n)
behind (right es) = right es

abbrev pub with : Wanted → Walked → Walked
with e (wrong n) = wrong (suc n)
with e (right es) = right (e ∷ es)

unfoldable pub walk : Format → Stage → ℕ → List Token → Walked
walk f s d [] = elim (may_end s d) [ true ↦ right [] | false ↦ wrong 0 ]
walk f s d (opening ∷ ts) = elim (may_open s) [ true ↦ behind (walk f behind_open (suc d) ts) | false ↦ wrong 0 ]
walk f s d (closing ∷ ts) = elim (may_close s d) [ true ↦ behind (walk f behind_close (pred d) ts) | false ↦ wrong 0 ]
walk f s d (word w ∷ ts) =
    elim (may_name s d) [
      | true ↦ elim (name_of_word f w) [ some n ↦ with (record { level = suc d; name = n }) (walk f behind_name d ts) | none ↦ wrong 0 ]
      | false ↦ wrong 0
    ]

-- what was walked, as an answer on the text
abbrev pub told : List ℕ → Walked → Answer (List Wanted)
told text (wrong n) = refused 12 (first_byte text n)
told text (right es) = given es

unfoldable pub said_of : Format → List ℕ → Answer (List Wanted)
said_of f text = elim (ltb most_text (length text)) [ true ↦ refused 12 most_text | false ↦ told text (walk f first 0 (tokens text)) ]
