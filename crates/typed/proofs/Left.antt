-- The tokens that are left of a text behind a place, and what they say of it. Assumes nothing.
use Prim.Native.Nat.{ℕ, suc, pred, ◌+◌, ◌≤◌, ◌<◌}
use mathlib.Core.Path.{◌≡◌, refl, sym, ◌∙◌, ap}
use mathlib.Core.Bool.{Bool, true, false, not, ◌&&◌, ◌||◌}
use mathlib.Core.List.{List, [], ◌∷◌, ◌++◌, map}
use mathlib.Core.Option.{none, some}
use borrow.Author.Tests.{ne_eqb}
use lib.Dec.{eqb}
use lib.ListN.{length, get_or, drop, drop_of_length-le}
use lib.Seq.{drop-cons, drop-drop, append_snoc}
use Rattle.paper.specs.Format.{Format}
use Rattle.paper.specs.Calls.{Answer, refused, given}
use Rattle.grammar.specs.Text.{space}
use Rattle.grammar.specs.Grammar.{Token, opening, closing, word, open_byte, close_byte, bracket, plain, run, token_at, begins, Placed, tokens_from}
use Rattle.grammar.specs.Grammar.{first_byte, Name}
use Rattle.grammar.specs.Typed.{Wanted}
use Rattle.grammar.specs.Reader.{Stage, behind_name, behind_open, behind_close, may_name, may_open, may_close, may_end, name_of_word}
use Rattle.grammar.specs.Reader.{Walked, wrong, right, behind, with, walk, told}
use Rattle.grammar.proofs.Tokens.{tokens-space, tokens_open, tokens_close, tokens-word}
use Rattle.typed.specs.Walk.{may_stand}

-- ---- the tokens that are left
abbrev places_of : List Placed → List ℕ
places_of ps = map (λ (p : Placed). p.at) ps

abbrev pub tokens_of : List Placed → List Token
tokens_of ps = map (λ (p : Placed). p.token) ps

-- the tokens of a text from place p on
abbrev pub left : List ℕ → ℕ → List Placed
left text p = tokens_from space p (drop p text)

module _ (text : List ℕ) (p : ℕ) (lt : p < length text) where
  -- the next byte, and the rest
  abbrev next : ℕ
  next = get_or text p 0

  abbrev rest : List ℕ
  rest = drop (suc p) text

  abbrev here : left text p ≡ tokens_from space p (next ∷ rest)
  here = ap (tokens_from space p) (drop-cons text p 0 lt)

  pub space_left : next ≡ space → left text p ≡ left text (suc p)
  space_left e = here ∙ ap (λ b. tokens_from space p (b ∷ rest)) e ∙ tokens-space p rest

  pub open_left : next ≡ open_byte → left text p ≡ record { at = p; token = opening } ∷ left text (suc p)
  open_left e = here ∙ ap (λ b. tokens_from space p (b ∷ rest)) e ∙ tokens_open p rest

  pub close_left : next ≡ close_byte → left text p ≡ record { at = p; token = closing } ∷ left text (suc p)
  close_left e = here ∙ ap (λ b. tokens_from space p (b ∷ rest)) e ∙ tokens_close p rest

  -- the bytes of the next word
  abbrev pub word_here : List ℕ
  word_here = run (drop p text)

  pub word_left : plain next ≡ true → left text p ≡ record { at = p; token = word word_here } ∷ left text (p + length word_here)
  word_left e =
      here ∙ tokens-word p next rest e
      ∙ ap (λ bs. record { at = p; token = word (run bs) } ∷ tokens_from space (p + length (run bs)) (drop (length (run bs)) bs)) (sym (drop-cons text p 0 lt))
      ∙ ap (λ bs. record { at = p; token = word word_here } ∷ tokens_from space (p + length word_here) bs) (drop-drop (length word_here) p text)

  -- whatever token it is
  pub token_left : (next ≡ space → ⊥) → left text p ≡ record { at = p; token = token_at next rest } ∷ tokens_from next (suc p) rest
  unfolding tokens_from
  token_left ne = here ∙ rw (begun, tokens_from) refl
    where
      go : (t : Bool) → t || ((true && not t) && true) ≡ true
      go true = refl
      go false = refl

      begun : begins space next ≡ true
      begun = rw (ne_eqb next space ne) (go (bracket next))

pub end_left : (text : List ℕ) (p : ℕ) → length text ≤ p → left text p ≡ []
unfolding tokens_from
end_left text p le = ap (tokens_from space p) (drop_of_length-le text le)

-- ---- what a token gives
module _ (f : Format) (s : Stage) (d : ℕ) (ts : List Token) where
  pub walk_open : may_open s ≡ true → walk f s d (opening ∷ ts) ≡ behind (walk f behind_open (suc d) ts)
  unfolding walk
  walk_open e = rw (e, walk) refl

  pub walk_close : may_close s d ≡ true → walk f s d (closing ∷ ts) ≡ behind (walk f behind_close (pred d) ts)
  unfolding walk
  walk_close e = rw (e, walk) refl

  pub walk-word : (w : List ℕ) (n : Name) → may_name s d ≡ true → name_of_word f w ≡ some n
      → walk f s d (word w ∷ ts) ≡ with (record { level = suc d; name = n }) (walk f behind_name d ts)
  unfolding walk
  walk-word w n e q = rw (e, q, walk) refl

  pub walk_no_name : (w : List ℕ) → may_name s d ≡ true → name_of_word f w ≡ none → walk f s d (word w ∷ ts) ≡ wrong 0
  unfolding walk
  walk_no_name w e q = rw (e, q, walk) refl

  abbrev token_by : Bool → Bool → List ℕ → Token
  token_by o c w = elim o [ true ↦ opening | false ↦ elim c [ true ↦ closing | false ↦ word w ] ]

  abbrev stand_by : Bool → Bool → Bool
  stand_by o c = elim o [ true ↦ may_open s | false ↦ elim c [ true ↦ may_close s d | false ↦ may_name s d ] ]

  walk-by : (o c : Bool) (w : List ℕ) → stand_by o c ≡ false → walk f s d (token_by o c w ∷ ts) ≡ wrong 0
  unfolding walk
  walk-by true c w e = rw (e, walk) refl
  walk-by false true w e = rw (e, walk) refl
  walk-by false false w e = rw (e, walk) refl

  pub walk-stop : (b : ℕ) (bs : List ℕ) → may_stand b s d ≡ false → walk f s d (token_at b bs ∷ ts) ≡ wrong 0
  walk-stop b bs e = walk-by (eqb b open_byte) (eqb b close_byte) (run (b ∷ bs)) e

pub walk_end : (f : Format) (s : Stage) (d : ℕ) → may_end s d ≡ true → walk f s d [] ≡ right []
unfolding walk
walk_end f s d e = rw (e, walk) refl

pub walk_early : (f : Format) (s : Stage) (d : ℕ) → may_end s d ≡ false → walk f s d [] ≡ wrong 0
unfolding walk
walk_early f s d e = rw (e, walk) refl

-- ---- what is said of the text
-- what these tokens say of it, walked so, the entries es before them
abbrev pub said_behind : List ℕ → List Wanted → List Placed → Walked → Answer (List Wanted)
said_behind text es ps (wrong n) = refused 12 (get_or (places_of ps) n (length text))
said_behind text es ps (right xs) = given (es ++ xs)

module _ (text : List ℕ) (es : List Wanted) (x : Placed) (ps : List Placed) where
  pub behind_on : (w : Walked) → said_behind text es (x ∷ ps) (behind w) ≡ said_behind text es ps w
  behind_on (wrong n) = refl
  behind_on (right xs) = refl

  pub with_on : (e : Wanted) (w : Walked) → said_behind text es (x ∷ ps) (with e w) ≡ said_behind text (es ++ (e ∷ [])) ps w
  with_on e (wrong n) = refl
  with_on e (right xs) = ap {B = Answer (List Wanted)} given (sym (append_snoc es e xs))

pub said_all : (text : List ℕ) (w : Walked) → told text w ≡ said_behind text [] (tokens_from space 0 text) w
unfolding first_byte
said_all text (wrong n) = refl
said_all text (right xs) = refl
