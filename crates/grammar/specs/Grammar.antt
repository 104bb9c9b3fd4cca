-- Document 02, request 1: the grammar of wanted trees as a line of text. It says which text is which tree, and nothing of how one is read.
-- Assumes nothing.
use Rattle.std.specs.Prelude.{ℕ, suc, ◌≤◌, ◌≡◌, Bool, true, false, not, ◌&&◌, ◌||◌, List, [], ◌∷◌, ◌++◌, map, eqb, ltb, length, get_or, take}
use Prim.Native.Char.{code}
use Rattle.paper.specs.Lists.{all, between}
use Rattle.paper.specs.Format.{Format}
use Rattle.grammar.specs.Text.{space, dot, parted}
use Rattle.grammar.specs.Names.{name_text}

-- ---- tokens
-- A token is a bracket, or a longest run of other bytes but space.
pub data Token : Type 0 where
  opening : Token
  closing : Token
  word : List ℕ → Token

abbrev pub open_byte : ℕ
open_byte = code "["

abbrev pub close_byte : ℕ
close_byte = code "]"

abbrev pub bracket : ℕ → Bool
bracket b = eqb b open_byte || eqb b close_byte

-- a byte other than space and brackets
abbrev pub plain : ℕ → Bool
plain b = not (eqb b space) && not (bracket b)

-- the longest run of such bytes that the text begins with
abbrev pub run : List ℕ → List ℕ
run [] = []
run (b ∷ bs) = elim (plain b) [ true ↦ b ∷ run bs | false ↦ [] ]

-- the token that begins with the byte b, the rest of the text behind it
abbrev pub token_at : ℕ → List ℕ → Token
token_at b bs = elim (eqb b open_byte) [ true ↦ opening | false ↦ elim (eqb b close_byte) [ true ↦ closing | false ↦ word (run (b ∷ bs)) ] ]

-- A token begins at each bracket, and at each other byte but space that has none such just before it.
abbrev pub begins : ℕ → ℕ → Bool
begins before b = bracket b || (plain b && not (plain before))

-- a token and the place of its first byte
pub record Placed : Type 0 where
  pub at : ℕ
  pub token : Token

-- the tokens of a text that stands at place i, after the byte before it
unfoldable pub tokens_from : ℕ → ℕ → List ℕ → List Placed
tokens_from before i [] = []
tokens_from before i (b ∷ bs) =
    elim (begins before b) [
      | true ↦ record { at = i; token = token_at b bs } ∷ tokens_from b (suc i) bs
      | false ↦ tokens_from b (suc i) bs
    ]

-- the tokens of a text
abbrev pub placed : List ℕ → List Placed
placed text = tokens_from space 0 text

abbrev pub tokens : List ℕ → List Token
tokens text = map (λ (p : Placed). p.token) (placed text)

-- ---- names
-- A name may be dotted: the labels that it names, from above downwards. A leading dot means that they are the whole list.
pub record Name : Type 0 where
  pub whole : Bool
  pub labels : List ℕ

-- It has at least one label, and each is 1 to the largest of the format.
unfoldable pub name_kept : Format → Name → Bool
name_kept f n = ltb 0 (length n.labels) && all (λ x. between 1 x f.labels) n.labels

-- The parts with single dots between them. A part is the name of its label in the label list; for other labels it is the number without
-- leading zeros.
unfoldable pub dotted : List ℕ → List ℕ
dotted labels = parted dot (map name_text labels)

-- the name as a word
unfoldable pub spelled : Name → List ℕ
spelled n = elim n.whole [ true ↦ dot ∷ dotted n.labels | false ↦ dotted n.labels ]

-- ---- trees
-- Trees side by side: none, or a tree, which is a name and the trees beneath it, and the trees beside it.
pub data Trees : Type 0 where
  no_trees : Trees
  tree : Name → Trees → Trees → Trees

-- Brackets are never empty: where nothing stands beneath a name, there are none.
abbrev pub bracketed : Trees → List Token → List Token
bracketed no_trees ts = []
bracketed (tree n below beside) ts = opening ∷ ts ++ (closing ∷ [])

-- the tokens of trees: each is a name, or a name and a bracketed list of trees
unfoldable pub trees_tokens : Trees → List Token
trees_tokens no_trees = []
trees_tokens (tree n below beside) = word (spelled n) ∷ bracketed below (trees_tokens below) ++ trees_tokens beside

-- every name in the trees is one of the format
unfoldable pub names_kept : Format → Trees → Bool
names_kept f no_trees = true
names_kept f (tree n below beside) = name_kept f n && names_kept f below && names_kept f beside

-- A wanted tree is a name and the trees beneath it.
pub record Tree : Type 0 where
  pub name : Name
  pub beneath : Trees

abbrev pub alone : Tree → Trees
alone t = tree t.name t.beneath no_trees

-- ---- texts
-- These tokens are those of the wanted tree.
pub record TokensOf (f : Format) (ts : List Token) (t : Tree) : Type 0 where
  pub kept : names_kept f (alone t) ≡ true
  pub are : ts ≡ trees_tokens (alone t)

-- The text is one of the wanted tree: its tokens are the tree's, and spaces between them are free.
abbrev pub TextOf : Format → List ℕ → Tree → Type 0
TextOf f text t = TokensOf f (tokens text) t

-- Some text of the grammar begins with these tokens.
pub record Begins (f : Format) (ts : List Token) : Type 0 where
  pub tree : Tree
  pub rest : List Token
  pub whole : TokensOf f (ts ++ rest) tree

-- The first n tokens are the longest beginning of the list that some text of the grammar begins with.
pub record Longest (f : Format) (ts : List Token) (n : ℕ) : Type 0 where
  pub within : n ≤ length ts
  pub begun : Begins f (take n ts)
  pub longest : (k : ℕ) → k ≤ length ts → Begins f (take k ts) → k ≤ n

-- the first byte of token n of a text, the text's length where it has no such token
unfoldable pub first_byte : List ℕ → ℕ → ℕ
first_byte text n = get_or (map (λ (p : Placed). p.at) (placed text)) n (length text)
