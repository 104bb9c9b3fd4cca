-- Document 02, request 1: the whole answers of reading a typed tree over a table and of printing a shape as a line. Assumes nothing.
use Rattle.std.specs.Prelude.{ℕ, suc, ◌-◌, ◌≤◌, ◌<◌, ◌≡◌, ◌⊎◌, Bool, true, false, not, List, [], ◌∷◌, ◌++◌, map, eqb, ltb, length, drop, replicate}
use Rattle.paper.specs.Lists.{keep, first_or, join_map, first_place, same, padded}
use Rattle.paper.specs.Format.{Format, most_entries, bytes}
use Rattle.paper.specs.Tables.{types}
use Rattle.paper.specs.Shapes.{Entry, named}
use Rattle.paper.specs.Calls.{Answer, refused, given, ◌>>=◌, refuse, refuse_at, Reply, reply, after, tests1_4, tests5_6}
use Rattle.grammar.specs.Text.{space, parted}
use Rattle.grammar.specs.Grammar.{Token, opening, closing, word, open_byte, close_byte, tokens, Name, spelled, Trees, no_trees, tree, Tree, alone}
use Rattle.grammar.specs.Grammar.{TextOf, Longest, first_byte}

-- the most bytes of a text
abbrev pub most_text : ℕ
most_text = 1536

-- ---- what a text asks for
-- an entry that is asked for: its level, and the name of its type
pub record Wanted : Type 0 where
  pub level : ℕ
  pub name : Name

-- the entries of trees whose level is l: each tree's own, then those beneath it, a level deeper
unfoldable pub wanted_from : ℕ → Trees → List Wanted
wanted_from l no_trees = []
wanted_from l (tree n below beside) = record { level = l; name = n } ∷ wanted_from (suc l) below ++ wanted_from l beside

abbrev pub wanted : Tree → List Wanted
wanted t = wanted_from 1 (alone t)

-- The text is the tree's, and these are the tree's entries.
pub record Asks (f : Format) (text : List ℕ) (es : List Wanted) : Type 0 where
  pub short : length text ≤ most_text
  pub tree : Tree
  pub text_of_lem : TextOf f text tree
  pub entries : es ≡ wanted tree

-- It is no tree's, and p is the first byte of the first token that no wanted tree has there, or the text's length where it ends early.
pub record NoTree (f : Format) (text : List ℕ) (p : ℕ) : Type 0 where
  pub short : length text ≤ most_text
  pub no_tree : (t : Tree) → TextOf f text t → ⊥
  pub right : ℕ  -- the number of tokens before that token
  pub longest : Longest f (tokens text) right
  pub at : p ≡ first_byte text right

-- It has too many bytes, and p is their largest number.
pub record TooLong (text : List ℕ) (p : ℕ) : Type 0 where
  pub long : most_text < length text
  pub at : p ≡ most_text

-- what the grammar says of a text: 12 with the place, or the entries that are asked for
abbrev pub Says : Format → List ℕ → Answer (List Wanted) → Type 0
Says f text (refused k p) = (k ≡ 12) × (TooLong text p ⊎ NoTree f text p)
Says f text (given es) = Asks f text es

-- ---- the types that a name matches
-- A name matches every source type whose label list ends so; with a leading dot, the one that is the whole list.
unfoldable pub matches : Name → List ℕ → Bool
matches n k = elim n.whole [ true ↦ same n.labels k | false ↦ same n.labels (drop (length k - length n.labels) k) ]

unfoldable pub matched : List (List ℕ) → Wanted → List (List ℕ)
matched ts e = keep (matches e.name) ts

-- the bytes of an entry with this level and type
unfoldable pub entry_back : Format → ℕ → List ℕ → List ℕ
entry_back f level k = level ∷ length k ∷ 0 ∷ 0 ∷ join_map (bytes 2) (padded f.levels k)

-- the shape records of the entries, over the types of a table
unfoldable pub shape_back : Format → List (List ℕ) → List Wanted → List ℕ
shape_back f ts es = join_map (λ (e : Wanted). entry_back f e.level (first_or [] (matched ts e))) es

-- ---- reading
-- Over the types of a table: 5 for more than 16 entries; 6 for a level above 6; 13, no type or several, with the entry; 29, fewer bytes are lent
-- than are written. Else the number of entries, and the shape.
unfoldable pub shaping : Format → List (List ℕ) → List Wanted → ℕ → Answer (ℕ × List ℕ)
shaping f ts es room = do
  _ ← refuse 5 (ltb most_entries (length es))
  _ ← refuse_at 6 (first_place (λ (e : Wanted). ltb f.levels e.level) es)
  _ ← refuse_at 13 (first_place (λ (e : Wanted). not (eqb (length (matched ts e)) 1)) es)
  let shape = shape_back f ts es
  _ ← refuse 29 (ltb room (length shape))
  given (length es, shape)

-- 1 to 4; 12, as the grammar says; then these
unfoldable pub reading : Format → List ℕ → Answer (List Wanted) → ℕ → Answer (ℕ × List ℕ)
reading f b said room = do
  rs ← tests1_4 f b
  es ← said
  shaping f (types rs) es room

pub record Reading : Type 0 where
  pub reply : Reply ℕ
  pub shape : List ℕ  -- the lent bytes afterwards

unfoldable pub read_as : Format → List ℕ → Answer (List Wanted) → List ℕ → Reading
read_as f b said lent =
    let a = reading f b said (length lent) in
    record { reply = reply 0 (do x ← a; given x.0); shape = after lent (do x ← a; given x.1) }

-- the whole answer, and every lent byte
pub record ReadTree (f : Format) (b text lent : List ℕ) (r : Reading) : Type 0 where
  pub said : Answer (List Wanted)
  pub says : Says f text said
  pub answer : r ≡ read_as f b said lent

-- ---- printing
-- between an entry of level l and the next, of level m: an opening bracket where that stands beneath it, else a closing one for each level up
abbrev pub brackets_to : ℕ → ℕ → List Token
brackets_to l m = elim (ltb l m) [ true ↦ opening ∷ [] | false ↦ replicate (l - m) closing ]

-- the tokens of entries in order; behind the last, a closing bracket for each level down to it
unfoldable pub line_tokens : List Wanted → List Token
line_tokens [] = []
line_tokens (e ∷ []) = word (spelled e.name) ∷ brackets_to e.level 1
line_tokens (e ∷ x ∷ es) = word (spelled e.name) ∷ brackets_to e.level x.level ++ line_tokens (x ∷ es)

abbrev pub token_bytes : Token → List ℕ
token_bytes opening = open_byte ∷ []
token_bytes closing = close_byte ∷ []
token_bytes (word w) = w

-- with single spaces between them
unfoldable pub line_of : List Wanted → List ℕ
line_of es = parted space (map token_bytes (line_tokens es))

-- A printed path begins with a dot, meaning the match is the whole list.
abbrev pub whole_path : Entry → Wanted
whole_path e = record { level = e.level; name = record { whole = true; labels = named e } }

-- 5 and 6, then 29; else the line
unfoldable pub printing : Format → List ℕ → ℕ → Answer (List ℕ)
printing f s room = do
  es ← tests5_6 f s
  let line = line_of (map whole_path es)
  _ ← refuse 29 (ltb room (length line))
  given line

pub record Printing : Type 0 where
  pub reply : Reply ℕ  -- with the number of bytes
  pub text : List ℕ  -- the lent bytes afterwards

-- the whole answer, and every lent byte
unfoldable pub print_tree : Format → List ℕ → List ℕ → Printing
print_tree f s lent =
    let a = printing f s (length lent) in
    record { reply = reply 0 (do x ← a; given (length x)); text = after lent a }
