-- A line entry by entry. Assumes nothing.
use Prim.Native.Nat.{ℕ}
use mathlib.Core.Path.{◌≡◌, refl, ◌∙◌, ap}
use mathlib.Core.List.{List, [], ◌∷◌, ◌++◌, map}
use Rattle.paper.specs.Shapes.{Entry}
use Rattle.paper.proofs.Lists.{map_append, join_append}
use Rattle.grammar.specs.Text.{space, followed, parted}
use Rattle.grammar.specs.Grammar.{Token, word, spelled}
use Rattle.grammar.specs.Typed.{brackets_to, line_tokens, token_bytes, line_of, whole_path}
use Rattle.spelling.specs.Line.{brackets_text}

-- the word of an entry
abbrev pub word_of : Entry → List ℕ
word_of e = spelled (whole_path e).name

-- the tokens behind an entry of level l, the entries es after it
abbrev tokens_behind : ℕ → List Entry → List Token
tokens_behind l [] = brackets_to l 1
tokens_behind l (e ∷ es) = brackets_to l e.level ++ (word (word_of e) ∷ tokens_behind e.level es)

-- their bytes, a space before each
unfoldable pub behind : ℕ → List Entry → List ℕ
behind l es = followed space (map token_bytes (tokens_behind l es))

tokens_from_lem : (e : Entry) (es : List Entry) → line_tokens (map whole_path (e ∷ es)) ≡ word (word_of e) ∷ tokens_behind e.level es
unfolding line_tokens
tokens_from_lem e [] = refl
tokens_from_lem e (x ∷ es) = ap {B = List Token} (λ ts. word (word_of e) ∷ (brackets_to e.level x.level ++ ts)) (tokens_from_lem x es)

-- A line is the first entry's word, and what stands behind it.
pub line_first : (e : Entry) (es : List Entry) → line_of (map whole_path (e ∷ es)) ≡ word_of e ++ behind e.level es
unfolding line_of parted behind
line_first e es = ap (λ ts. parted space (map token_bytes ts)) (tokens_from_lem e es)

-- Behind an entry stand the brackets to the next one, that one's word, and what stands behind that.
pub behind_next : (l : ℕ) (e : Entry) (es : List Entry) → behind l (e ∷ es) ≡ brackets_text l e.level ++ ((space ∷ word_of e) ++ behind e.level es)
unfolding followed behind
behind_next l e es =
    let ts = word (word_of e) ∷ tokens_behind e.level es in
    ap (followed space) (map_append token_bytes (brackets_to l e.level) ts)
    ∙ join_append (λ q. space ∷ q) (map token_bytes (brackets_to l e.level)) (map token_bytes ts)

-- Behind the last stand the brackets that are still open.
pub behind_last : (l : ℕ) → behind l [] ≡ brackets_text l 1
unfolding behind
behind_last l = refl
