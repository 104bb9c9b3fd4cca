-- The tokens of a line are those that it is made of. Assumes nothing.
use Prim.Native.Nat.{ℕ, zero, suc, ◌+◌, ◌≤◌, ◌-◌}
use native.Mathlib.Omega.{arith}
use native.Mathlib.Numerals.{add-one}
use mathlib.Core.Path.{◌≡◌, refl, sym, ◌∙◌, ap}
use mathlib.Core.Bool.{Bool, true, false, ◌&&◌}
use mathlib.Core.List.{List, [], ◌∷◌, ◌++◌, map, append-nil}
use borrow.Author.Tests.{ltb-true, lt-ltb}
use lib.Dec.{ltb}
use lib.ListN.{length, drop, replicate, length-append}
use lib.Seq.{drop-append_seam}
use Rattle.paper.specs.Lists.{all}
use Rattle.paper.specs.Format.{Format}
use Rattle.paper.proofs.Lists.{and, both}
use Rattle.grammar.specs.Text.{dot, space, parted, followed}
use Rattle.grammar.specs.Names.{name_text}
use Rattle.grammar.specs.Grammar.{Token, opening, closing, word, plain, run, Placed, tokens_from, tokens, Name, name_kept, dotted, spelled}
use Rattle.grammar.specs.Typed.{Wanted, brackets_to, line_tokens, token_bytes, line_of}
use Rattle.grammar.proofs.Tokens.{tokens-space, tokens_open, tokens_close, tokens-word, run-plain}
use Rattle.grammar.proofs.Named.{all_kept}
use Rattle.grammar.proofs.Parts.{parted-alone, parted_cons, name_plain, name_some}

-- a word has a byte, and its bytes are plain
abbrev pub token_kept : Token → Bool
token_kept opening = true
token_kept closing = true
token_kept (word w) = ltb 0 (length w) && all plain w

-- ---- a token before a space, or at the end
run_append : (w rest : List ℕ) → all plain w ≡ true → run rest ≡ [] → run (w ++ rest) ≡ w
run_append [] rest e none = none
run_append (b ∷ bs) rest e none =
    let h = both (plain b) (all plain bs) e in
    run-plain b (bs ++ rest) h.0 ∙ ap {B = List ℕ} (λ l. b ∷ l) (run_append bs rest h.1 none)

word_first_lem : (i : ℕ) (w rest : List ℕ) → token_kept (word w) ≡ true → run rest ≡ []
    → tokens_from space i (w ++ rest) ≡ record { at = i; token = word w } ∷ tokens_from space (i + length w) rest
word_first_lem i [] rest e none = absurd (omega (arith, ltb-true 0 0 (both (ltb 0 0) true e).0))
word_first_lem i (b ∷ bs) rest e none =
    let are = (both (ltb 0 (length (b ∷ bs))) (all plain (b ∷ bs)) e).1 in
    let r = run_append (b ∷ bs) rest are none in
    tokens-word i b (bs ++ rest) (both (plain b) (all plain bs) are).0
    ∙ ap {B = List Placed} (λ x. record { at = i; token = word x } ∷ tokens_from space (i + length x) (drop (length x) (b ∷ bs ++ rest))) r
    ∙ ap {B = List Placed} (λ l. record { at = i; token = word (b ∷ bs) } ∷ tokens_from space (i + length (b ∷ bs)) l) (drop-append_seam (b ∷ bs) rest)

pub token_first : (i : ℕ) (t : Token) (rest : List ℕ) → token_kept t ≡ true → run rest ≡ []
    → tokens_from space i (token_bytes t ++ rest) ≡ record { at = i; token = t } ∷ tokens_from space (i + length (token_bytes t)) rest
token_first i opening rest e none = rw add-one (tokens_open i rest)
token_first i closing rest e none = rw add-one (tokens_close i rest)
token_first i (word w) rest e none = word_first_lem i w rest e none

-- ---- a line
tokens_at : ℕ → List ℕ → List Token
tokens_at i text = map (λ (p : Placed). p.token) (tokens_from space i text)

line_from : (i : ℕ) (t : Token) (ts : List Token) → all token_kept (t ∷ ts) ≡ true → tokens_at i (parted space (map token_bytes (t ∷ ts))) ≡ t ∷ ts
unfolding tokens_at tokens_from
line_from i t [] e =
    ap (tokens_at i) (parted-alone space (token_bytes t) ∙ sym (append-nil (token_bytes t)))
    ∙ ap (map (λ (p : Placed). p.token)) (token_first i t [] (both (token_kept t) true e).0 refl)
line_from i t (u ∷ ts) e =
    let h = both (token_kept t) (all token_kept (u ∷ ts)) e in
    let rest = parted space (map token_bytes (u ∷ ts)) in
    let place = i + length (token_bytes t) in
    ap (tokens_at i) (parted_cons space (token_bytes t) (token_bytes u) (map token_bytes ts))
    ∙ ap (map (λ (p : Placed). p.token)) (token_first i t (space ∷ rest) h.0 refl)
    ∙ ap {B = List Token} (λ l. t ∷ l) (ap (map (λ (p : Placed). p.token)) (tokens-space place rest) ∙ line_from (suc place) u ts h.1)

pub tokens_line : (ts : List Token) → all token_kept ts ≡ true → tokens (parted space (map token_bytes ts)) ≡ ts
unfolding tokens_from parted tokens_at
tokens_line [] e = refl
tokens_line (t ∷ ts) e = line_from 0 t ts e

-- ---- names as words
all_append : {A : Type 0} (p : A → Bool) (xs ys : List A) → all p xs ≡ true → all p ys ≡ true → all p (xs ++ ys) ≡ true
all_append p [] ys e q = q
all_append p (x ∷ xs) ys e q = let h = both (p x) (all p xs) e in and h.0 (all_append p xs ys h.1 q)

dotted-plain : (ls : List ℕ) → all plain (followed dot (map name_text ls)) ≡ true
unfolding followed
dotted-plain [] = refl
dotted-plain (l ∷ ls) = all_append plain (dot ∷ name_text l) (followed dot (map name_text ls)) (name_plain l) (dotted-plain ls)

dotted-word : (ls : List ℕ) → 1 ≤ length ls → (1 ≤ length (dotted ls)) × (all plain (dotted ls) ≡ true)
unfolding dotted parted
dotted-word [] le = absurd (omega arith)
dotted-word (l ∷ ls) le =
    let rest = followed dot (map name_text ls) in
    (omega (arith, length-append (name_text l) rest, name_some l), all_append plain (name_text l) rest (name_plain l) (dotted-plain ls))

pub spelled-word : (f : Format) (n : Name) → name_kept f n ≡ true → token_kept (word (spelled n)) ≡ true
unfolding name_kept spelled
spelled-word f n e = go n.whole (dotted-word n.labels (ltb-true 0 (length n.labels) (both (ltb 0 (length n.labels)) (all_kept f n.labels) e).0))
  where
    go : (whole : Bool) → (1 ≤ length (dotted n.labels)) × (all plain (dotted n.labels) ≡ true)
        → token_kept (word (spelled (record { whole = whole; labels = n.labels }))) ≡ true
    go true (long, are) = and (lt-ltb 0 (suc (length (dotted n.labels))) (omega arith)) are
    go false (long, are) = and (lt-ltb 0 (length (dotted n.labels)) long) are

-- ---- the line of wanted entries
brackets_kept : (l m : ℕ) → all token_kept (brackets_to l m) ≡ true
brackets_kept l m = go (ltb l m)
  where
    closings : (k : ℕ) → all token_kept (replicate k closing) ≡ true
    closings zero = refl
    closings (suc k) = closings k

    go : (t : Bool) → all token_kept (elim t [ true ↦ opening ∷ [] | false ↦ replicate (l - m) closing ]) ≡ true
    go true = refl
    go false = closings (l - m)

module _ (f : Format) where
  pub line_kept : (es : List Wanted) → all (λ (e : Wanted). name_kept f e.name) es ≡ true → all token_kept (line_tokens es) ≡ true
  unfolding line_tokens
  line_kept [] k = refl
  line_kept (e ∷ []) k = and (spelled-word f e.name (both (name_kept f e.name) true k).0) (brackets_kept e.level 1)
  line_kept (e ∷ x ∷ es) k =
      let h = both (name_kept f e.name) (all (λ (e : Wanted). name_kept f e.name) (x ∷ es)) k in
      and (spelled-word f e.name h.0)
      (all_append token_kept (brackets_to e.level x.level) (line_tokens (x ∷ es)) (brackets_kept e.level x.level) (line_kept (x ∷ es) h.1))

  -- the tokens of a printed line
  pub tokens-printed : (es : List Wanted) → all (λ (e : Wanted). name_kept f e.name) es ≡ true → tokens (line_of es) ≡ line_tokens es
  unfolding line_of
  tokens-printed es k = tokens_line (line_tokens es) (line_kept es k)
