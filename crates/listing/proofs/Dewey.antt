-- The numbers that a record holds, and a Dewey number, as text. Assumes nothing.
use Prim.Native.Nat.{ℕ, zero, suc, ◌+◌, ◌*◌, ◌-◌, ◌≤◌, min}
use native.Mathlib.Numerals.{add-one}
use native.Mathlib.Omega.{arith}
use mathlib.Core.Path.{◌≡◌, refl, sym, ◌∙◌, ap}
use mathlib.Core.List.{List, [], ◌∷◌, ◌++◌, map, append-nil}
use lib.ListN.{take}
use Rattle.paper.specs.Format.{word, words}
use Rattle.paper.proofs.Lists.{map_append, join_append}
use Rattle.grammar.specs.Text.{dot, decimal, followed, parted}
use Rattle.listing.specs.Listing.{dewey_text}
use Rattle.names.specs.Put.{Put}
use Rattle.names.proofs.Putting.{put_then, put_as}

-- ---- the numbers that a record holds from a byte on
-- One number more.
words_more : (k : ℕ) (b : List ℕ) (i : ℕ) → words (suc k) b i ≡ words k b i ++ (word b (i + 2 * k) ∷ [])
words_more zero b i = ap (λ n. word b n ∷ []) (omega arith)
words_more (suc k) b i =
    let place : suc (suc i) + 2 * k ≡ i + 2 * suc k = omega arith in
    ap (λ ws. word b i ∷ ws) (words_more k b (suc (suc i)) ∙ ap (λ n. words k b (suc (suc i)) ++ (word b n ∷ [])) place)

-- Of n numbers there are no more than n to take.
pub take_words : (l n m : ℕ) (b : List ℕ) (i : ℕ) → m ≡ min l n → take l (words n b i) ≡ words m b i
take_words zero n zero b i e = refl
take_words (suc l) zero zero b i e = refl
take_words (suc l) (suc n) (suc m) b i e = ap (λ ws. word b i ∷ ws) (take_words l n m b (suc (suc i)) (omega arith))
take_words zero n (suc m) b i e = absurd (omega arith)
take_words (suc l) zero (suc m) b i e = absurd (omega arith)
take_words (suc l) (suc n) zero b i e = absurd (omega arith)

-- the first k of them, the byte c before each; `said` is the text of a number
abbrev pub leading : (ℕ → List ℕ) → ℕ → List ℕ → ℕ → ℕ → List ℕ
leading said c b from k = followed c (map said (words k b from))

-- The next of them is put.
pub leading_put : {l l' l'' : List ℕ} {at i j : ℕ} (said : ℕ → List ℕ) (c : ℕ) (b : List ℕ) (from k x : ℕ) → x ≡ word b (from + 2 * k)
    → Put l at (leading said c b from k) l' i → Put l' i (c ∷ said x) l'' j → Put l at (leading said c b from (k + 1)) l'' j
unfolding followed
leading_put said c b from k x e before next =
    let y = word b (from + 2 * k) in
    let ws = words k b from in
    let more : leading said c b from (k + 1) ≡ leading said c b from k ++ (c ∷ said y) =
    ap (leading said c b from) (add-one k)
    ∙ ap (λ l. followed c (map said l)) (words_more k b from)
    ∙ ap (followed c) (map_append said ws (y ∷ []))
    ∙ join_append (λ q. c ∷ q) (map said ws) (said y ∷ [])
    ∙ ap (λ l. leading said c b from k ++ l) (append-nil (c ∷ said y)) in
    put_as (put_then before next) (sym (more ∙ ap (λ z. leading said c b from k ++ (c ∷ said z)) (sym e)))

-- ---- as text
-- the first k numbers after the first, a dot before each
abbrev pub further : ℕ → List ℕ → List ℕ
further k held = leading decimal dot held 6 k

-- They stand after the first.
pub list_parts : (n : ℕ) (held : List ℕ) → 1 ≤ n → decimal (word held 4) ++ further (n - 1) held ≡ dewey_text (words n held 4)
unfolding parted dewey_text
list_parts zero held le = absurd (omega arith)
list_parts (suc m) held le = let less : suc m - 1 ≡ m = omega arith in ap (λ k. decimal (word held 4) ++ further k held) less

-- No numbers are no text.
pub no_numbers : (n : ℕ) (held : List ℕ) → n ≡ 0 → [] ≡ dewey_text (words n held 4)
unfolding parted dewey_text
no_numbers zero held none = refl
no_numbers (suc n) held none = absurd (omega arith)
