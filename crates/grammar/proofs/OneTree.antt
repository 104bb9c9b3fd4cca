-- A text is one of at most one wanted tree. Assumes nothing.
use Prim.Native.Nat.{ℕ}
use mathlib.Core.Path.{◌≡◌, refl, sym, ◌∙◌, ap}
use mathlib.Core.Bool.{Bool, true, false, ◌&&◌, true≢false, false≢true}
use mathlib.Core.List.{List, [], ◌∷◌, ◌++◌, append_assoc}
use mathlib.Core.Option.{some-injective}
use Rattle.paper.specs.Format.{Format}
use Rattle.paper.proofs.Lists.{both}
use Rattle.grammar.specs.Grammar.{Token, opening, closing, word, Name, name_kept, spelled, Trees, no_trees, tree}
use Rattle.grammar.specs.Grammar.{bracketed, trees_tokens, names_kept, Tree, alone, TextOf}
use Rattle.grammar.specs.Reader.{name_of_word}
use Rattle.grammar.proofs.NamesRead.{NamesRead}

-- ---- lists of tokens
-- a word begins the list; an opening bracket does
abbrev word_first : List Token → Bool
word_first [] = false
word_first (opening ∷ ts) = false
word_first (closing ∷ ts) = false
word_first (word w ∷ ts) = true

abbrev open_first : List Token → Bool
open_first [] = false
open_first (opening ∷ ts) = true
open_first (closing ∷ ts) = false
open_first (word w ∷ ts) = false

abbrev first_word : List Token → List ℕ
first_word [] = []
first_word (opening ∷ ts) = []
first_word (closing ∷ ts) = []
first_word (word w ∷ ts) = w

abbrev others : List Token → List Token
others [] = []
others (t ∷ ts) = ts

-- the list neither goes on with a tree nor with brackets beneath a name
record Ends (ts : List Token) : Type 0 where
  no_word : word_first ts ≡ false
  no_open : open_first ts ≡ false

closing_ends : (ts : List Token) → Ends (closing ∷ ts)
closing_ends ts = record { no_word = refl; no_open = refl }

no_open_behind : (U : Trees) (rest : List Token) → Ends rest → open_first (trees_tokens U ++ rest) ≡ false
unfolding trees_tokens
no_open_behind no_trees rest x = x.no_open
no_open_behind (tree n T U) rest x = refl

-- ---- trees with the same tokens
-- the same trees, and the same tokens behind them
abbrev Alike : Trees → Trees → List Token → List Token → Type 0
Alike T U rest tail = (T ≡ U) × (rest ≡ tail)

module _ (f : Format) (N : NamesRead f) where
  name_alike : (m n : Name) → name_kept f m ≡ true → name_kept f n ≡ true → spelled m ≡ spelled n → m ≡ n
  name_alike m n k l e = some-injective m n (sym (N.spelled-read m k) ∙ ap (name_of_word f) e ∙ N.spelled-read n l)

  -- the tokens settle which trees they are of
  abbrev Settled : Trees → Type 0
  Settled T = (U : Trees) (rest tail : List Token) → names_kept f T ≡ true → names_kept f U ≡ true → Ends rest → Ends tail
      → trees_tokens T ++ rest ≡ trees_tokens U ++ tail → Alike T U rest tail

  -- what stands beneath a name, and beside its tree
  beneath_alike : (T : Trees) → Settled T → (P : Trees) (rest tail : List Token) → names_kept f T ≡ true → names_kept f P ≡ true
      → open_first rest ≡ false → open_first tail ≡ false
      → bracketed T (trees_tokens T) ++ rest ≡ bracketed P (trees_tokens P) ++ tail → Alike T P rest tail
  beneath_alike no_trees settled no_trees rest tail k l x y e = (refl, e)
  beneath_alike no_trees settled (tree n P Q) rest tail k l x y e = absurd (false≢true (sym x ∙ ap open_first e))
  beneath_alike (tree m T U) settled no_trees rest tail k l x y e = absurd (true≢false (ap open_first e ∙ y))
  beneath_alike (tree m T U) settled (tree n P Q) rest tail k l x y e =
      let A = tree m T U in
      let B = tree n P Q in
      let within =
      sym (append_assoc (trees_tokens A) (closing ∷ []) rest) ∙ ap others e ∙ append_assoc (trees_tokens B) (closing ∷ []) tail in
      let (same, behind) = settled B (closing ∷ rest) (closing ∷ tail) k l (closing_ends rest) (closing_ends tail) within in
      (same, ap others behind)

  trees_alike : (T : Trees) → Settled T
  unfolding trees_tokens names_kept
  trees_alike no_trees no_trees rest tail k l x y e = (refl, e)
  trees_alike no_trees (tree n P Q) rest tail k l x y e = absurd (false≢true (sym x.no_word ∙ ap word_first e))
  trees_alike (tree m T U) no_trees rest tail k l x y e = absurd (true≢false (ap word_first e ∙ y.no_word))
  trees_alike (tree m T U) (tree n P Q) rest tail k l x y e =
      let (mt, ku) = both (name_kept f m && names_kept f T) (names_kept f U) k in
      let (km, kt) = both (name_kept f m) (names_kept f T) mt in
      let (nv, lw) = both (name_kept f n && names_kept f P) (names_kept f Q) l in
      let (ln, lv) = both (name_kept f n) (names_kept f P) nv in
      let behind =
      sym (append_assoc (bracketed T (trees_tokens T)) (trees_tokens U) rest) ∙ ap others e
      ∙ append_assoc (bracketed P (trees_tokens P)) (trees_tokens Q) tail in
      let (below, side) = beneath_alike T (trees_alike T) P (trees_tokens U ++ rest) (trees_tokens Q ++ tail) kt lv
      (no_open_behind U rest x) (no_open_behind Q tail y) behind in
      let (beside, left) = trees_alike U Q rest tail ku lw x y side in
      let own = name_alike m n km ln (ap first_word e) in
      (λ i. tree (own i) (below i) (beside i), left)

  abbrev of_trees : Tree → Trees → Tree
  of_trees d no_trees = d
  of_trees d (tree n T U) = record { name = n; beneath = T }

  pub one_tree : (text : List ℕ) (t u : Tree) → TextOf f text t → TextOf f text u → t ≡ u
  one_tree text t u a b =
      let ends : Ends [] = record { no_word = refl; no_open = refl } in
      let same = ap (λ ts. ts ++ []) (sym a.are ∙ b.are) in
      ap (of_trees t) (trees_alike (alone t) (alone u) [] [] a.kept b.kept ends ends same).0
