-- The reader's walk takes the tokens of a wanted tree, and gives its entries. Assumes nothing.
use Prim.Native.Nat.{ℕ, suc}
use mathlib.Core.Path.{◌≡◌, refl, sym, ◌∙◌, ap}
use mathlib.Core.Bool.{true, ◌&&◌}
use mathlib.Core.List.{List, [], ◌∷◌, ◌++◌, append_assoc}
use Rattle.paper.specs.Format.{Format}
use Rattle.paper.proofs.Lists.{both}
use Rattle.grammar.specs.Grammar.{Token, opening, closing, word, Name, name_kept, spelled, Trees, no_trees, tree}
use Rattle.grammar.specs.Grammar.{bracketed, trees_tokens, names_kept, Tree, TokensOf}
use Rattle.grammar.specs.Typed.{Wanted, wanted_from, wanted}
use Rattle.grammar.specs.Reader.{Stage, first, behind_name, behind_open, behind_close, may_name, right, walk}
use Rattle.grammar.proofs.NamesRead.{NamesRead}
use Rattle.grammar.proofs.Steps.{step_name, step_open, step_close, may_deep}

-- behind a tree, whether its last token is a name or a bracket, the rest of the tokens gives these entries
pub record Done (f : Format) (d : ℕ) (rest : List Token) (es : List Wanted) : Type 0 where
  pub named : walk f behind_name d rest ≡ right es
  pub closed : walk f behind_close d rest ≡ right es

done_close : (f : Format) (d : ℕ) (rest : List Token) (es : List Wanted) → walk f behind_close d rest ≡ right es → Done f (suc d) (closing ∷ rest) es
done_close f d rest es e =
    record { named = step_close f behind_name d rest es (may_deep d) e; closed = step_close f behind_close d rest es (may_deep d) e }

-- the tokens of trees beneath a name, and beside a tree, are walked
pub record Walks (f : Format) (T : Trees) : Type 0 where
  pub beneath : (n : Name) (s : Stage) (d : ℕ) (rest : List Token) (es : List Wanted) → may_name s d ≡ true → name_kept f n ≡ true → Done f d rest es
      → walk f s d (word (spelled n) ∷ bracketed T (trees_tokens T) ++ rest) ≡ right (record { level = suc d; name = n } ∷ wanted_from (suc (suc d)) T ++ es)
  pub beside : (d : ℕ) (rest : List Token) (es : List Wanted) → Done f (suc d) rest es
      → Done f (suc d) (trees_tokens T ++ rest) (wanted_from (suc (suc d)) T ++ es)

module _ (f : Format) (N : NamesRead f) where
  none_walks : Walks f no_trees
  unfolding trees_tokens wanted_from
  none_walks = record {
    beneath = λ n s d rest es m k e. step_name f s d (spelled n) n rest es m (N.spelled-read n k) e.named;
    beside = λ d rest es e. e;
  }

  -- a tree and the trees beside it, within brackets
  tree_walks : (n : Name) (T U : Trees) (s : Stage) (d : ℕ) (rest : List Token) (es : List Wanted) → name_kept f n ≡ true → Walks f T → Walks f U
      → may_name s (suc d) ≡ true → Done f (suc d) rest es
      → walk f s (suc d) (trees_tokens (tree n T U) ++ rest) ≡ right (wanted_from (suc (suc d)) (tree n T U) ++ es)
  unfolding trees_tokens wanted_from
  tree_walks n T U s d rest es k below side m e =
      let l = suc (suc d) in
      let own = below.beneath n s (suc d) (trees_tokens U ++ rest) (wanted_from l U ++ es) m k (side.beside d rest es e) in
      ap (λ ts. walk f s (suc d) (word (spelled n) ∷ ts)) (append_assoc (bracketed T (trees_tokens T)) (trees_tokens U) rest) ∙ own
      ∙ ap (λ xs. right (record { level = l; name = n } ∷ xs)) (sym (append_assoc (wanted_from (suc l) T) (wanted_from l U) es))

  some_walks : (n : Name) (T U : Trees) → name_kept f n ≡ true → Walks f T → Walks f U → Walks f (tree n T U)
  some_walks n T U k below side = record {
    beneath = λ m s d rest es may kept e.
        step_name f s d (spelled m) m (opening ∷ trees_tokens (tree n T U) ++ (closing ∷ []) ++ rest) (wanted_from (suc (suc d)) (tree n T U) ++ es) may
        (N.spelled-read m kept)
        (step_open f d (trees_tokens (tree n T U) ++ (closing ∷ []) ++ rest) (wanted_from (suc (suc d)) (tree n T U) ++ es)
        (ap (walk f behind_open (suc d)) (append_assoc (trees_tokens (tree n T U)) (closing ∷ []) rest)
        ∙ tree_walks n T U behind_open d (closing ∷ rest) es k below side refl (done_close f d rest es e.closed)));
    beside = λ d rest es e. record {
      named = tree_walks n T U behind_name d rest es k below side (may_deep d) e;
      closed = tree_walks n T U behind_close d rest es k below side (may_deep d) e;
    };
  }

  trees-walk : (T : Trees) → names_kept f T ≡ true → Walks f T
  unfolding names_kept
  trees-walk no_trees k = none_walks
  trees-walk (tree n T U) k =
      let (a, u) = both (name_kept f n && names_kept f T) (names_kept f U) k in
      let (own, t) = both (name_kept f n) (names_kept f T) a in
      some_walks n T U own (trees-walk T t) (trees-walk U u)

  ended : Done f 0 [] []
  unfolding walk
  ended = record { named = refl; closed = refl }

  pub walk_tree : (ts : List Token) (t : Tree) → TokensOf f ts t → walk f first 0 ts ≡ right (wanted t)
  unfolding names_kept trees_tokens wanted_from
  walk_tree ts t o =
      let T = t.beneath in
      let (a, u) = both (name_kept f t.name && names_kept f T) true o.kept in
      let (own, k) = both (name_kept f t.name) (names_kept f T) a in
      ap (walk f first 0) o.are ∙ (trees-walk T k).beneath t.name first 0 [] [] refl own ended
