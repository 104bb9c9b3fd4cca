-- What the reader's walk takes is the tokens of a wanted tree. Assumes nothing.
use Prim.Native.Nat.{ℕ, zero, suc, pred}
use native.Mathlib.Omega.{arith}
use mathlib.Core.Path.{◌≡◌, refl, sym, ◌∙◌, ap}
use mathlib.Core.Bool.{Bool, true, false, ◌&&◌, false≢true}
use mathlib.Core.List.{List, [], ◌∷◌, ◌++◌, append_assoc}
use mathlib.Core.Option.{Option, none, some}
use lib.Dec.{ltb, eqb}
use borrow.Author.Tests.{eqb-true}
use Rattle.paper.specs.Format.{Format}
use Rattle.paper.proofs.Lists.{both, and}
use Rattle.grammar.specs.Grammar.{Token, opening, closing, word, Name, name_kept, spelled, Trees, no_trees, tree}
use Rattle.grammar.specs.Grammar.{bracketed, trees_tokens, names_kept, Tree, TokensOf}
use Rattle.grammar.specs.Typed.{Wanted, wanted_from, wanted}
use Rattle.grammar.specs.Reader.{name_of_word, Stage, first, behind_name, behind_open, behind_close, may_name, may_close}
use Rattle.grammar.specs.Reader.{Walked, wrong, right, with, walk}
use Rattle.grammar.proofs.NamesRead.{NamesRead}
use Rattle.grammar.proofs.Steps.{wrong_right, right_inj, with_ahead, ahead_right, onward, walk_next}

-- ---- what is still to come within d brackets: beside each, trees and its closing bracket
abbrev Open : ℕ → Type 0
Open zero = Unit {0}
Open (suc d) = Trees × Open d

abbrev open_tokens : (d : ℕ) → Open d → List Token
open_tokens zero o = []
open_tokens (suc d) o = trees_tokens o.0 ++ (closing ∷ open_tokens d o.1)

abbrev open_wanted : (d : ℕ) → Open d → List Wanted
open_wanted zero o = []
open_wanted (suc d) o = wanted_from (suc (suc d)) o.0 ++ open_wanted d o.1

abbrev open_kept : Format → (d : ℕ) → Open d → Bool
open_kept f zero o = true
open_kept f (suc d) o = names_kept f o.0 && open_kept f d o.1

-- behind a whole tree
pub record Closes (f : Format) (d : ℕ) (ts : List Token) (es : List Wanted) : Type 0 where
  pub later : Open d
  pub are : ts ≡ open_tokens d later
  pub kept : open_kept f d later ≡ true
  pub entries : es ≡ open_wanted d later

-- behind a name
pub record Follows (f : Format) (d : ℕ) (ts : List Token) (es : List Wanted) : Type 0 where
  pub below : Trees
  pub later : Open d
  pub are : ts ≡ bracketed below (trees_tokens below) ++ open_tokens d later
  pub below_kept : names_kept f below ≡ true
  pub kept : open_kept f d later ≡ true
  pub entries : es ≡ wanted_from (suc (suc d)) below ++ open_wanted d later

-- where a name is due
pub record Named (f : Format) (d : ℕ) (ts : List Token) (es : List Wanted) : Type 0 where
  pub name : Name
  pub name_kept_lem : name_kept f name ≡ true
  pub tail : List Token
  pub others : List Wanted
  pub follows : Follows f d tail others
  pub are : ts ≡ word (spelled name) ∷ tail
  pub entries : es ≡ record { level = suc d; name = name } ∷ others

abbrev Taken : Format → Stage → ℕ → List Token → List Wanted → Type 0
Taken f first d ts es = Named f d ts es
Taken f behind_name d ts es = Follows f d ts es
Taken f behind_open d ts es = Named f d ts es
Taken f behind_close d ts es = Closes f d ts es

-- ---- from one to another
closes_follows : (f : Format) (d : ℕ) (ts : List Token) (es : List Wanted) → Closes f d ts es → Follows f d ts es
unfolding trees_tokens names_kept wanted_from
closes_follows f d ts es c =
    record { below = no_trees; later = c.later; are = c.are; below_kept = refl; kept = c.kept; entries = c.entries }

end_closes : (f : Format) (d : ℕ) (es : List Wanted) → eqb d 0 ≡ true → right [] ≡ right es → Closes f d [] es
end_closes f zero es m e = record { later = tt; are = refl; kept = refl; entries = sym (right_inj e) }
end_closes f (suc d) es m e = let z : ⊥ = omega (arith, eqb-true (suc d) 0 m) in absurd z

bracket_closes : (f : Format) (d : ℕ) (ts : List Token) (es : List Wanted) → Closes f d ts es → Closes f (suc d) (closing ∷ ts) es
unfolding trees_tokens names_kept wanted_from
bracket_closes f d ts es c = record {
  later = (no_trees, c.later);
  are = ap {B = List Token} (λ l. closing ∷ l) c.are;
  kept = c.kept;
  entries = c.entries;
}

-- a name and what follows it are a tree, the trees beside it and what is still to come
tree_closes : (f : Format) (d : ℕ) (ts : List Token) (es : List Wanted) → Named f (suc d) ts es → Closes f (suc d) ts es
unfolding trees_tokens names_kept wanted_from
tree_closes f d ts es c =
    let x = c.follows in
    let T = x.below in
    let U = x.later.0 in
    let o = x.later.1 in
    let l = suc (suc d) in
    let ks = both (names_kept f U) (open_kept f d o) x.kept in
    record {
      later = (tree c.name T U, o);
      are = c.are ∙ ap {B = List Token} (λ l. word (spelled c.name) ∷ l)
          (x.are ∙ sym (append_assoc (bracketed T (trees_tokens T)) (trees_tokens U) (closing ∷ open_tokens d o)));
      kept = and (and (and c.name_kept_lem x.below_kept) ks.0) ks.1;
      entries = c.entries ∙ ap {B = List Wanted} (λ l. record { level = suc (suc d); name = c.name } ∷ l)
          (x.entries ∙ sym (append_assoc (wanted_from (suc l) T) (wanted_from l U) (open_wanted d o)));
    }

-- within brackets that open behind a name
bracket-follows : (f : Format) (d : ℕ) (ts : List Token) (es : List Wanted) → Named f (suc d) ts es → Follows f d (opening ∷ ts) es
unfolding tree_closes
bracket-follows f d ts es c =
    let x = tree_closes f d ts es c in
    let T = x.later.0 in
    let o = x.later.1 in
    let ks = both (names_kept f T) (open_kept f d o) x.kept in
    record {
      below = T;
      later = o;
      are = ap {B = List Token} (λ l. opening ∷ l) (x.are ∙ sym (append_assoc (trees_tokens T) (closing ∷ []) (open_tokens d o)));
      below_kept = ks.0;
      kept = ks.1;
      entries = x.entries;
    }

-- ---- a step taken
-- a closing bracket, where one may stand
close_taken : (f : Format) (d : ℕ) (ts : List Token) (es : List Wanted) → ltb 0 d ≡ true → Closes f (pred d) ts es → Closes f d (closing ∷ ts) es
close_taken f zero ts es m c = absurd (false≢true m)
close_taken f (suc d) ts es m c = bracket_closes f d ts es c

-- a name behind a tree, where one may stand
name_closes : (f : Format) (d : ℕ) (ts : List Token) (es : List Wanted) → ltb 0 d ≡ true → Named f d ts es → Closes f d ts es
name_closes f zero ts es m c = absurd (false≢true m)
name_closes f (suc d) ts es m c = tree_closes f d ts es c

record CloseStep (f : Format) (s : Stage) (d : ℕ) (ts : List Token) (es : List Wanted) : Type 0 where
  may : may_close s d ≡ true
  goes_on : walk f behind_close (pred d) ts ≡ right es

close_step : (f : Format) (s : Stage) (d : ℕ) (ts : List Token) (es : List Wanted) → walk f s d (closing ∷ ts) ≡ right es → CloseStep f s d ts es
close_step f s d ts es e = go (may_close s d) refl (sym (walk_next f s d closing ts) ∙ e)
  where
    go : (b : Bool) → may_close s d ≡ b
        → onward f (elim b [ true ↦ some (record { stage = behind_close; depth = pred d; entry = [] }) | false ↦ none ]) ts ≡ right es
        → CloseStep f s d ts es
    go true m o =
        let (fs, w, q) = ahead_right [] es (walk f behind_close (pred d) ts) o in
        record { may = m; goes_on = w ∙ ap (λ l. right l) (sym q) }
    go false m o = absurd (wrong_right 0 es o)

record NameStep (f : Format) (s : Stage) (d : ℕ) (w : List ℕ) (ts : List Token) (es : List Wanted) : Type 0 where
  may : may_name s d ≡ true
  name : Name
  reads : name_of_word f w ≡ some name
  others : List Wanted
  goes_on : walk f behind_name d ts ≡ right others
  entries : es ≡ record { level = suc d; name = name } ∷ others

name_step : (f : Format) (s : Stage) (d : ℕ) (w : List ℕ) (ts : List Token) (es : List Wanted) → walk f s d (word w ∷ ts) ≡ right es
    → NameStep f s d w ts es
unfolding walk
name_step f s d w ts es e = go (may_name s d) refl (name_of_word f w) refl e
  where
    go : (b : Bool) → may_name s d ≡ b → (o : Option Name) → name_of_word f w ≡ o
        → elim b as (λ _. Walked) [
          | true ↦ elim o [ some n ↦ with (record { level = suc d; name = n }) (walk f behind_name d ts) | none ↦ wrong 0 ]
          | false ↦ wrong 0
        ] ≡ right es
        → NameStep f s d w ts es
    go true m none r q = absurd (wrong_right 0 es q)
    go true m (some n) r q =
        let entry : Wanted = record { level = suc d; name = n } in
        let (fs, k, h) = ahead_right (entry ∷ []) es (walk f behind_name d ts) (sym (with_ahead entry (walk f behind_name d ts)) ∙ q) in
        record { may = m; name = n; reads = r; others = fs; goes_on = k; entries = h }
    go false m o r q = absurd (wrong_right 0 es q)

-- ---- the whole walk
module _ (f : Format) (N : NamesRead f) where
  name_taken : (s : Stage) (d : ℕ) (w : List ℕ) (ts : List Token) (es : List Wanted) (x : NameStep f s d w ts es) → Follows f d ts x.others
      → Named f d (word w ∷ ts) es
  name_taken s d w ts es x c = record {
    name = x.name;
    name_kept_lem = N.read_kept w x.name x.reads;
    tail = ts;
    others = x.others;
    follows = c;
    are = ap (λ v. word v ∷ ts) (sym (N.read-spelled w x.name x.reads));
    entries = x.entries;
  }

  end_taken : (d : ℕ) (es : List Wanted) → elim (eqb d 0) as (λ _. Walked) [ true ↦ right [] | false ↦ wrong 0 ] ≡ right es → Closes f d [] es
  end_taken d es e = go (eqb d 0) refl e
    where
      go : (b : Bool) → eqb d 0 ≡ b → elim b as (λ _. Walked) [ true ↦ right [] | false ↦ wrong 0 ] ≡ right es → Closes f d [] es
      go true m q = end_closes f d es m q
      go false m q = absurd (wrong_right 0 es q)

  taken : (ts : List Token) (s : Stage) (d : ℕ) (es : List Wanted) → walk f s d ts ≡ right es → Taken f s d ts es
  unfolding walk
  taken [] first d es e = absurd (wrong_right 0 es e)
  taken [] behind_name d es e = closes_follows f d [] es (end_taken d es e)
  taken [] behind_open d es e = absurd (wrong_right 0 es e)
  taken [] behind_close d es e = end_taken d es e
  taken (opening ∷ ts) first d es e = absurd (wrong_right 0 es e)
  taken (opening ∷ ts) behind_name d es e =
      let (fs, w, q) = ahead_right [] es (walk f behind_open (suc d) ts) (sym (walk_next f behind_name d opening ts) ∙ e) in
      bracket-follows f d ts es (taken ts behind_open (suc d) es (w ∙ ap (λ l. right l) (sym q)))
  taken (opening ∷ ts) behind_open d es e = absurd (wrong_right 0 es e)
  taken (opening ∷ ts) behind_close d es e = absurd (wrong_right 0 es e)
  taken (closing ∷ ts) first d es e = absurd (wrong_right 0 es e)
  taken (closing ∷ ts) behind_name d es e =
      let x = close_step f behind_name d ts es e in
      closes_follows f d (closing ∷ ts) es (close_taken f d ts es x.may (taken ts behind_close (pred d) es x.goes_on))
  taken (closing ∷ ts) behind_open d es e = absurd (wrong_right 0 es e)
  taken (closing ∷ ts) behind_close d es e =
      let x = close_step f behind_close d ts es e in
      close_taken f d ts es x.may (taken ts behind_close (pred d) es x.goes_on)
  taken (word w ∷ ts) first d es e =
      let x = name_step f first d w ts es e in
      name_taken first d w ts es x (taken ts behind_name d x.others x.goes_on)
  taken (word w ∷ ts) behind_name d es e =
      let x = name_step f behind_name d w ts es e in
      let c = name_taken behind_name d w ts es x (taken ts behind_name d x.others x.goes_on) in
      closes_follows f d (word w ∷ ts) es (name_closes f d (word w ∷ ts) es x.may c)
  taken (word w ∷ ts) behind_open d es e =
      let x = name_step f behind_open d w ts es e in
      name_taken behind_open d w ts es x (taken ts behind_name d x.others x.goes_on)
  taken (word w ∷ ts) behind_close d es e =
      let x = name_step f behind_close d w ts es e in
      let c = name_taken behind_close d w ts es x (taken ts behind_name d x.others x.goes_on) in
      name_closes f d (word w ∷ ts) es x.may c

  pub tree_walked : (ts : List Token) (es : List Wanted) → walk f first 0 ts ≡ right es → (t : Tree) × TokensOf f ts t × (es ≡ wanted t)
  unfolding trees_tokens names_kept wanted_from
  tree_walked ts es e =
      let c = taken ts first 0 es e in
      let x = c.follows in
      let own = ap {B = List Token} (λ l. word (spelled c.name) ∷ l) x.are in (
        record { name = c.name; beneath = x.below },
        record { kept = and (and c.name_kept_lem x.below_kept) refl; are = c.are ∙ own },
        c.entries ∙ ap {B = List Wanted} (λ l. record { level = 1; name = c.name } ∷ l) x.entries,
      )
