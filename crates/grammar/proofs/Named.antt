-- The name that a word spells: a kept name is read from its word, and what is read is kept and spells the word. Assumes nothing.
use Prim.Native.Nat.{ℕ, ◌≤◌}
use native.Mathlib.Omega.{arith}
use mathlib.Core.Path.{◌≡◌, refl, sym, ◌∙◌, ap, ap₂, subst}
use mathlib.Core.Bool.{Bool, true, false, not}
use mathlib.Core.List.{List, [], ◌∷◌, ◌++◌, map}
use mathlib.Core.Option.{Option, none, some}
use borrow.Author.Tests.{not-true, ltb-true, lt-ltb, eqb-true}
use lib.Dec.{eqb, ltb}
use lib.ListN.{length, length-map}
use Rattle.paper.specs.Lists.{all, between}
use Rattle.paper.specs.Format.{Format}
use Rattle.paper.proofs.Lists.{and, both, within}
use Rattle.grammar.specs.Text.{dot, parted, followed}
use Rattle.grammar.specs.Names.{name_text}
use Rattle.grammar.specs.Grammar.{Name, name_kept, dotted, spelled}
use Rattle.grammar.specs.Reader.{label_of, parts, labels_of, named, name_of_word}
use Rattle.grammar.proofs.LabelNames.{in_range, label_is, label_right}
use Rattle.grammar.proofs.NamesRead.{NamesRead}
use Rattle.grammar.proofs.Parts.{undotted, parts-parted, parts-some, parted-parts, name_undotted, name_some}

module _ (f : Format) where
  -- each of these is a label of the format
  abbrev pub all_kept : List ℕ → Bool
  all_kept ls = all (λ x. between 1 x f.labels) ls

  -- ---- labels and their words
  labels-read : (ls : List ℕ) → all_kept ls ≡ true → map (label_of f) (map name_text ls) ≡ ls
  labels-read [] e = refl
  labels-read (l ∷ ls) e =
      let h = both (between 1 l f.labels) (all_kept ls) e in
      ap₂ {C = List ℕ} (λ x xs. x ∷ xs) (label_is f l (name_text l) h.0 refl) (labels-read ls h.1)

  labels_positive : (ls : List ℕ) → all_kept ls ≡ true → all (ltb 0) ls ≡ true
  labels_positive [] e = refl
  labels_positive (l ∷ ls) e =
      let h = both (between 1 l f.labels) (all_kept ls) e in
      and (lt-ltb 0 l (within 1 l f.labels h.0).0) (labels_positive ls h.1)

  words-read : (ps : List (List ℕ)) → all (ltb 0) (map (label_of f) ps) ≡ true
      → (all_kept (map (label_of f) ps) ≡ true) × (map name_text (map (label_of f) ps) ≡ ps)
  words-read [] e = (refl, refl)
  words-read (p ∷ ps) e =
      let h = both (ltb 0 (label_of f p)) (all (ltb 0) (map (label_of f) ps)) e in
      let right = label_right f p (ltb-true 0 (label_of f p) h.0) in
      let rest = words-read ps h.1 in
      (and right.0 rest.0, ap₂ {C = List (List ℕ)} (λ x xs. x ∷ xs) right.1 rest.1)

  names_undotted : (ls : List ℕ) → all undotted (map name_text ls) ≡ true
  names_undotted [] = refl
  names_undotted (l ∷ ls) = and (name_undotted l) (names_undotted ls)

  -- ---- a list of labels
  pub dotted-read : (ls : List ℕ) → 1 ≤ length ls → all_kept ls ≡ true → labels_of f (dotted ls) ≡ ls
  unfolding labels_of dotted
  dotted-read [] le e = absurd (omega arith)
  dotted-read (l ∷ ls) le e =
      ap (map (label_of f)) (parts-parted (name_text l) (map name_text ls) (names_undotted (l ∷ ls))) ∙ labels-read (l ∷ ls) e

  pub read-labels : (w : List ℕ) → all (ltb 0) (labels_of f w) ≡ true
      → (1 ≤ length (labels_of f w)) × (all_kept (labels_of f w) ≡ true) × (dotted (labels_of f w) ≡ w)
  unfolding labels_of dotted
  read-labels w e =
      let read = words-read (parts w) e in
      (rw (length-map (parts w) (label_of f)) (parts-some w), read.0, ap (parted dot) read.1 ∙ parted-parts w)

  -- ---- a name
  -- a word that does not begin with a dot
  plain_word : (ls : List ℕ) → 1 ≤ length ls → name_of_word f (dotted ls) ≡ named false (labels_of f (dotted ls))
  unfolding name_of_word dotted parted followed
  plain_word [] le = absurd (omega arith)
  plain_word (l ∷ ls) le = go (name_text l) (name_some l) (name_undotted l)
    where
      go : (w : List ℕ) → 1 ≤ length w → undotted w ≡ true
          → name_of_word f (w ++ followed dot (map name_text ls)) ≡ named false (labels_of f (w ++ followed dot (map name_text ls)))
      go [] le e = absurd (omega arith)
      go (b ∷ bs) le e = rw (not-true (eqb b dot) (both (not (eqb b dot)) (undotted bs) e).0, name_of_word) refl

  named-is : (whole : Bool) (ls : List ℕ) → all (ltb 0) ls ≡ true → named whole ls ≡ some (record { whole = whole; labels = ls })
  named-is whole ls e = ap {B = Option Name} (λ t. elim t [ true ↦ some (record { whole = whole; labels = ls }) | false ↦ none ]) e

  is-named : (whole : Bool) (ls : List ℕ) (n : Name) → named whole ls ≡ some n
      → (all (ltb 0) ls ≡ true) × (record { whole = whole; labels = ls } ≡ n)
  is-named whole ls n e = go (all (ltb 0) ls) refl e
    where
      go : (t : Bool) → all (ltb 0) ls ≡ t → ◌≡◌ {A = Option Name} (elim t [ true ↦ some (record { whole = whole; labels = ls }) | false ↦ none ]) (some n)
          → (all (ltb 0) ls ≡ true) × (◌≡◌ {A = Name} (record { whole = whole; labels = ls }) n)
      go true q e = (q, cc)
      go false q e = let z : ◌≡◌ {A = ℕ} 0 1 = cc in absurd (omega arith)

  pub spelled-read : (n : Name) → name_kept f n ≡ true → name_of_word f (spelled n) ≡ some n
  unfolding name_kept spelled name_of_word
  spelled-read n e = go n.whole
    where
      h : (ltb 0 (length n.labels) ≡ true) × (all_kept n.labels ≡ true)
      h = both (ltb 0 (length n.labels)) (all_kept n.labels) e

      long : 1 ≤ length n.labels
      long = ltb-true 0 (length n.labels) h.0

      is : (whole : Bool) → named whole (labels_of f (dotted n.labels)) ≡ some (record { whole = whole; labels = n.labels })
      is whole = ap (named whole) (dotted-read n.labels long h.1) ∙ named-is whole n.labels (labels_positive n.labels h.1)

      go : (whole : Bool) → name_of_word f (spelled (record { whole = whole; labels = n.labels })) ≡ some (record { whole = whole; labels = n.labels })
      go true = is true
      go false = plain_word n.labels long ∙ is false

  -- what is read of the labels in a word, behind a dot or not
  read_as_lem : (whole : Bool) (w : List ℕ) (n : Name) → named whole (labels_of f w) ≡ some n
      → (name_kept f n ≡ true) × (spelled n ≡ elim whole [ true ↦ dot ∷ w | false ↦ w ])
  unfolding name_kept spelled
  read_as_lem whole w n e =
      let is = is-named whole (labels_of f w) n e in
      let read = read-labels w is.0 in
      subst (λ n. (name_kept f n ≡ true) × (spelled n ≡ elim whole [ true ↦ dot ∷ w | false ↦ w ])) is.1
      (and (lt-ltb 0 (length (labels_of f w)) read.0) read.1, as_word whole read.2)
    where
      as_word : (whole : Bool) → dotted (labels_of f w) ≡ w
          → spelled (record { whole = whole; labels = labels_of f w }) ≡ elim whole [ true ↦ dot ∷ w | false ↦ w ]
      as_word true e = ap {B = List ℕ} (λ l. dot ∷ l) e
      as_word false e = e

  read_right : (w : List ℕ) (n : Name) → name_of_word f w ≡ some n → (name_kept f n ≡ true) × (spelled n ≡ w)
  unfolding name_of_word
  read_right [] n e = read_as_lem false [] n e
  read_right (b ∷ bs) n e = go (eqb b dot) refl e
    where
      go : (t : Bool) → eqb b dot ≡ t
          → ◌≡◌ {A = Option Name} (elim t [ true ↦ named true (labels_of f bs) | false ↦ named false (labels_of f (b ∷ bs)) ]) (some n)
          → (name_kept f n ≡ true) × (spelled n ≡ b ∷ bs)
      go true q e = let r = read_as_lem true bs n e in (r.0, r.1 ∙ ap {B = List ℕ} (λ x. x ∷ bs) (sym (eqb-true b dot q)))
      go false q e = read_as_lem false (b ∷ bs) n e

  pub read_kept : (w : List ℕ) (n : Name) → name_of_word f w ≡ some n → name_kept f n ≡ true
  read_kept w n e = (read_right w n e).0

  pub read-spelled : (w : List ℕ) (n : Name) → name_of_word f w ≡ some n → spelled n ≡ w
  read-spelled w n e = (read_right w n e).1

-- the reader's walk has what it needs of names
pub names-read : (f : Format) → 1 ≤ f.labels → NamesRead f
unfolding name_kept
names-read f some_label = record {
  spelled-read = spelled-read f;
  read_kept = read_kept f;
  read-spelled = read-spelled f;
  a_name = record { whole = false; labels = 1 ∷ [] };
  a_name_kept = and (in_range 1 1 f.labels (omega arith) some_label) refl;
}
