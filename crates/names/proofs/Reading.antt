-- A word's labels, read part by part. Assumes nothing.
use Prim.Native.Nat.{ℕ, suc, ◌+◌, ◌-◌, ◌≤◌, ◌<◌}
use native.Mathlib.Numerals.{add-one}
use native.Mathlib.Omega.{arith}
use mathlib.Core.Path.{◌≡◌, refl, sym, ◌∙◌, ap, subst}
use mathlib.Core.Logic.{inl}
use mathlib.Core.Bool.{Bool, true, false, false≢true}
use mathlib.Core.List.{List, [], ◌∷◌, ◌++◌, map, append-nil, append_assoc}
use mathlib.Core.Option.{none, some}
use lib.Dec.{eqb, ltb}
use lib.ListN.{length, get_or, take, drop, set, length-append, length-set}
use lib.Seq.{take_all, take-append-le, take-suc-set}
use borrow.Author.Tests.{lt-ltb, eq-eqb, ne_eqb}
use Rattle.paper.specs.Lists.{Has, all}
use Rattle.paper.specs.Format.{Format}
use Rattle.paper.proofs.Lists.{both, and, all-has, has_right}
use Rattle.grammar.specs.Text.{dot}
use Rattle.grammar.specs.Reader.{label_of, labels_of, named, name_of_word}
use Rattle.names.specs.Word.{parts_from, PartEnds, first_at, most_kept}
use Rattle.names.proofs.Parting.{from-within, from_past}

-- ---- the labels of a word
-- the labels of the parts from byte p on
abbrev pub labels_from : Format → ℕ → List ℕ → List ℕ
labels_from f p w = map (label_of f) (parts_from p w)

pub first-none : (w : List ℕ) → length w ≡ 0 → 0 ≡ first_at w
unfolding first_at
first-none [] e = refl
first-none (b ∷ bs) e = absurd (omega arith)

pub first-dot : (w : List ℕ) → 0 < length w → get_or w 0 0 ≡ dot → 1 ≡ first_at w
unfolding first_at
first-dot [] lt e = absurd (omega arith)
first-dot (b ∷ bs) lt e = rw (eq-eqb b dot e, first_at) refl

pub first_other : (w : List ℕ) → 0 < length w → (get_or w 0 0 ≡ dot → ⊥) → 0 ≡ first_at w
unfolding first_at
first_other [] lt ne = absurd (omega arith)
first_other (b ∷ bs) lt ne = rw (ne_eqb b dot ne, first_at) refl

pub first-within : (w : List ℕ) → first_at w ≤ length w
unfolding first_at
first-within [] = omega arith
first-within (b ∷ bs) = go (eqb b dot)
  where
    go : (t : Bool) → (elim t [ true ↦ 1 | false ↦ 0 ]) ≤ suc (length bs)
    go true = omega arith
    go false = omega arith

from_here : (f : Format) (w : List ℕ) (p : ℕ) → p ≤ length w → labels_from f p w ≡ labels_of f (drop p w)
unfolding labels_of
from_here f w p le = ap (map (label_of f)) (from-within w p le)

-- A word's name is of the labels from its first part on, and is whole where that is behind a dot.
pub name_from : (f : Format) (w : List ℕ) → name_of_word f w ≡ named (eqb (first_at w) 1) (labels_from f (first_at w) w)
unfolding first_at name_of_word
name_from f [] = ap (named false) (sym (from_here f [] 0 (omega arith)))
name_from f (b ∷ bs) = go (eqb b dot)
  where
    first : Bool → ℕ
    first t = elim t [ true ↦ 1 | false ↦ 0 ]

    go : (t : Bool)
        → elim t [ true ↦ named true (labels_of f bs) | false ↦ named false (labels_of f (b ∷ bs)) ]
        ≡ named (eqb (first t) 1) (labels_from f (first t) (b ∷ bs))
    go true = ap (named true) (sym (from_here f (b ∷ bs) 1 (omega arith)))
    go false = ap (named false) (sym (from_here f (b ∷ bs) 0 (omega arith)))

-- It spells one where no label is 0, and else none.
all_named : (whole : Bool) (ls : List ℕ) → all (ltb 0) ls ≡ true → named whole ls ≡ some (record { whole = whole; labels = ls })
all_named whole ls e = rw (e, named) refl

not_named : (whole : Bool) (ls : List ℕ) → all (ltb 0) ls ≡ false → named whole ls ≡ none
not_named whole ls e = rw (e, named) refl

-- ---- the labels read
-- All labels before byte p are read: so many, and the first eight of them are held.
pub record Read (f : Format) (w : List ℕ) (p size : ℕ) (held : List ℕ) : Type 0 where
  pub labels : List ℕ
  pub good : all (ltb 0) labels ≡ true
  pub sized : size ≡ length labels
  pub kept : take size held ≡ take most_kept labels
  pub long : length held ≡ most_kept
  pub rest : labels ++ labels_from f p w ≡ labels_from f (first_at w) w

pub none_read : (f : Format) (w : List ℕ) (p : ℕ) (held : List ℕ) → p ≡ first_at w → length held ≡ most_kept → Read f w p 0 held
none_read f w p held e long =
    record { labels = []; good = refl; sized = refl; kept = refl; long = long; rest = ap (λ i. labels_from f i w) e }

more_good : (xs : List ℕ) (x : ℕ) → all (ltb 0) xs ≡ true → 0 < x → all (ltb 0) (xs ++ (x ∷ [])) ≡ true
more_good [] x e lt = and (lt-ltb 0 x lt) refl
more_good (y ∷ xs) x e lt = let h = both (ltb 0 y) (all (ltb 0) xs) e in and h.0 (more_good xs x h.1 lt)

-- Of the labels the first eight are held, as before or with one more among them.
kept_full : (labels : List ℕ) (label size : ℕ) (held : List ℕ) → size ≡ length labels → most_kept ≤ size → length held ≡ most_kept
    → take size held ≡ take most_kept labels → take (size + 1) held ≡ take most_kept (labels ++ (label ∷ []))
kept_full labels label size held sized full long kept =
    take_all (size + 1) held (omega arith)
    ∙ sym (take_all size held (omega arith))
    ∙ kept
    ∙ sym (take-append-le most_kept labels (label ∷ []) (omega arith))

kept_more : (labels : List ℕ) (label size : ℕ) (held : List ℕ) → size ≡ length labels → size < most_kept → length held ≡ most_kept
    → take size held ≡ take most_kept labels → take (size + 1) (set held size label) ≡ take most_kept (labels ++ (label ∷ []))
kept_more labels label size held sized room long kept =
    ap (λ i. take i (set held size label)) (add-one size)
    ∙ take-suc-set held size label (omega arith)
    ∙ ap (λ l. l ++ (label ∷ [])) (kept ∙ take_all most_kept labels (omega arith))
    ∙ sym (take_all most_kept (labels ++ (label ∷ [])) (omega (arith, length-append labels (label ∷ []))))

module _ {f : Format} {w : List ℕ} {p size : ℕ} {held : List ℕ} (r : Read f w p size held) where
  module _ {end : ℕ} (e : PartEnds w p end) (label : ℕ) (is : label ≡ label_of f (take (end - p) (drop p w))) where
    -- the next label, and those behind it
    next : labels_from f p w ≡ label ∷ labels_from f (suc end) w
    next = ap (map (label_of f)) e.first ∙ ap {B = List ℕ} (λ x. x ∷ labels_from f (suc end) w) (sym is)

    -- A part that no label has is among the word's.
    pub no_label_read : label ≡ 0 → name_of_word f w ≡ none
    no_label_read z = name_from f w ∙ go (all (ltb 0) (labels_from f (first_at w) w)) refl
      where
        here : Has 0 (labels_from f (first_at w) w)
        here = subst (Has 0) (ap (λ l. r.labels ++ l) (sym next) ∙ r.rest) (has_right 0 r.labels (label ∷ labels_from f (suc end) w) (inl (sym z)))

        go : (t : Bool) → all (ltb 0) (labels_from f (first_at w) w) ≡ t → named (eqb (first_at w) 1) (labels_from f (first_at w) w) ≡ none
        go true q = absurd (false≢true (all-has (ltb 0) 0 (labels_from f (first_at w) w) q here))
        go false q = not_named (eqb (first_at w) 1) (labels_from f (first_at w) w) q

    -- The label is read too.
    one-read : 0 < label → (held' : List ℕ) → take (size + 1) held' ≡ take most_kept (r.labels ++ (label ∷ [])) → length held' ≡ most_kept
        → Read f w (end + 1) (size + 1) held'
    one-read pos held' kept long = record {
      labels = r.labels ++ (label ∷ []);
      good = more_good r.labels label r.good pos;
      sized = omega (arith, r.sized, length-append r.labels (label ∷ []));
      kept = kept;
      long = long;
      rest =
          append_assoc r.labels (label ∷ []) (labels_from f (end + 1) w)
          ∙ ap (λ i. r.labels ++ label ∷ labels_from f i w) (add-one end)
          ∙ ap (λ l. r.labels ++ l) (sym next)
          ∙ r.rest;
    }

    -- where there is room for it, it is held
    pub held_read : 0 < label → size < most_kept → Read f w (end + 1) (size + 1) (set held size label)
    held_read pos room =
        one-read pos (set held size label) (kept_more r.labels label size held r.sized room r.long r.kept) (length-set held size label ∙ r.long)

    pub full_read : 0 < label → most_kept ≤ size → Read f w (end + 1) (size + 1) held
    full_read pos full = one-read pos held (kept_full r.labels label size held r.sized full r.long r.kept) r.long

  -- Past the end all are read, and make the word's name.
  pub all_read : length w < p → name_of_word f w ≡ some (record { whole = eqb (first_at w) 1; labels = r.labels })
  all_read past = name_from f w ∙ ap (named (eqb (first_at w) 1)) (sym whole) ∙ all_named (eqb (first_at w) 1) r.labels r.good
    where
      whole : r.labels ≡ labels_from f (first_at w) w
      whole = sym (append-nil r.labels) ∙ ap (λ ps. r.labels ++ map (label_of f) ps) (sym (from_past w p past)) ∙ r.rest
