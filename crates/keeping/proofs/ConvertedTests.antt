-- A converted table and shape pass the tests of the new range where they pass those of the old one and their labels come to lie in the new one.
-- Assumes nothing.
use Prim.Native.Nat.{ℕ, zero, suc, ◌*◌, ◌%◌, ◌≤◌, ◌<◌}
use native.Mathlib.Omega.{arith}
use mathlib.Core.Path.{◌≡◌, refl, sym, ◌∙◌, ap, ap₂, subst}
use mathlib.Core.Logic.{◌⊎◌, inl, inr, ⊎_elim}
use mathlib.Core.Bool.{Bool, true, false, ◌&&◌, ◌||◌, not}
use mathlib.Core.List.{List, [], ◌∷◌, map}
use mathlib.Core.Option.{Option, none}
use lib.Dec.{eqb}
use lib.ListN.{length, drop, take-append-drop}
use borrow.Author.Tests.{le-leb, eq-eqb, eqb-true, ne_eqb, le-ltb}
use Rattle.paper.specs.Lists.{Has, all, between}
use Rattle.paper.specs.Format.{Format, most_entries, head_bytes, row_bytes, entry_bytes}
use Rattle.paper.specs.Tables.{Row, rows, dewey, fields_kept, follows, row_kept, bad_row}
use Rattle.paper.specs.Shapes.{Entry, entries, named, level_kept, entry_kept, bad_entry}
use Rattle.paper.specs.Calls.{Answer, given, ◌>>=◌, refuse, refuse_at, tests1_3, tests5_6}
use Rattle.paper.specs.Labels.{old_range, Pair, converted, label_at, table_with, shape_with, row_with, entry_with}
use Rattle.paper.proofs.Lists.{both, and, all-has, has_all, has_append, map-has, map-take, within}
use Rattle.paper.proofs.Bytes.{Small}
use Rattle.paper.proofs.Tables.{none-rules, rules-each}
use Rattle.paper.proofs.Shapes.{level_of, Parts, each_part}
use Rattle.paper.proofs.Calls.{passed1_3, whole1_3, pass1_3, passed5, passed5_6}
use Rattle.keeping.proofs.WidenedTables.{break_same}
use Rattle.keeping.proofs.ConvertedFiles.{length-same, rows-with, entries_with, rows_range, entries_range}

-- ---- rules
-- x lies in 1 to the largest label
abbrev pub InRange : Format → ℕ → Type 0
InRange f x = (1 ≤ x) × (x ≤ f.labels)

in_range : (f : Format) (x : ℕ) → InRange f x → between 1 x f.labels ≡ true
in_range f x (lo, hi) = and (le-leb 1 x lo) (le-leb x f.labels hi)

-- a sound table's labels lie in its range
pub sound_label : (f : Format) (rs : List Row) → bad_row f rs ≡ none → (r : Row) → Has r rs → InRange f r.label
unfolding bad_row row_kept fields_kept
sound_label f rs sound r h =
    let (p, k) = rules-each (row_kept f) dewey [] rs (none-rules (row_kept f) dewey 0 [] rs sound) r h in
    let low = between 1 r.level f.levels && eqb r.spare 0 in
    let a = (both (low && between 1 r.label f.labels && all (eqb 0) (drop r.level r.components)) (follows p (dewey r)) k).0 in
    let b = (both (low && between 1 r.label f.labels) (all (eqb 0) (drop r.level r.components)) a).0 in
    within 1 r.label f.labels (both low (between 1 r.label f.labels) b).1

-- An entry names the type that it named, label by label.
pub named-with : (ps : List Pair) (e : Entry) → named (entry_with ps e) ≡ map (converted ps) (named e)
named-with ps e = sym (map-take (converted ps) e.size e.labels)

module _ (f : Format) (ps : List Pair) where
  abbrev c : ℕ → ℕ
  c = converted ps

  -- a row whose label lies in the range before and after keeps the rules after exactly if before
  row_same : (p : List ℕ) (r : Row) → InRange (old_range f) r.label → InRange f (c r.label) → row_kept f p (row_with ps r) ≡ row_kept (old_range f) p r
  unfolding row_kept fields_kept
  row_same p r before after =
      ap (λ x. between 1 r.level f.levels && eqb r.spare 0 && x && all (eqb 0) (drop r.level r.components) && follows p (dewey r))
      (in_range f (c r.label) after ∙ sym (in_range (old_range f) r.label before))

  rows_kept : (rs : List Row) → bad_row (old_range f) rs ≡ none → ((r : Row) → Has r rs → InRange f (c r.label)) → bad_row f (map (row_with ps) rs) ≡ none
  unfolding bad_row
  rows_kept rs sound after =
      break_same (row_kept (old_range f)) (row_kept f) dewey (row_with ps) 0 [] rs
      (λ r h p. (row_same p r (sound_label (old_range f) rs sound r h) (after r h), λ _. refl)) ∙ sound

  drop-map : (n : ℕ) (l : List ℕ) → drop n (map c l) ≡ map c (drop n l)
  drop-map zero l = refl
  drop-map (suc n) [] = refl
  drop-map (suc n) (x ∷ l) = drop-map n l

  zeros-with : (l : List ℕ) → c 0 ≡ 0 → all (eqb 0) l ≡ true → all (eqb 0) (map c l) ≡ true
  zeros-with l zero-stays h =
      has_all (eqb 0) (map c l) (λ y k. let (x, i, e) = map-has c y l k in
      let at : 0 ≡ x = eqb-true 0 x (all-has (eqb 0) x l h i) in
      eq-eqb 0 y (sym zero-stays ∙ ap c at ∙ sym e))

  -- so does an entry
  entry-same : (before : ℕ) (e : Entry) → (b : ℕ) × Parts (old_range f) b e → ((x : ℕ) → Has x (named e) → InRange f (c x)) → c 0 ≡ 0
      → entry_kept f before (entry_with ps e) ≡ entry_kept (old_range f) before e
  unfolding entry_kept
  entry-same before e (b, p) after zero-stays =
      let kept : Bool → Bool → Bool =
      λ labels zeros. between 1 e.level f.levels && between 1 e.size f.levels && eqb e.spare 0 && labels && zeros
      && level_kept before e.level in
      let labels : all (λ x. between 1 x f.labels) (named (entry_with ps e)) ≡ true =
      has_all (λ x. between 1 x f.labels) (named (entry_with ps e)) (λ y h.
      let (x, i, q) = map-has c y (named e) (subst (λ l. Has y l) (named-with ps e) h) in
      subst (λ z. between 1 z f.labels ≡ true) (sym q) (in_range f (c x) (after x i))) in
      let zeros : all (eqb 0) (drop e.size (map c e.labels)) ≡ true =
      ap (all (eqb 0)) (drop-map e.size e.labels) ∙ zeros-with (drop e.size e.labels) zero-stays p.zeros in
      ap₂ kept (labels ∙ sym p.labels) (zeros ∙ sym p.zeros)

  entries_kept : (es : List Entry) → bad_entry (old_range f) es ≡ none → ((e : Entry) → Has e es → (x : ℕ) → Has x (named e) → InRange f (c x)) → c 0 ≡ 0
      → bad_entry f (map (entry_with ps) es) ≡ none
  unfolding bad_entry
  entries_kept es sound after zero-stays =
      break_same (entry_kept (old_range f)) (entry_kept f) level_of (entry_with ps) 0 0 es
      (λ e h before. (entry-same before e (each_part (old_range f) es sound e h) (after e h) zero-stays, λ _. refl)) ∙ sound

  -- each label of an entry is one of its type, or 0
  entry-labels : (e : Entry) → (b : ℕ) × Parts (old_range f) b e → (x : ℕ) → Has x e.labels → Has x (named e) ⊎ (x ≡ 0)
  entry-labels e (b, p) x h =
      ⊎_elim (λ i. inl i) (λ i. inr (sym (eqb-true 0 x (all-has (eqb 0) x (drop e.size e.labels) p.zeros i))))
      (has_append x (named e) (drop e.size e.labels) (subst (λ l. Has x l) (sym (take-append-drop e.size e.labels)) h))

-- what passes each of 5 and 6
pass5_6 : (f : Format) (s : List ℕ) → (length s ≡ 0 → ⊥) → length s ≤ most_entries * entry_bytes f → length s % entry_bytes f ≡ 0
    → bad_entry f (entries f s) ≡ none → tests5_6 f s ≡ given (entries f s)
unfolding tests5_6
pass5_6 f s filled short even sound =
    let tested : Bool → Bool → Bool → Option ℕ → Answer (List Entry) =
    λ empty long whole bad. refuse 5 (empty || long || not whole) >>= (λ _. refuse_at 6 bad >>= (λ _. given (entries f s))) in
    let over = le-ltb (most_entries * entry_bytes f) (length s) short in
    ap₂ (λ x y. tested x y (eqb (length s % entry_bytes f) 0) (bad_entry f (entries f s))) (ne_eqb (length s) 0 filled) over
    ∙ ap₂ (tested false false) (eq-eqb (length s % entry_bytes f) 0 even) sound

-- ---- files
module _ (f : Format) (ps : List Pair) (few : f.labels < 65536) where
  -- A CONVERTED TABLE PASSES THE TESTS of the new range, with its rows converted.
  pub table_passes : (b : List ℕ) (rs : List Row) → tests1_3 (old_range f) b ≡ given rs
      → ((r : Row) → Has r rs → InRange f (converted ps r.label)) → tests1_3 f (table_with f ps b) ≡ given (map (row_with ps) rs)
  table_passes b rs passes after =
      let (e, sound, short) = passed1_3 (old_range f) b rs passes in
      let even : length b % row_bytes f ≡ 0 = whole1_3 (old_range f) b rs passes in
      let own : rows f b ≡ rs = sym (rows_range f b) ∙ e in
      let new : rows f (table_with f ps b) ≡ map (row_with ps) rs =
      rows-with f ps b (λ r h. omega (arith, after r (subst (λ z. Has r z) own h))) ∙ ap (map (row_with ps)) own in
      let long : length (table_with f ps b) ≡ length b = length-same ps label_at 1 (row_bytes f) (omega arith) (omega arith) b even in
      pass1_3 f (table_with f ps b) (omega (arith, long, short)) (ap (λ k. k % row_bytes f) long ∙ even) (ap (bad_row f) new ∙ rows_kept f ps rs sound after)
      ∙ ap given new

  -- A CONVERTED SHAPE PASSES THEM too, with its entries converted.
  pub shape_passes : (s : List ℕ) (es : List Entry) → tests5_6 (old_range f) s ≡ given es
      → ((e : Entry) → Has e es → (x : ℕ) → Has x (named e) → InRange f (converted ps x)) → converted ps 0 ≡ 0
      → tests5_6 f (shape_with f ps s) ≡ given (map (entry_with ps) es)
  shape_passes s es passes after zero-stays =
      let (e, sound, some-entry, at_most) = passed5_6 (old_range f) s es passes in
      let (filled, short, even) = passed5 (old_range f) s es passes in
      let own : entries f s ≡ es = sym (entries_range f s) ∙ e in
      let new : entries f (shape_with f ps s) ≡ map (entry_with ps) es =
      entries_with f ps s (λ e h x i. small e (subst (λ z. Has e z) own h) (each_part (old_range f) es sound e (subst (λ z. Has e z) own h)) x i)
      ∙ ap (map (entry_with ps)) own in
      let long : length (shape_with f ps s) ≡ length s = length-same ps head_bytes f.levels (entry_bytes f) (omega arith) (omega arith) s even in
      pass5_6 f (shape_with f ps s) (λ z. filled (sym long ∙ z)) (omega (arith, long, short)) (ap (λ k. k % entry_bytes f) long ∙ even)
      (ap (bad_entry f) new ∙ entries_kept f ps es sound after zero-stays) ∙ ap given new
    where
      small : (e : Entry) → Has e es → (b : ℕ) × Parts (old_range f) b e → (x : ℕ) → Has x e.labels → Small (converted ps x)
      small e h p x i =
          ⊎_elim (λ k. omega (arith, after e h x k)) (λ z. omega (arith, ap (converted ps) z, zero-stays)) (entry-labels f ps e p x i)
