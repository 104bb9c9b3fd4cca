-- From the rows of a sound table to its type list. Assumes nothing.
use Prim.Native.Nat.{ℕ, zero, suc, ◌+◌, ◌-◌, ◌≤◌, ◌<◌, pred}
use native.Mathlib.Nat.{not-suc-le-zero, le_of_suc-le-suc}
use native.Mathlib.Omega.{arith}
use mathlib.Core.Path.{◌≡◌, refl, sym, ◌∙◌, ap, subst}
use mathlib.Core.Logic.{inl, inr}
use mathlib.Core.List.{List, [], ◌∷◌, ◌++◌, map, map-map}
use mathlib.Core.Option.{Option, none, some}
use lib.ListN.{length, get_or, take, drop, set, length-append, length-take, length-map, length-set}
use lib.Seq.{ext_get_or, get_or-take}
use borrow.Author.Tests.{lt-ltb, le-ltb}
use Rattle.paper.specs.Lists.{Has, place, same, distinct, last_or, up, ways}
use Rattle.paper.specs.Format.{Format, most_types, row_bytes, byte, word, whole}
use Rattle.paper.specs.Tables.{Row, row_of, rows, dewey, row_kept, bad_row, row_types, types, type_number}
use Rattle.paper.specs.Calls.{refused, refuse_at, type_too_many}
use Rattle.paper.specs.Faithful.{Chain}
use Rattle.paper.proofs.Forest.{follows_lt}
use Rattle.paper.proofs.Tables.{Levelled, none-rules, rules-each, kept_chain, rows_laid, step, length-ways}
use Rattle.paper.proofs.Calls.{count-rows}
use Rattle.tables.proofs.Rows.{rec, rows_from_lem, kept_level}
use Rattle.types.specs.Types.{kinds, parent_of, Lists}
use Rattle.types.proofs.Ways.{before_or, before}
use Rattle.types.proofs.Pass.{seen, number_or, Pass, found_type, new_type}
use Rattle.types.proofs.Step.{pass_start, pass_known, pass_new, pass_full, pass_end}

-- ---- the element that a list drops to
pub at_drop : {A B : Type 0} (g : A → B) (d : B) (rs : List A) (i : ℕ) (r : A) (rest : List A) → drop i rs ≡ r ∷ rest → get_or (map g rs) i d ≡ g r
at_drop g d rs zero r rest e = ap (λ l. get_or (map g l) 0 d) e
at_drop g d [] (suc i) r rest e = let z : ⊥ = omega (arith, ap length e) in absurd z
at_drop g d (x ∷ rs) (suc i) r rest e = at_drop g d rs i r rest e

pub drop-has : {A : Type 0} (xs : List A) (i : ℕ) (x : A) (rest : List A) → drop i xs ≡ x ∷ rest → Has x xs
drop-has xs zero x rest e = subst (λ l. Has x l) (sym e) (inl refl)
drop-has [] (suc i) x rest e = let z : ⊥ = omega (arith, ap length e) in absurd z
drop-has (y ∷ xs) (suc i) x rest e = inr (drop-has xs i x rest e)

pub map_at : (g : List ℕ → ℕ) (l : List (List ℕ)) (j : ℕ) → j < length l → get_or (map g l) j 0 ≡ g (get_or l j [])
map_at g [] j lt = absurd (not-suc-le-zero lt)
map_at g (x ∷ l) zero lt = refl
map_at g (x ∷ l) (suc j) lt = map_at g l j (le_of_suc-le-suc lt)

-- ---- the level and label of row i
module _ (f : Format) (t : List ℕ) (i : ℕ) (lt : i < whole (row_bytes f) t) where
  pub level-at : get_or (map (λ (x : ℕ × ℕ). x.0) (map step (rows f t))) i 0 ≡ byte (rec (row_bytes f) i t) 0
  unfolding row_of
  level-at =
      ap (λ l. get_or l i 0) (map-map (λ (x : ℕ × ℕ). x.0) step (rows f t))
      ∙ at_drop (λ (r : Row). r.level) 0 (rows f t) i (row_of f (rec (row_bytes f) i t)) (drop (suc i) (rows f t)) (rows_from_lem f t i lt)

  pub label_at_lem : get_or (map (λ (x : ℕ × ℕ). x.1) (map step (rows f t))) i 0 ≡ word (rec (row_bytes f) i t) 2
  unfolding row_of
  label_at_lem =
      ap (λ l. get_or l i 0) (map-map (λ (x : ℕ × ℕ). x.1) step (rows f t))
      ∙ at_drop (λ (r : Row). r.label) 0 (rows f t) i (row_of f (rec (row_bytes f) i t)) (drop (suc i) (rows f t)) (rows_from_lem f t i lt)

-- ---- levels in a sound table: at least 1, and one more than the level before at the most
levels_from : (p w : List ℕ) (rs : List Row) (i : ℕ) → length w ≡ length p → Chain p (map dewey rs) → Levelled rs → i < length rs
    → (1 ≤ get_or (map (λ (x : ℕ × ℕ). x.0) (map step rs)) i 0)
    × (get_or (map (λ (x : ℕ × ℕ). x.0) (map step rs)) i 0 ≤ suc (length (before_or w (ways w (map step rs)) i)))
levels_from p w [] i e c l lt = absurd (not-suc-le-zero lt)
levels_from p w (r ∷ rs) zero e c l lt =
    let (x, le, q) = follows_lt p (dewey r) c.0 in (omega (arith, l.0, c.0.0), omega (arith, l.0))
levels_from p w (r ∷ rs) (suc i) e c l lt = go i (levels_from (dewey r) v rs i ev c.1 l.1 (le_of_suc-le-suc lt))
  where
    v : List ℕ
    v = take (pred r.level) w ++ (r.label ∷ [])

    ev : length v ≡ length (dewey r)
    ev =
        let (x, le, q) = follows_lt p (dewey r) c.0 in
        omega (arith, l.0, c.0.0, length-append (take (pred r.level) w) (r.label ∷ []), length-take (pred r.level) w)

    go : (i : ℕ)
        → (1 ≤ get_or (map (λ (x : ℕ × ℕ). x.0) (map step rs)) i 0)
        × (get_or (map (λ (x : ℕ × ℕ). x.0) (map step rs)) i 0 ≤ suc (length (before_or v (ways v (map step rs)) i)))
        → (1 ≤ get_or (map (λ (x : ℕ × ℕ). x.0) (map step rs)) i 0)
        × (get_or (map (λ (x : ℕ × ℕ). x.0) (map step rs)) i 0 ≤ suc (length (get_or (ways w (map step (r ∷ rs))) i [])))
    go zero h = h
    go (suc i) h = h

module _ (f : Format) (t : List ℕ) (sound : bad_row f (rows f t) ≡ none) where
  chain : Chain [] (map dewey (rows f t)) × Levelled (rows f t)
  unfolding bad_row
  chain = kept_chain f [] (rows f t) (rows_laid f t) (none-rules (row_kept f) dewey 0 [] (rows f t) sound)

  pub level_next : (i : ℕ) → i < length (rows f t)
      → (1 ≤ get_or (map (λ (x : ℕ × ℕ). x.0) (map step (rows f t))) i 0)
      × (get_or (map (λ (x : ℕ × ℕ). x.0) (map step (rows f t))) i 0 ≤ suc (length (before (ways [] (map step (rows f t))) i)))
  level_next zero lt = levels_from [] [] (rows f t) zero refl chain.0 chain.1 lt
  level_next (suc i) lt = levels_from [] [] (rows f t) (suc i) refl chain.0 chain.1 lt

-- ---- the answer
-- a 65th type begins at row i
pub lists_full : (rs : List Row) (i : ℕ) → (most_types < length (distinct (ways [] (map step rs))))
    × (place (same (get_or (distinct (ways [] (map step rs))) most_types [])) (ways [] (map step rs)) ≡ i)
    → refuse_at 4 (type_too_many rs) ≡ refused 4 i
unfolding type_too_many types row_types
lists_full rs i (more, at) =
    let e : type_too_many rs ≡ some i =
    rw (lt-ltb most_types (length (distinct (ways [] (map step rs)))) more, type_too_many) (ap {B = Option ℕ} some at) in
    ap (refuse_at 4) e

module _ (rs : List Row) (i count : ℕ) (ks parents labels stack : List ℕ) where
  pub lists_end : length rs ≡ i → length rs ≤ length ks → Pass (map step rs) i count ks parents labels stack
      → Lists rs ks (record { count = count; parents = parents; labels = labels })
  unfolding type_too_many types row_types kinds
  lists_end e long pass =
      let ws = ways [] (map step rs) in
      let n : length ws ≡ length rs = length-ways [] (map step rs) ∙ length-map rs step in
      let q : seen (map step rs) i ≡ distinct ws = pass_end (map step rs) count ks parents labels stack i pass (omega arith) in
      record {
        few = rw (le-ltb most_types (length (distinct ws)) (omega (arith, pass.counted, pass.few, ap length q)), type_too_many) refl;
        count = pass.counted ∙ ap length q;
        typed = ext_get_or 0 (take (length rs) ks) (map (type_number (distinct ws)) ws)
            (omega (arith, length-take (length rs) ks, length-map ws (type_number (distinct ws))))
            (λ j lj. let lt : j < length rs = omega (arith, length-take (length rs) ks) in
            get_or-take (length rs) ks j 0 lt ∙ pass.numbered j (omega arith) ∙ ap (λ ts. type_number ts (get_or ws j [])) q
            ∙ sym (map_at (type_number (distinct ws)) ws j (omega arith)));
        label = λ k lk. pass.names k lk ∙ ap (λ ts. last_or 0 (get_or ts k [])) q;
        parent = λ k lk. pass.parented k lk ∙ ap (λ ts. number_or ts (up (get_or ts k []))) q ∙ same_number (distinct ws) (up (get_or (distinct ws) k []));
      }
    where
      same_number : (ts : List (List ℕ)) (u : List ℕ) → number_or ts u ≡ parent_of ts u
      same_number ts [] = refl
      same_number ts (x ∷ u) = refl

-- ---- what the loop keeps
pub record Walk (f : Format) (t : List ℕ) (i count : ℕ) (ks parents labels stack : List ℕ) : Type 0 where
  pub pass : Pass (map step (rows f t)) i count ks parents labels stack
  pub ks_long : length ks ≡ 1024
  pub parents_long : length parents ≡ 64
  pub labels_long : length labels ≡ 64
  pub stack_long : length stack ≡ 9

-- one row of a sound table, as read
module _ (f : Format) (t : List ℕ) (sound : bad_row f (rows f t) ≡ none) (i : ℕ) (lt : i < whole (row_bytes f) t) (l a : ℕ)
    (el : l ≡ byte (rec (row_bytes f) i t) 0) (ea : a ≡ word (rec (row_bytes f) i t) 2) where
  pub in_rows : i < length (rows f t)
  in_rows = omega (arith, count-rows f t)

  pub in_ways : i < length (ways [] (map step (rows f t)))
  in_ways = omega (arith, in_rows, length-ways [] (map step (rows f t)), length-map (rows f t) step)

  pub l_is : l ≡ get_or (map (λ (x : ℕ × ℕ). x.0) (map step (rows f t))) i 0
  l_is = el ∙ sym (level-at f t i lt)

  pub a_is : a ≡ get_or (map (λ (x : ℕ × ℕ). x.1) (map step (rows f t))) i 0
  a_is = ea ∙ sym (label_at_lem f t i lt)

  pub l_pos : 1 ≤ l
  l_pos = omega (arith, l_is, (level_next f t sound i in_rows).0)

  pub l_next : l ≤ suc (length (before (ways [] (map step (rows f t))) i))
  l_next = omega (arith, l_is, (level_next f t sound i in_rows).1)

  pub l_fits : l ≤ f.levels
  unfolding bad_row
  l_fits =
      let b = rec (row_bytes f) i t in
      let (p, k) = rules-each (row_kept f) dewey [] (rows f t) (none-rules (row_kept f) dewey 0 [] (rows f t) sound) (row_of f b)
      (drop-has (rows f t) i (row_of f b) (drop (suc i) (rows f t)) (rows_from_lem f t i lt)) in
      omega (arith, el, (kept_level f p b k).1)

  module _ (count p : ℕ) (ks parents labels stack : List ℕ) (walk : Walk f t i count ks parents labels stack)
      (ep : p ≡ get_or stack (l - 1) 0) (few : whole (row_bytes f) t ≤ 1024) (lev : f.levels ≤ 8) where
    ep' : p ≡ get_or stack (pred l) 0
    ep' = ep ∙ ap (λ n. get_or stack n 0) (omega arith)

    pub walk_known : (k : ℕ) → k < count → get_or parents k 0 ≡ p → get_or labels k 0 ≡ a → Walk f t (i + 1) count (set ks i k) parents labels (set stack l k)
    walk_known k lk e q = record {
      pass = pass_known (map step (rows f t)) i l a in_ways l_is a_is l_pos l_next count p ks parents labels stack walk.pass ep'
          (omega (arith, walk.ks_long)) (omega (arith, walk.stack_long, l_fits)) k lk
          (found_type (map step (rows f t)) i l a in_ways l_is a_is l_pos l_next count p ks parents labels stack walk.pass ep' k lk e q);
      ks_long = length-set ks i k ∙ walk.ks_long;
      parents_long = walk.parents_long;
      labels_long = walk.labels_long;
      stack_long = length-set stack l k ∙ walk.stack_long;
    }

    module _ (none : (k : ℕ) → k < count → get_or parents k 0 ≡ p → get_or labels k 0 ≡ a → ⊥) where
      out : Has (get_or (ways [] (map step (rows f t))) i []) (take i (ways [] (map step (rows f t)))) → ⊥
      out = new_type (map step (rows f t)) i l a in_ways l_is a_is l_pos l_next count p ks parents labels stack walk.pass ep' none

      pub walk_new : count < most_types
          → Walk f t (i + 1) (count + 1) (set ks i count) (set parents count p) (set labels count a) (set stack l count)
      walk_new room = record {
        pass = pass_new (map step (rows f t)) i l a in_ways l_is a_is l_pos l_next count p ks parents labels stack walk.pass ep'
            (omega (arith, walk.ks_long)) (omega (arith, walk.stack_long, l_fits)) out room
            (omega (arith, walk.parents_long)) (omega (arith, walk.labels_long));
        ks_long = length-set ks i count ∙ walk.ks_long;
        parents_long = length-set parents count p ∙ walk.parents_long;
        labels_long = length-set labels count a ∙ walk.labels_long;
        stack_long = length-set stack l count ∙ walk.stack_long;
      }

      pub walk_full : count ≡ most_types → refuse_at 4 (type_too_many (rows f t)) ≡ refused 4 i
      walk_full full =
          lists_full (rows f t) i
          (pass_full (map step (rows f t)) i l a in_ways l_is a_is l_pos l_next count p ks parents labels stack walk.pass ep'
          (omega (arith, walk.ks_long)) (omega (arith, walk.stack_long, l_fits)) out full)

pub walk_start : (f : Format) (t ks parents labels stack : List ℕ) → get_or stack 0 0 ≡ most_types → length ks ≡ 1024
    → length parents ≡ 64 → length labels ≡ 64 → length stack ≡ 9 → Walk f t 0 0 ks parents labels stack
walk_start f t ks parents labels stack e a b c d = record {
  pass = pass_start (map step (rows f t)) ks parents labels stack e;
  ks_long = a;
  parents_long = b;
  labels_long = c;
  stack_long = d;
}

-- a row's level is one of the format's
pub level_some : (f : Format) (t : List ℕ) (i : ℕ) → bad_row f (rows f t) ≡ none → i < whole (row_bytes f) t → 1 ≤ byte (rec (row_bytes f) i t) 0
level_some f t i sound lt = l_pos f t sound i lt _ _ refl refl

pub level_most : (f : Format) (t : List ℕ) (i : ℕ) → bad_row f (rows f t) ≡ none → i < whole (row_bytes f) t → byte (rec (row_bytes f) i t) 0 ≤ f.levels
level_most f t i sound lt = l_fits f t sound i lt _ _ refl refl
