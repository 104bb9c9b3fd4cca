-- A widened shape keeps the entry rules where the shape does, and is the same shape over a table's types. Assumes nothing.
use Prim.Native.Nat.{ℕ, zero, suc, ◌+◌, ◌-◌, ◌*◌, ◌%◌, ◌≤◌, ◌<◌}
use native.Mathlib.Nat.{zero-mul, suc-mul, not-suc-le-zero}
use native.Mathlib.Omega.{arith}
use mathlib.Core.Path.{◌≡◌, refl, sym, ◌∙◌, ap, ap₂, subst}
use mathlib.Core.Logic.{inl}
use mathlib.Core.Bool.{Bool, true, false, ◌&&◌, ◌||◌, not}
use mathlib.Core.List.{List, [], ◌∷◌, ◌++◌, map, map-map}
use mathlib.Core.Option.{Option, none, some}
use lib.Dec.{eqb, leb, ltb}
use lib.ListN.{length, take, drop, replicate}
use lib.Seq.{take-append-le, drop-append-le, take-append-add}
use borrow.Author.Tests.{leb-true, leb-false, le-leb, eq-eqb, ne_eqb}
use Rattle.paper.specs.Lists.{Has, all, last_or, between, ways}
use Rattle.paper.specs.Format.{Format, most_entries, entry_bytes, whole}
use Rattle.paper.specs.Tables.{type_number}
use Rattle.paper.specs.Shapes.{Entry, entries, named, level_kept, entry_kept, bad_entry, steps, shape_over}
use Rattle.paper.specs.Calls.{Answer, given, ◌>>=◌, refuse, refuse_at, tests5_6}
use Rattle.paper.specs.Widths.{deeper, shape_to, entry_to}
use Rattle.paper.proofs.Lists.{both, all-has, has_right, map_same}
use Rattle.paper.proofs.Shapes.{level_of, entry-parts, entries_laid, each_part}
use Rattle.paper.proofs.Bytes.{whole_length}
use Rattle.paper.proofs.Calls.{bind_given, passed5, passed5_6}
use Rattle.keeping.proofs.Moved.{wide-size, length_moved, whole-moved}
use Rattle.keeping.proofs.Widened.{entries_widened}
use Rattle.keeping.proofs.WidenedTables.{test_same, over-same, break_same, all-zeros}

-- a list cut past its length, among the zeros behind it, has one of them
zero_in : (l : List ℕ) (k n : ℕ) → k < n → Has 0 (take (length l + suc k) (l ++ replicate n 0))
zero_in l k zero lt = absurd (not-suc-le-zero lt)
zero_in l k (suc n) lt =
    subst (λ z. Has 0 z) (sym (take-append-add l (replicate (suc n) 0) (suc k))) (has_right 0 l (take (suc k) (replicate (suc n) 0)) (inl refl))

-- ---- one entry
module _ (f : Format) (n : ℕ) (e : Entry) (laid : length e.labels ≡ f.levels) where
  abbrev g : Format
  g = deeper f n

  pub named-same : e.size ≤ f.levels → named (entry_to n e) ≡ named e
  named-same le = take-append-le e.size e.labels (replicate n 0) (omega arith)

  within_same : (before : ℕ) → e.level ≤ f.levels → e.size ≤ f.levels → entry_kept g before (entry_to n e) ≡ entry_kept f before e
  unfolding entry_kept
  within_same before le short =
      let kept : Bool → Bool → List ℕ → Bool → Bool =
      λ deep long k zeros. leb 1 e.level && deep && (leb 1 e.size && long) && eqb e.spare 0 && all (λ x. between 1 x f.labels) k && zeros
      && level_kept before e.level in
      ap₂ (λ x y. kept x y (named (entry_to n e)) (all (eqb 0) (drop e.size (e.labels ++ replicate n 0)))) (wider e.level le) (wider e.size short)
      ∙ ap₂ (kept (leb e.level f.levels) (leb e.size f.levels)) (named-same short)
      (ap (all (eqb 0)) (drop-append-le e.size e.labels (replicate n 0) (omega arith)) ∙ all-zeros n (drop e.size e.labels))
    where
      wider : (x : ℕ) → x ≤ f.levels → leb x (f.levels + n) ≡ leb x f.levels
      wider x le = le-leb x (f.levels + n) (omega arith) ∙ sym (le-leb x f.levels le)

  -- a type that is longer than the labels of the format has a zero among its labels once it is widened
  size-within : (before : ℕ) → entry_kept g before (entry_to n e) ≡ true → e.size ≤ f.levels
  size-within before h = go (leb e.size f.levels) refl
    where
      go : (t : Bool) → leb e.size f.levels ≡ t → e.size ≤ f.levels
      go true q = leb-true e.size f.levels q
      go false q =
          let past = leb-false e.size f.levels q in
          let p = entry-parts g before (entry_to n e) h in
          let (lo, hi) = p.size in
          let k = e.size - suc f.levels in
          let at : length e.labels + suc k ≡ e.size = omega arith in
          let h₀ : Has 0 (named (entry_to n e)) = subst (λ m. Has 0 (take m (e.labels ++ replicate n 0))) at (zero_in e.labels k n (omega arith)) in
          let low = all-has (λ x. between 1 x f.labels) 0 (named (entry_to n e)) p.labels h₀ in
          let z : ⊥ = omega (arith, leb-true 1 0 (both (leb 1 0) (leb 0 f.labels) low).0) in
          absurd z

  -- On a level of the format, a widened entry keeps the rules exactly where the entry does.
  entry-same : e.level ≤ f.levels → (before : ℕ) → entry_kept g before (entry_to n e) ≡ entry_kept f before e
  entry-same le before =
      test_same (entry_kept g before (entry_to n e)) (entry_kept f before e) (λ h. sym (within_same before le (size-within before h)) ∙ h)
      (λ h. within_same before le (entry-parts f before e h).size.1 ∙ h)

-- ---- a shape's entries
steps-same : (n i : ℕ) (es : List Entry) → steps i (map (entry_to n) es) ≡ steps i es
steps-same n i [] = refl
steps-same n i (e ∷ es) = ap {B = List (ℕ × ℕ)} (λ l. (e.level, i) ∷ l) (steps-same n (suc i) es)

module _ (f : Format) (n : ℕ) (es : List Entry) (laid : (e : Entry) → Has e es → length e.labels ≡ f.levels) where
  -- the first entry that breaks a rule is the same, where none is too deep
  pub bad_entry_same : ((e : Entry) → Has e es → e.level ≤ f.levels) → bad_entry (deeper f n) (map (entry_to n) es) ≡ bad_entry f es
  unfolding bad_entry
  bad_entry_same level =
      break_same (entry_kept f) (entry_kept (deeper f n)) level_of (entry_to n) 0 0 es
      (λ e h before. (entry-same f n e (laid e h) (level e h) before, λ _. refl))

  -- Over the types of a table it is the same shape.
  pub shape_same : bad_entry f es ≡ none → (ts : List (List ℕ)) → shape_over ts (map (entry_to n) es) ≡ shape_over ts es
  unfolding shape_over
  shape_same sound ts =
      λ i. record {
        levels = map-map level_of (entry_to n) es i;
        labels = through (last_or 0) i;
        kinds = through (type_number ts) i;
        ways = ways [] (steps-same n 0 es i);
      }
    where
      through : (k : List ℕ → ℕ) → map (λ (e : Entry). k (named e)) (map (entry_to n) es) ≡ map (λ (e : Entry). k (named e)) es
      through k =
          map-map (λ (e : Entry). k (named e)) (entry_to n) es
          ∙ map_same (λ e. k (named (entry_to n e))) (λ (e : Entry). k (named e)) es
          (λ e h. ap k (named-same f n e (laid e h) (each_part f es sound e h).1.size.1))

-- no records of a size are no bytes
none-same : (k w : ℕ) → 0 < w → eqb (k * w) 0 ≡ eqb k 0
none-same zero w pos = ap (λ x. eqb x 0) (zero-mul w)
none-same (suc k) w pos = ne_eqb (suc k * w) 0 (λ e. omega (arith, suc-mul k w)) ∙ sym (ne_eqb (suc k) 0 (λ e. omega arith))

-- ---- a widened shape
module _ (f : Format) (n : ℕ) (s : List ℕ) where
  abbrev wide : List ℕ
  wide = shape_to f (deeper f n) s

  abbrev w : ℕ
  w = entry_bytes f

  abbrev v : ℕ
  v = entry_bytes (deeper f n)

  -- A shape of whole entries, none too deep, and its widening are refused alike, and given with the same entries, widened.
  pub tests5_6_widened : length s % w ≡ 0 → ((e : Entry) → Has e (entries f s) → e.level ≤ f.levels)
      → tests5_6 (deeper f n) wide ≡ (tests5_6 f s >>= (λ es. given (map (entry_to n) es)))
  unfolding tests5_6
  tests5_6_widened e level =
      let size = wide-size f n w v (omega arith) (omega arith) in
      let long : length wide ≡ whole w s * v = length_moved f (deeper f n) w v (omega arith) size s in
      let own = whole_length w s e in
      let empty : eqb (length wide) 0 ≡ eqb (length s) 0 =
      ap (λ k. eqb k 0) long ∙ none-same (whole w s) v (omega arith) ∙ sym (none-same (whole w s) w (omega arith)) ∙ ap (λ k. eqb k 0) own in
      let over : ltb (most_entries * v) (length wide) ≡ ltb (most_entries * w) (length s) =
      ap (ltb (most_entries * v)) long ∙ over-same most_entries (whole w s) w v (omega arith) (omega arith) ∙ ap (ltb (most_entries * w)) own in
      let even : eqb (length wide % v) 0 ≡ eqb (length s % w) 0 =
      eq-eqb (length wide % v) 0 (whole-moved f (deeper f n) w v (omega arith) size s) ∙ sym (eq-eqb (length s % w) 0 e) in
      let lengths : Bool = eqb (length s) 0 || ltb (most_entries * w) (length s) || not (eqb (length s % w) 0) in
      let bad : bad_entry (deeper f n) (entries (deeper f n) wide) ≡ bad_entry f (entries f s) =
      ap (bad_entry (deeper f n)) (entries_widened f n s) ∙ bad_entry_same f n (entries f s) (entries_laid f s) level in
      let tried : Bool → Answer (List Entry) = λ x. tested x (bad_entry (deeper f n) (entries (deeper f n) wide)) (entries (deeper f n) wide) in
      ap₂ (λ x y. tried (x || y || not (eqb (length wide % v) 0))) empty over
      ∙ ap (λ x. tried (eqb (length s) 0 || ltb (most_entries * w) (length s) || not x)) even
      ∙ ap₂ (tested lengths) bad (entries_widened f n s) ∙ through lengths (bad_entry f (entries f s)) (entries f s)
    where
      tested : Bool → Option ℕ → List Entry → Answer (List Entry)
      tested lengths bad es = refuse 5 lengths >>= (λ _. refuse_at 6 bad >>= (λ _. given es))

      through : (lengths : Bool) (bad : Option ℕ) (es : List Entry)
          → tested lengths bad (map (entry_to n) es) ≡ (tested lengths bad es >>= (λ es. given (map (entry_to n) es)))
      through true bad es = refl
      through false none es = refl
      through false (some p) es = refl

  -- A WIDENED SHAPE IS ACCEPTED where the shape is, with its entries widened.
  pub shape_widened : (es : List Entry) → tests5_6 f s ≡ given es → tests5_6 (deeper f n) wide ≡ given (map (entry_to n) es)
  shape_widened es h =
      let (q, sound, pos, few) = passed5_6 f s es h in
      tests5_6_widened (passed5 f s es h).2 (λ e i. (each_part f es sound e (subst (λ z. Has e z) q i)).1.level.1)
      ∙ ap (λ a. a >>= (λ es. given (map (entry_to n) es))) h

  -- The other way it holds where no entry of the shape is too deep. An entry on a level past the format's, under one on its last level, is refused
  -- in the shape and kept by the widened one, which has that level.
  pub widened_shape : (xs : List Entry) → tests5_6 (deeper f n) wide ≡ given xs → length s % w ≡ 0
      → ((e : Entry) → Has e (entries f s) → e.level ≤ f.levels) → tests5_6 f s ≡ given (entries f s)
  widened_shape xs h e level =
      let (es, own, q) = bind_given (tests5_6 f s) (λ es. given (map (entry_to n) es)) xs (sym (tests5_6_widened e level) ∙ h) in
      own ∙ ap given (sym (passed5_6 f s es own).0)
