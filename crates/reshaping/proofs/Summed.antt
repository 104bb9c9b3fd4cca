-- From a prepared table and shape to what the walks ask for, and to the figures of a summary. Assumes nothing.
use Prim.Native.Nat.{ℕ, ◌-◌, ◌≤◌, ◌<◌, min}
use native.Mathlib.Omega.{arith}
use mathlib.Core.Path.{◌≡◌, refl, sym, ◌∙◌, ap, ap₂}
use mathlib.Core.Bool.{Bool, true, false, ◌||◌}
use mathlib.Core.List.{List, [], ◌∷◌, map}
use lib.Dec.{eqb, leb}
use lib.ListN.{length, get_or, length-map}
use borrow.Author.Tests.{eqb-false, leb-true, leb-false}
use Rattle.paper.specs.Lists.{keep, any, count, padded}
use Rattle.paper.specs.Format.{Format, most_lines}
use Rattle.paper.specs.Tables.{rows}
use Rattle.paper.specs.Closeness.{Node, nodes, of_kind}
use Rattle.paper.specs.Shapes.{Shape, kind, numbers}
use Rattle.paper.specs.NewTable.{Line, lines}
use Rattle.paper.specs.Figures.{entry_lines, appears, different_rows, Figures, figures}
use Rattle.paper.specs.Calls.{Reply}
use Rattle.paper.proofs.Kept.{keep-map, any_map}
use Rattle.paper.proofs.Figures.{different_few}
use Rattle.closest.specs.Node.{node}
use Rattle.closest.proofs.Meets.{kind_at}
use Rattle.shapes.specs.Tests.{shape_in}
use Rattle.shapes.specs.Shape.{type_of}
use Rattle.shapes.specs.Work.{Work, Ready}
use Rattle.shapes.specs.declared.shape.Shape as Drawn
use Rattle.lines.specs.Lines.{Numbered}
use Rattle.lines.specs.Count.{shown, of_entry, Counted}
use Rattle.lines.specs.Counting.{Shallow, CountedOf}
use Rattle.lines.specs.Write.{all_lines}
use Rattle.lines.specs.declared.count.Tally.{Tally}
use Rattle.lines.proofs.SumOver.{only}
use Rattle.lines.proofs.Sums.{sum_same}
use Rattle.lines.proofs.Items.{rows_kept}
use Rattle.lines.proofs.Counted.{of_none}
use Rattle.reshaping.specs.Figures.{held_by, different_in, Figured}
use Rattle.std.specs.Prelude.{Ok}
use Rattle.reshaping.specs.Reshaped.{summarised}
use Rattle.reshaping.specs.declared.summarise.Summary.{Summary}
use Rattle.reshaping.proofs.Paper.{lines_are}
use Rattle.reshaping.proofs.Padded.{padded-by}

-- ---- lists
-- whether one passes the test, as 1 or 0
any_one : {A : Type 0} (p : A → Bool) (xs : List A) → min (length (keep p xs)) 1 ≡ only (any p xs) 1
any_one p [] = refl
any_one {A = A} p (x ∷ xs) = go (p x) (any_one p xs)
  where
    go : (b : Bool) → min (length (keep p xs)) 1 ≡ only (any p xs) 1
        → min (length {A = A} (elim b as (λ _. List A) [ true ↦ x ∷ keep p xs | false ↦ keep p xs ])) 1 ≡ only (b || any p xs) 1
    go true h = omega arith
    go false h = h

-- ---- a count
module _ {n : ℕ} {types : List ℕ} {s : Drawn.Shape} {ls : List Numbered} {shows : List ℕ} {b : Tally} (c : Counted n types s ls shows b) where
  -- The count exceeds a room exactly where the lines do.
  pub count_fits : (room : ℕ) → room ≤ most_lines → b.total ≤ room → length ls ≤ room
  count_fits room le few = go (leb (length ls) most_lines) refl
    where
      go : (d : Bool) → leb (length ls) most_lines ≡ d → length ls ≤ room
      go true q = omega (arith, c.total-is (leb-true (length ls) most_lines q))
      go false q = let z : ⊥ = omega (arith, c.over (leb-false (length ls) most_lines q)) in absurd z

  pub count_exceeds : (room : ℕ) → room ≤ most_lines → room < b.total → room < length ls
  count_exceeds room le many = go (leb (length ls) most_lines) refl
    where
      go : (d : Bool) → leb (length ls) most_lines ≡ d → room < length ls
      go true q = omega (arith, c.total-is (leb-true (length ls) most_lines q))
      go false q = omega (arith, leb-false (length ls) most_lines q)

module _ {f : Format} {t sb : List ℕ} {w : Work} (y : Ready f t sb w) where
  abbrev ns : List Node
  ns = nodes (rows f t)

  abbrev sh : Shape
  sh = shape_in f t sb

  -- ---- the count
  -- no entry is deeper than the format
  shallow : Shallow w.shape (f.levels - 1)
  shallow e lt = omega (arith, y.shallow e lt, y.served.deep)

  pub counted_here : {shows : List ℕ} {b : Tally} → CountedOf w.rows w.levels w.types w.shape shows b
      → Counted w.rows w.types w.shape (all_lines f t w.shape) shows b
  counted_here c = c f t (f.levels - 1) y.levelled y.shaped shallow

  -- ---- the figures
  abbrev ls : List Line
  ls = lines ns sh f.levels

  abbrev found : List Numbered
  found = all_lines f t w.shape

  abbrev to_line : Numbered → Line
  to_line x = record { entry = x.0.0; source = x.0.1; dewey = x.1 }

  -- the lines of an entry
  entry_lines_lem : (e : ℕ) → entry_lines ls e ≡ map to_line (of_entry e found)
  unfolding entry_lines
  entry_lines_lem e = ap (keep (λ (l : Line). eqb l.entry e)) (sym (lines_are y)) ∙ keep-map (λ (l : Line). eqb l.entry e) to_line found

  shown_of_lem : (e : ℕ) → length (of_entry e found) ≡ length (entry_lines ls e)
  shown_of_lem e = sym (ap length (entry_lines_lem e) ∙ length-map (of_entry e found) to_line)

  -- a row's place is that of a line of the entry
  appears-at : (e i : ℕ) → appears (entry_lines ls e) (node f t i) ≡ any (λ (x : Numbered). eqb x.0.1.place i) (of_entry e found)
  unfolding appears
  appears-at e i =
      ap (any (λ (l : Line). eqb l.source.place i)) (entry_lines_lem e) ∙ any_map (λ (l : Line). eqb l.source.place i) to_line (of_entry e found)

  module _ (e : ℕ) (lt : e < w.shape.entries) where
    kind_is : (i : ℕ) → i < w.rows → eqb (get_or w.types i 0) (type_of w.shape e) ≡ eqb (node f t i).kind (kind sh e)
    kind_is i li = ap₂ eqb (kind_at f w.rows t w.types y.levelled.typed i li) (y.holds.type_is e lt)

    held_is : held_by w.types w.rows (type_of w.shape e) ≡ length (of_kind ns (kind sh e))
    unfolding of_kind
    held_is =
        sum_same _ _ w.rows (λ i li. ap (λ b. only b 1) (kind_is i li))
        ∙ sym (rows_kept f w.rows t w.types y.levelled.typed (λ (r : Node). eqb r.kind (kind sh e)))

    -- a row of another type is not shown
    different_is : {shows : List ℕ} {b : Tally} → Counted w.rows w.types w.shape found shows b → length found ≤ most_lines
        → different_in w.types w.rows (type_of w.shape e) shows e ≡ length (different_rows ns (entry_lines ls e))
    unfolding different_rows
    different_is {shows} c few =
        sum_same _ _ w.rows each ∙ sym (rows_kept f w.rows t w.types y.levelled.typed (appears (entry_lines ls e)))
      where
        k : ℕ
        k = type_of w.shape e

        own : (i : ℕ) → i < w.rows → (d : Bool) → eqb (get_or w.types i 0) k ≡ d → only d (min (shown shows e i) 1) ≡ min (shown shows e i) 1
        own i li true q = refl
        own i li false q = ap (λ n. min n 1) (sym (c.typed few e i lt li (eqb-false (get_or w.types i 0) k q)))

        each : (i : ℕ) → i < w.rows → only (eqb (get_or w.types i 0) k) (min (shown shows e i) 1) ≡ only (appears (entry_lines ls e) (node f t i)) 1
        each i li =
            own i li (eqb (get_or w.types i 0) k) refl ∙ ap (λ n. min n 1) (c.shows_are few e i lt li)
            ∙ any_one (λ (x : Numbered). eqb x.0.1.place i) (of_entry e found) ∙ sym (ap (λ d. only d 1) (appears-at e i))

  module _ {shows : List ℕ} {b : Tally} (c : Counted w.rows w.types w.shape (all_lines f t w.shape) shows b)
      (fits : length (all_lines f t w.shape) ≤ most_lines) where
    few : w.shape.entries ≤ 16
    few = y.shaped.sized.few

    line_count : (e : ℕ) → e < 16 → get_or b.lines e 0 ≡ length (entry_lines ls e)
    line_count e lt = c.lines_are fits e lt ∙ shown_of_lem e

    -- different rows are never more than lines
    pub different_fits : (e : ℕ) → e < w.shape.entries → different_in w.types w.rows (type_of w.shape e) shows e ≤ get_or b.lines e 0
    different_fits e lt = omega (arith, different_is e lt c fits, line_count e (omega (arith, few)), different_few (rows f t) (entry_lines ls e))

    -- the answer is the paper's
    pub summed : (x : Summary) → length b.lines ≡ 16
        → Figured w.types w.rows w.shape.types w.shape.entries shows b.lines x → summarised (Ok x) ≡ record {
          number = 0;
          place = 0;
          rest = figures (nodes (rows f t)) (shape_in f t sb) (lines (nodes (rows f t)) (shape_in f t sb) f.levels);
        }
    unfolding figures
    summed x long q =
        ap {B = Reply Figures} (λ x. record { number = 0; place = 0; rest = x })
        (ap₂ {C = Figures} (λ l r. record { lines = l; rows = r; copies = x.copies; different = x.different }) (q.lines_are ∙ lines_is) rows_is
        ∙ ap₂ {C = Figures} (λ c d. record { lines = places_of shown_of; rows = places_of held_of; copies = c; different = d }) copies_is all-is)
      where
        shown_of : ℕ → ℕ
        shown_of e = length (entry_lines ls e)

        held_of : ℕ → ℕ
        held_of e = length (of_kind ns (kind sh e))

        different_of : ℕ → ℕ
        different_of e = length (different_rows ns (entry_lines ls e))

        places_of : (ℕ → ℕ) → List ℕ
        places_of g = padded 16 (map g (numbers sh))

        filled : (xs : List ℕ) (g : ℕ → ℕ) → length xs ≡ 16 → ((e : ℕ) → e < w.shape.entries → get_or xs e 0 ≡ g e)
            → ((e : ℕ) → w.shape.entries ≤ e → e < 16 → get_or xs e 0 ≡ 0) → xs ≡ places_of g
        filled xs g long each rest =
            padded-by xs g w.shape.entries long few each rest ∙ ap (λ n. padded 16 (map g (count 0 n))) y.holds.counted

        lines_is : b.lines ≡ places_of shown_of
        lines_is = filled b.lines shown_of long (λ e lt. line_count e (omega (arith, few)))
            (λ e le lt. c.lines_are fits e lt ∙ of_none ns w.shape y.shaped.sized (f.levels - 1) e le)

        rows_is : x.rows ≡ places_of held_of
        rows_is = filled x.rows held_of q.rows_are.long (λ e lt. q.rows_are.each e lt ∙ held_is e lt) (λ e le _. q.rows_are.rest e le)

        copies_is : x.copies ≡ places_of (λ e. shown_of e - different_of e)
        copies_is = filled x.copies (λ e. shown_of e - different_of e) q.copies_are.long
            (λ e lt. q.copies_are.each e lt ∙ ap₂ (λ a d. a - d) (line_count e (omega (arith, few))) (different_is e lt c fits))
            (λ e le _. q.copies_are.rest e le)

        all-is : x.different ≡ places_of different_of
        all-is = filled x.different different_of q.different_are.long (λ e lt. q.different_are.each e lt ∙ different_is e lt c fits)
            (λ e le _. q.different_are.rest e le)
