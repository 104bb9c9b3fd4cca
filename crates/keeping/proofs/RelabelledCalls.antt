-- What judging and summarising answer of a table and a shape with their labels converted. Assumes nothing.
use Prim.Native.Nat.{ℕ, ◌<◌}
use native.Mathlib.Omega.{arith}
use mathlib.Core.Path.{◌≡◌, refl, sym, ◌∙◌, ap, ap₂}
use mathlib.Core.List.{List, map}
use mathlib.Core.Option.{Option, none, some}
use lib.Dec.{ltb}
use lib.ListN.{length, length-take}
use Rattle.paper.specs.Lists.{Has}
use Rattle.paper.specs.Format.{Format, most_lines}
use Rattle.paper.specs.Tables.{Row, rows, types}
use Rattle.paper.specs.Closeness.{nodes}
use Rattle.paper.specs.Shapes.{Entry, entries, named, shape_over}
use Rattle.paper.specs.NewTable.{Line}
use Rattle.paper.specs.Figures.{Figures, figures, no_figures}
use Rattle.paper.specs.Verdict.{Judgement, judgement}
use Rattle.paper.specs.Calls.{Answer, refused, given, ◌>>=◌, refuse, refuse_at, reply, Work, no_judgement}
use Rattle.paper.specs.Calls.{type_too_many, type_missing, tests1_3, tests1_4, tests5_6, tests5_7, tests1_7, test8, judge_rows, judge, summarise_rows, summarise}
use Rattle.paper.specs.Labels.{old_range, Pair, converted, row_with, entry_with}
use Rattle.paper.proofs.Shapes.{entries_laid, each_part}
use Rattle.paper.proofs.Calls.{refused-given, passed5_6}
use Rattle.keeping.proofs.Accepted.{Accepted}
use Rattle.keeping.proofs.Relabelled.{nodes-with}
use Rattle.keeping.proofs.RelabelledShapes.{shape_by, lines_by, figures-by, judgement_by, too_many_with, missing_with, shape_with_lem}

-- what judging, reshaping and summarising work on, with the labels converted
abbrev pub work_with : List Pair → Work → Work
work_with ps w = record { rows = map (row_with ps) w.rows; nodes = w.nodes; shape = shape_by (converted ps) w.shape }

-- 8 finds the same lines
pub eight-with : (f : Format) (ps : List Pair) (w : Work) (room : ℕ) → test8 f (work_with ps w) room ≡ test8 (old_range f) w room
unfolding test8
eight-with f ps w room = ap (λ ls. refuse 8 (ltb room (length ls)) >>= (λ _. given ls)) (lines_by w.nodes (converted ps) w.shape f.levels)

-- ---- answers
-- what is refused after a change of what is given is what was refused
refused_through : {A B : Type 0} (a : Answer A) (to : A → B) (k p : ℕ)
    → ((a >>= (λ x. given (to x))) ≡ refused k p → a ≡ refused k p) × (a ≡ refused k p → (a >>= (λ x. given (to x))) ≡ refused k p)
refused_through {A} {B} (refused j q) to k p = (λ e. ap as_refused e, λ e. ap (λ (a : Answer A). a >>= (λ x. given (to x))) e)
  where
    as_refused : Answer B → Answer A
    as_refused a = a >>= (λ _. refused 0 0)
refused_through (given x) to k p = (λ e. refused-given k p (to x) (sym e), λ e. refused-given k p x (sym e))

-- ---- 1 to 7, after 1 to 3 and 5 and 6
abbrev own_work : List Row → List Entry → Work
own_work rs es = record { rows = rs; nodes = nodes rs; shape = shape_over (types rs) es }

abbrev four_seven : Option ℕ → Option ℕ → Work → Answer Work
four_seven four seven w = refuse_at 4 four >>= (λ _. refuse_at 7 seven >>= (λ _. given w))

four_seven_through : (to : Work → Work) (four seven : Option ℕ) (w : Work)
    → four_seven four seven (to w) ≡ (four_seven four seven w >>= (λ w. given (to w)))
four_seven_through to (some p) seven w = refl
four_seven_through to none none w = refl
four_seven_through to none (some p) w = refl

seven_tests : (f : Format) (b s : List ℕ) (rs : List Row) (es : List Entry) → tests1_3 f b ≡ given rs → tests5_6 f s ≡ given es
    → tests1_7 f b s ≡ four_seven (type_too_many rs) (type_missing rs es) (own_work rs es)
unfolding tests5_7 tests1_4
seven_tests f b s rs es passed-rows passed-entries =
    ap₂ (λ a c. (a >>= (λ rs. refuse_at 4 (type_too_many rs) >>= (λ _. given rs))) >>= (λ rs. c >>= (λ es.
    refuse_at 7 (type_missing rs es) >>= (λ _. given (own_work rs es))))) passed-rows passed-entries
    ∙ through (type_too_many rs)
  where
    through : (o : Option ℕ) → ((refuse_at 4 o >>= (λ _. given rs)) >>= (λ rs. refuse_at 7 (type_missing rs es) >>= (λ _. given (own_work rs es))))
        ≡ four_seven o (type_missing rs es) (own_work rs es)
    through none = refl
    through (some p) = refl

-- table and shape are those of b and s with their labels converted
module _ (f : Format) (ps : List Pair) (b s table shape : List ℕ) (accepted : Accepted f ps b s table shape) where
  abbrev rs : List Row
  rs = rows (old_range f) b

  abbrev es : List Entry
  es = entries (old_range f) s

  -- an entry that keeps the rules names a type of one label or more
  some_label : (e : Entry) → Has e es → 0 < length (named e)
  some_label e h =
      let (at, sound, filled, few) = passed5_6 (old_range f) s es accepted.shape_before in
      let laid = entries_laid (old_range f) s e h in
      let (lo, hi) = (each_part (old_range f) es sound e h).1.size in
      omega (arith, length-take e.size e.labels)

  -- THE SAME IS FOUND BY 1 TO 7: the nodes, and the shape but for its labels, which are converted, as are those of the rows.
  pub work_with_lem : tests1_7 f table shape ≡ (tests1_7 (old_range f) b s >>= (λ w. given (work_with ps w)))
  work_with_lem =
      seven_tests f table shape (map (row_with ps) rs) (map (entry_with ps) es) accepted.table-after accepted.shape-after
      ∙ ap₂ (λ four seven. four_seven four seven (own_work (map (row_with ps) rs) (map (entry_with ps) es)))
      (too_many_with ps rs es accepted.apart) (missing_with ps rs es accepted.apart)
      ∙ ap (four_seven (type_too_many rs) (type_missing rs es)) same_work
      ∙ four_seven_through (work_with ps) (type_too_many rs) (type_missing rs es) (own_work rs es)
      ∙ ap (λ a. a >>= (λ w. given (work_with ps w))) (sym (seven_tests (old_range f) b s rs es accepted.table_before accepted.shape_before))
    where
      same_work : own_work (map (row_with ps) rs) (map (entry_with ps) es) ≡ work_with ps (own_work rs es)
      same_work =
          ap₂ {C = Work} (λ t s. record { rows = map (row_with ps) rs; nodes = t; shape = s })
          (nodes-with ps rs es accepted.apart) (shape_with_lem ps rs es accepted.apart some_label)

  -- THEY ARE REFUSED BY 1 TO 7 exactly as before, with the same number and place.
  pub seven_with : (k p : ℕ) → (tests1_7 f table shape ≡ refused k p → tests1_7 (old_range f) b s ≡ refused k p)
      × (tests1_7 (old_range f) b s ≡ refused k p → tests1_7 f table shape ≡ refused k p)
  seven_with k p =
      let (back, forth) = refused_through (tests1_7 (old_range f) b s) (work_with ps) k p in
      (λ e. back (sym work_with_lem ∙ e), λ e. work_with_lem ∙ forth e)

  -- THEY ARE JUDGED as before: the same verdict, second answer and numbers of each edge, or the same refusal.
  pub judge_with_lem : judge f table shape ≡ judge (old_range f) b s
  unfolding judge judge_rows
  judge_with_lem = ap (λ a. reply no_judgement (a >>= next)) work_with_lem ∙ go (tests1_7 (old_range f) b s)
    where
      next : Work → Answer Judgement
      next w = given (judgement w.nodes w.shape)

      go : (a : Answer Work) → reply no_judgement ((a >>= (λ w. given (work_with ps w))) >>= next) ≡ reply no_judgement (a >>= next)
      go (refused k p) = refl
      go (given w) = ap (λ j. reply no_judgement (given j)) (judgement_by w.nodes (converted ps) w.shape)

  -- THE LINES are the same, or they are refused by 1 to 8 as before.
  pub lines_with : (room : ℕ) → (tests1_7 f table shape >>= (λ w. test8 f w room)) ≡ (tests1_7 (old_range f) b s >>= (λ w. test8 (old_range f) w room))
  lines_with room = ap (λ a. a >>= (λ w. test8 f w room)) work_with_lem ∙ go (tests1_7 (old_range f) b s)
    where
      go : (a : Answer Work) → ((a >>= (λ w. given (work_with ps w))) >>= (λ w. test8 f w room)) ≡ (a >>= (λ w. test8 (old_range f) w room))
      go (refused k p) = refl
      go (given w) = eight-with f ps w room

  -- THE SUMMARY is the same, or it is refused as before.
  pub summarise_with_lem : summarise f table shape ≡ summarise (old_range f) b s
  unfolding summarise summarise_rows
  summarise_with_lem = ap (λ a. reply no_figures (a >>= next f)) work_with_lem ∙ go (tests1_7 (old_range f) b s)
    where
      next : Format → Work → Answer Figures
      next h w = test8 h w most_lines >>= (λ ls. given (figures w.nodes w.shape ls))

      go : (a : Answer Work) → reply no_figures ((a >>= (λ w. given (work_with ps w))) >>= next f) ≡ reply no_figures (a >>= next (old_range f))
      go (refused k p) = refl
      go (given w) =
          ap₂ (λ a (g : List Line → Figures). reply no_figures (a >>= (λ ls. given (g ls)))) (eight-with f ps w most_lines)
          (λ i ls. figures-by w.nodes (converted ps) w.shape ls i)
