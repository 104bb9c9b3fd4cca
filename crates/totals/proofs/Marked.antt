-- The rows of an entry's type are marked exactly if its lines show them: all of them, none, or those that the source list has. Assumes nothing.
use Prim.Native.Nat.{ℕ, ◌≤◌, ◌<◌}
use native.Mathlib.Omega.{arith}
use mathlib.Core.Path.{◌≡◌, sym, ◌∙◌, ap, subst}
use mathlib.Core.Bool.{Bool, true, false, ◌||◌}
use mathlib.Core.List.{List, ◌++◌}
use lib.Dec.{eqb}
use lib.ListN.{length, get_or, take, drop, replicate, get_or-replicate, length-replicate, length-append}
use lib.Seq.{take-append_seam}
use Rattle.paper.specs.Lists.{Has, keep}
use Rattle.paper.specs.Format.{Format, most_rows, most_entries, most_lines}
use Rattle.paper.specs.Closeness.{Node}
use Rattle.paper.specs.NewTable.{Line, source_list}
use Rattle.paper.specs.Figures.{Figures, entry_lines, appears, figures}
use Rattle.paper.specs.Calls.{Reply, given, Work, tests1_7, test8, room_in, summarise}
use Rattle.reshaping.specs.Reshaped.{Reshapes}
use Rattle.totals.specs.Tape.{type_rows, shown_rows}
use Rattle.totals.specs.Rows.{is_marked, is_shown, Marks, AllMarked}
use Rattle.totals.specs.Work.{HasEntry, MarksShown}
use Rattle.totals.proofs.Passed.{Passed, passed, count-shape}
use Rattle.totals.proofs.Reshaped.{Written, reshape_written, passed8, length_sources}
use Rattle.totals.proofs.Shown.{place_few, shown_of_type, appears-listed}
use Rattle.totals.proofs.Listed.{type_row}
use Rattle.totals.proofs.Summary.{rows_figure, different_figure, all_kept_lem, none_kept, figures_are}

module _ (f : Format) (b sb : List ℕ) (e : ℕ) (has : HasEntry f b sb e) where
  pub entry_few : e < most_entries
  entry_few = omega (arith, has.inside, (passed f b sb has.work has.passes1_7).few_entries)

  -- ---- by the figures of the summary
  module _ (x : Reply Figures) (says : x ≡ summarise f b sb) (w : Work) (ls : List Line) (past1_7 : tests1_7 f b sb ≡ given w)
      (past8 : test8 f w most_lines ≡ given ls) where
    past : Passed f b sb w
    past = passed f b sb w past1_7

    abbrev appear : Node → Bool
    appear = appears (entry_lines ls e)

    inside : e < length w.shape.ways
    inside = omega (arith, has.inside, count-shape f b sb w past)

    few : length w.shape.ways ≤ most_entries
    few = omega (arith, count-shape f b sb w past, past.few_entries)

    figures-told : x ≡ record { number = 0; place = 0; rest = figures w.nodes w.shape ls }
    figures-told = says ∙ figures_are f b sb w ls past1_7 past8

    rows_told : get_or x.rest.rows e 0 ≡ length (type_rows w e)
    unfolding type_rows
    rows_told = ap (λ y. get_or y.rest.rows e 0) figures-told ∙ rows_figure w.nodes w.shape ls e inside few

    different_told : get_or x.rest.different e 0 ≡ length (keep appear (type_rows w e))
    unfolding shown_rows
    different_told =
        ap (λ y. get_or y.rest.different e 0) figures-told ∙ different_figure w.nodes w.shape ls e inside few
        ∙ ap length (shown_of_type f b sb w past e ls (passed8 f w most_lines ls past8).0)

    all_appear : get_or x.rest.different e 0 ≡ get_or x.rest.rows e 0 → (r : Node) → Has r (type_rows w e) → appear r ≡ true
    all_appear same = all_kept_lem appear (type_rows w e) (sym different_told ∙ same ∙ rows_told)

    none-appears : get_or x.rest.different e 0 ≡ 0 → (r : Node) → Has r (type_rows w e) → appear r ≡ false
    none-appears none-shown = none_kept appear (type_rows w e) (sym different_told ∙ none-shown)

    place : (r : Node) → Has r (type_rows w e) → r.place < most_rows
    place r h = place_few f b sb w past r (type_row f b sb w past e r h)

  module _ (x : Reply Figures) (says : x ≡ summarise f b sb) where
    pub marks_all : get_or x.rest.different e 0 ≡ get_or x.rest.rows e 0 → (before marks : List ℕ) → before ≡ replicate most_rows 0
        → AllMarked before marks → MarksShown f b sb e marks
    marks_all same before marks fresh m w ls past1_7 past8 r h =
        let below = place x says w ls past1_7 past8 r h in
        m.each r.place (subst (λ n. r.place < n) (sym (ap length fresh ∙ length-replicate {A = ℕ} most_rows 0)) below)
        ∙ sym (all_appear x says w ls past1_7 past8 same r h)

    pub marks_none_shown : get_or x.rest.different e 0 ≡ 0 → (marks : List ℕ) → marks ≡ replicate most_rows 0 → MarksShown f b sb e marks
    marks_none_shown none-shown marks fresh w ls past1_7 past8 r h =
        ap (λ l. is_marked l r.place) fresh ∙ ap (λ v. eqb v 1) (get_or-replicate most_rows r.place 0 0 (place x says w ls past1_7 past8 r h))
        ∙ sym (none-appears x says w ls past1_7 past8 none-shown r h)

  -- ---- by the source list of the reshape
  module _ (new sources : List ℕ) (room : room_in f new sources ≡ most_lines)
      {r : Reply ℕ} {new' sources' : List ℕ} (x : Reshapes f b sb new sources r new' sources') where
    module _ (w : Work) (ls : List Line) (past1_7 : tests1_7 f b sb ≡ given w) (past8 : test8 f w most_lines ≡ given ls) where
      written : Written f b sb new sources most_lines w ls
      written = reshape_written f b sb new sources most_lines room w ls past1_7 past8

      accepted : r.number ≡ 0
      accepted = ap (λ (z : Reply ℕ). z.number) (x.answer ∙ written.reply-is)

      count : r.rest ≡ length ls
      count = ap (λ (z : Reply ℕ). z.rest) (x.answer ∙ written.reply-is)

      left : sources' ≡ source_list ls ++ drop (length ls) sources
      left = x.places ∙ written.sources_are

      fit : r.rest ≤ length sources'
      fit = omega (arith, count, length_sources ls, ap length left, length-append (source_list ls) (drop (length ls) sources))

      lines_are : take r.rest sources' ≡ source_list ls
      lines_are = (λ j. take ((count ∙ sym (length_sources ls)) j) (left j)) ∙ take-append_seam (source_list ls) (drop (length ls) sources)

    pub lines_accepted : r.number ≡ 0
    lines_accepted = accepted has.work has.shown has.passes1_7 has.passes8

    pub lines_fit : r.rest ≤ length sources'
    lines_fit = fit has.work has.shown has.passes1_7 has.passes8

    pub marks_lines : (before marks : List ℕ) → before ≡ replicate most_rows 0 → Marks e (take r.rest sources') before marks → MarksShown f b sb e marks
    marks_lines before marks fresh m w ls past1_7 past8 q h =
        let past = passed f b sb w past1_7 in
        let row = type_row f b sb w past e q h in
        let below = place_few f b sb w past q row in
        m.each q.place below
        ∙ (λ j. is_marked (fresh j) q.place || is_shown e (lines_are w ls past1_7 past8 j) q.place)
        ∙ ap (λ v. eqb v 1 || is_shown e (source_list ls) q.place) (get_or-replicate most_rows q.place 0 0 below)
        ∙ sym (appears-listed f b sb w past e ls (passed8 f w most_lines ls past8).0 q row)
