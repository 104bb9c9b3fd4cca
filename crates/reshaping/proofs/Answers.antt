-- What reshaping and summarising answer, refusal by refusal. Assumes nothing.
use Prim.Native.Nat.{ℕ, ◌+◌, ◌*◌, ◌≤◌, ◌<◌}
use mathlib.Core.Path.{◌≡◌, ◌∙◌, ap}
use mathlib.Core.List.{List, ◌++◌}
use lib.ListN.{length, drop, length-map}
use borrow.Author.Tests.{lt-ltb, le-ltb}
use Rattle.paper.specs.Format.{Format, most_lines}
use Rattle.paper.specs.Tables.{rows}
use Rattle.paper.specs.Closeness.{Node, nodes}
use Rattle.paper.specs.Shapes.{Shape}
use Rattle.paper.specs.NewTable.{Line, lines, new_table, source_list, entry_unit}
use Rattle.paper.specs.Figures.{Figures, figures, no_figures}
use Rattle.paper.specs.Calls.{Answer, Work, refused, given, ◌>>=◌, refuse, reply, after, tests1_7, test8, room_in, reshaping, Reshaping, reshape_rows, reshape, summarise_rows, summarise}
use Rattle.shapes.specs.Tests.{shape_in}
use Rattle.shapes.specs.Work.{Ready}
use Rattle.shapes.specs.Work

-- ---- what the calls make of what the tests give
-- the figures, after the test after 7
abbrev counted : Format → Work → Answer Figures
counted f x = test8 f x most_lines >>= (λ l. given (figures x.nodes x.shape l))

module _ (f : Format) (table sources : List ℕ) where
  -- what a reshape leaves, once it is known what it gives
  abbrev from : Answer (List ℕ × List ℕ) → Reshaping
  from a = record {
    reply = reply 0 (a >>= (λ (x : List ℕ × List ℕ). given (length x.1)));
    table = after table (a >>= (λ (x : List ℕ × List ℕ). given x.0));
    sources = after sources (a >>= (λ (x : List ℕ × List ℕ). given x.1));
  }

  -- the new table and its source list, after the test after 7
  abbrev rest : Work → Answer (List ℕ × List ℕ)
  rest x =
      test8 f x (room_in f table sources)
      >>= (λ (l : List Line). given (new_table f x.shape x.rows l, source_list l))

-- ---- 1 to 7
module _ (f : Format) (t s : List ℕ) (k p : ℕ) (e : tests1_7 f t s ≡ refused k p) where
  pub reshape-refused : (table sources : List ℕ)
      → reshape f t s table sources ≡ record { reply = record { number = k; place = p; rest = 0 }; table = table; sources = sources }
  unfolding reshape reshape_rows reshaping
  reshape-refused table sources = ap (λ a. from f table sources (a >>= rest f table sources)) e

  pub summary_refused : summarise f t s ≡ record { number = k; place = p; rest = no_figures }
  unfolding summarise summarise_rows
  summary_refused = ap (λ a. reply no_figures (a >>= counted f)) e

-- ---- 8, and what is given
module _ {f : Format} {t s : List ℕ} {w : Work.Work} (y : Ready f t s w) where
  abbrev ns : List Node
  ns = nodes (rows f t)

  abbrev sh : Shape
  sh = shape_in f t s

  abbrev ls : List Line
  ls = lines ns sh f.levels

  abbrev work : Work
  work = record { rows = rows f t; nodes = ns; shape = sh }

  module _ (table sources : List ℕ) where
    -- what is written of the lines
    abbrev written : List Line → Answer (List ℕ × List ℕ)
    written l = given (new_table f sh (rows f t) l, source_list l)

    same : reshape f t s table sources ≡ from f table sources (rest f table sources work)
    unfolding reshape reshape_rows reshaping
    same = ap (λ a. from f table sources (a >>= rest f table sources)) y.given_is

    -- 8: more lines than there is room for
    pub reshape_full : room_in f table sources < length (lines (nodes (rows f t)) (shape_in f t s) f.levels)
        → reshape f t s table sources ≡ record { reply = record { number = 8; place = 0; rest = 0 }; table = table; sources = sources }
    unfolding test8
    reshape_full lt =
        same ∙ ap (λ b. from f table sources (refuse 8 b >>= (λ _. given ls) >>= written)) (lt-ltb (room_in f table sources) (length ls) lt)

    pub reshape-given : length (lines (nodes (rows f t)) (shape_in f t s) f.levels) ≤ room_in f table sources
        → let new = new_table f (shape_in f t s) (rows f t) (lines (nodes (rows f t)) (shape_in f t s) f.levels) in
        let list = source_list (lines (nodes (rows f t)) (shape_in f t s) f.levels) in
        reshape f t s table sources ≡ record {
          reply = record { number = 0; place = 0; rest = length (lines (nodes (rows f t)) (shape_in f t s) f.levels) };
          table = new ++ drop (length new) table;
          sources = list ++ drop (length list) sources;
        }
    unfolding test8 source_list
    reshape-given le =
        same ∙ ap (λ b. from f table sources (refuse 8 b >>= (λ _. given ls) >>= written)) (le-ltb (room_in f table sources) (length ls) le)
        ∙ ap {B = Reshaping} (λ n. record { reply = record { number = 0; place = 0; rest = n }; table = new_table f sh (rows f t) ls ++ drop (length (new_table f sh (rows f t) ls)) table; sources = source_list ls ++ drop (length (source_list ls)) sources }) (length-map ls (λ (l : Line). l.entry * entry_unit + l.source.place))

  pub summary_full : most_lines < length (lines (nodes (rows f t)) (shape_in f t s) f.levels) → summarise f t s ≡ record { number = 8; place = 0; rest = no_figures }
  unfolding summarise summarise_rows test8
  summary_full lt =
      ap (λ a. reply no_figures (a >>= counted f)) y.given_is
      ∙ ap (λ b. reply no_figures (refuse 8 b >>= (λ _. given ls) >>= (λ l. given (figures ns sh l)))) (lt-ltb most_lines (length ls) lt)

  pub summary_given : length (lines (nodes (rows f t)) (shape_in f t s) f.levels) ≤ most_lines
      → summarise f t s ≡ record {
        number = 0;
        place = 0;
        rest = figures (nodes (rows f t)) (shape_in f t s) (lines (nodes (rows f t)) (shape_in f t s) f.levels);
      }
  unfolding summarise summarise_rows test8
  summary_given le =
      ap (λ a. reply no_figures (a >>= counted f)) y.given_is
      ∙ ap (λ b. reply no_figures (refuse 8 b >>= (λ _. given ls) >>= (λ l. given (figures ns sh l)))) (le-ltb most_lines (length ls) le)
