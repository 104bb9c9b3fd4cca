-- What a reshape answers, beside the first tests of a tape. Assumes nothing.
use Prim.Native.Nat.{ℕ, ◌≤◌}
use mathlib.Core.Path.{◌≡◌, sym, subst}
use mathlib.Core.List.{List, ◌++◌}
use lib.Dec.{leb, ltb}
use lib.ListN.{length, drop, length-map}
use borrow.Author.Tests.{ltb-false, le-ltb}
use Rattle.paper.specs.Format.{Format, most_lines}
use Rattle.paper.specs.NewTable.{Line, lines, source_list}
use Rattle.paper.specs.Calls.{Answer, refused, given, ◌>>=◌, refuse, refuse_at, Work}
use Rattle.paper.specs.Calls.{tests1_7, test8, room_in, reshaping, reshape_rows, reshape}
use Rattle.totals.specs.Tape.{Tape, sums_of, value_of, out_of_range, first_of, shown_rows, unshown_rows}
use Rattle.totals.specs.Sums.{sum_of}
use Rattle.totals.proofs.Passed.{bind_given, given-same, refuse-given}

-- what two tests refuse, they refuse whatever comes after
bind_refused : {A B C : Type 0} (a : Answer A) (next : A → Answer B) (last : A → B → Answer C) (k p : ℕ) → (a >>= next) ≡ refused k p
    → (a >>= (λ x. next x >>= last x)) ≡ refused k p
bind_refused (refused j q) next last k p h = cc
bind_refused (given x) next last k p h = rw h

module _ (f : Format) where
  -- ---- 8
  pub passed8 : (w : Work) (room : ℕ) (ls : List Line) → test8 f w room ≡ given ls
      → (ls ≡ lines w.nodes w.shape f.levels) × (length ls ≤ room)
  unfolding test8
  passed8 w room ls h =
      let l = lines w.nodes w.shape f.levels in
      let (u, h₁, k₁) = bind_given (refuse 8 (ltb room (length l))) _ ls h in
      let e = given-same l ls k₁ in
      (sym e, subst (λ z. length z ≤ room) e (ltb-false room (length l) (refuse-given 8 (ltb room (length l)) u h₁)))

  -- as many lines as there is room for pass
  pub pass8 : (w : Work) (room : ℕ) → let ls = lines w.nodes w.shape f.levels in length ls ≤ room → test8 f w room ≡ given ls
  unfolding test8
  pass8 w room fit = rw (le-ltb room (length (lines w.nodes w.shape f.levels)) fit)

-- ---- the reply of a reshape and its source list
pub length_sources : (ls : List Line) → length (source_list ls) ≡ length ls
unfolding source_list
length_sources ls = length-map ls _

-- the tests of a reshape, and the first of a tape
abbrev pub tests1_8 : Format → List ℕ → List ℕ → ℕ → Answer (List Line)
tests1_8 f b sb room = tests1_7 f b sb >>= (λ w. test8 f w room)

module _ (f : Format) (b sb table sources : List ℕ) (room : ℕ) where
  -- a reshape in that room that writes its lines
  pub record Written (w : Work) (ls : List Line) : Type 0 where
    pub passes1_7 : tests1_7 f b sb ≡ given w
    pub passes8 : test8 f w room ≡ given ls
    pub lines_are : ls ≡ lines w.nodes w.shape f.levels
    pub reply-is : (reshape f b sb table sources).reply ≡ record { number = 0; place = 0; rest = length ls }
    pub sources_are : (reshape f b sb table sources).sources ≡ source_list ls ++ drop (length ls) sources

  module _ (is-room : room_in f table sources ≡ room) where
    pub reshape_written : (w : Work) (ls : List Line) → tests1_7 f b sb ≡ given w → test8 f w room ≡ given ls → Written w ls
    unfolding reshape reshape_rows reshaping
    reshape_written w ls past past8 =
        let count = length_sources ls in
        let (are, few) = passed8 f w room ls past8 in
        record {
          passes1_7 = past;
          passes8 = past8;
          lines_are = are;
          reply-is = rw (is-room, past, past8, count);
          sources_are = rw (is-room, past, past8, count);
        }

-- ---- the tape's own answer after these tests
pub sums_refused : (t : Tape) (k p : ℕ) → tests1_8 t.format t.table t.shape most_lines ≡ refused k p → sums_of t ≡ refused k p
unfolding sums_of
sums_refused t k p refuses = bind_refused (tests1_7 t.format t.table t.shape) (λ w. test8 t.format w most_lines) _ k p refuses

pub sums_passed : (t : Tape) (w : Work) (ls : List Line)
    → tests1_7 t.format t.table t.shape ≡ given w → test8 t.format w most_lines ≡ given ls
    → sums_of t ≡ (do
      _ ← refuse 16 (leb (length w.shape.ways) t.entry)
      _ ← refuse_at 17 (first_of (out_of_range w t.entry))
      given (record {
        shown = sum_of (value_of w.rows) (shown_rows w t.entry ls);
        unshown = sum_of (value_of w.rows) (unshown_rows w t.entry ls);
      }))
unfolding sums_of
sums_passed t w ls past past8 = rw (past, past8)
