-- Refusals 14 and 15 of lent lists, from what the walks find. Assumes nothing.
use Prim.Native.Nat.{ℕ, ◌≤◌, ◌<◌}
use native.Mathlib.Omega.{arith}
use mathlib.Core.Path.{◌≡◌, ap₂}
use mathlib.Core.Bool.{false, ◌||◌}
use mathlib.Core.List.{List}
use lib.Dec.{ltb}
use lib.ListN.{length}
use borrow.Author.Tests.{lt-ltb, le-ltb}
use Rattle.paper.specs.Format.{Format}
use Rattle.paper.specs.Tables.{rows}
use Rattle.paper.specs.Index.{too_short}
use Rattle.paper.proofs.Lists.{or_left, or_right}
use Rattle.paper.proofs.Index.{index_refused}
use Rattle.octets.specs.Served.{Served}
use Rattle.std.specs.Prelude.{Option, None, Some, Ok, Err}
use Rattle.paper.specs.Refusals.{refusal_number, refusal_place}
use Rattle.paper.specs.declared.refusal.Refusal.{Refusal}
use Rattle.paper.specs.declared.refusal.Refusal.TheVariants.{IndexTooShort, WrongIndex}
use Rattle.closest.specs.Runs.{Levelled, NextRow}
use Rattle.closest.specs.Rows.{RowsIn, ReadRows}
use Rattle.closest.specs.declared.rows.RowsRead.{RowsRead}
use Rattle.indexes.specs.Last.{Shallow, LastRow}
use Rattle.indexes.specs.Wrong.{FirstWrong, earlier}
use Rattle.indexes.proofs.Wrong.{right_before, earlier_none}
use Rattle.indexes.specs.Tested.{Holds, ReadsIndexed}
use Rattle.indexes.proofs.Held.{wrong_row_lem, no_wrong_row, lists_short, lists_wrong, lists_right}

module _ (n : ℕ) (levels types last next : List ℕ) where
  -- a list is too short for the rows
  pub holds_short : length next < n → Holds n levels types last next (Err IndexTooShort)
  holds_short lt = record {
    says = λ f t lv table. lists_short f t last next table
        (or_right (ltb (length last) (length (rows f t))) (lt-ltb (length next) (length (rows f t)) (omega (arith, lv.typed.rows_n))));
    next_in = tt;
  }

  pub holds_short_last : length last < n → Holds n levels types last next (Err IndexTooShort)
  holds_short_last lt = record {
    says = λ f t lv table. lists_short f t last next table
        (or_left (ltb (length next) (length (rows f t))) (lt-ltb (length last) (length (rows f t)) (omega (arith, lv.typed.rows_n))));
    next_in = tt;
  }

  module _ (long_last : n ≤ length last) (long_next : n ≤ length next) where
    fits : (f : Format) (t : List ℕ) → Levelled f n t levels types → too_short (rows f t) last next ≡ false
    fits f t lv = ap₂ ◌||◌ (le-ltb (length last) (length (rows f t)) (omega (arith, lv.typed.rows_n)))
        (le-ltb (length next) (length (rows f t)) (omega (arith, lv.typed.rows_n)))

    module _ (a b : Option ℕ) (fa : FirstWrong n (LastRow n levels) last a) (fb : FirstWrong n (NextRow n types) next b) where
      pub holds_wrong : (w : ℕ) → Some w ≡ earlier a b → Holds n levels types last next (Err (WrongIndex w))
      holds_wrong w e = record {
        says = λ f t lv table. lists_wrong f t last next table (fits f t lv) w (wrong_row_lem f n t levels types lv last next a b fa fb w e);
        next_in = tt;
      }

      pub holds_right : None ≡ earlier a b → Holds n levels types last next (Ok tt)
      holds_right e = record {
        says = λ f t lv table. lists_right f t last next table (fits f t lv) (no_wrong_row f n t levels types lv last next a b fa fb e);
        next_in = record { long = long_next; nexts = λ i lt. right_before n (NextRow n types) next b fb i (omega (arith, earlier_none n (LastRow n levels) (NextRow n types) last next a b fa fb e)) };
      }

-- ---- the rows with their index
module _ (f : Format) (t last next levels types : List ℕ) where
  -- the table is refused
  pub unread : (e : Refusal) → ReadRows f t (Err e) levels types → ReadsIndexed f t last next (Err e) levels types
  unread e read = record { reads = index_refused f t last next (refusal_number e) (refusal_place e) read; next_in = tt }

  -- and where it is not, the lists decide
  pub read_wrong : (r : RowsRead) (e : Refusal) → ReadRows f t (Ok r) levels types → Holds r.rows levels types last next (Err e)
      → ReadsIndexed f t last next (Err e) levels types
  read_wrong r e read holds = record { reads = holds.says f t read.1.levelled read.1.given_is; next_in = tt }

  pub read_right : (r : RowsRead) → ReadRows f t (Ok r) levels types → Holds r.rows levels types last next (Ok tt)
      → ReadsIndexed f t last next (Ok r) levels types
  read_right r read holds = record { reads = (holds.says f t read.1.levelled read.1.given_is, read.1); next_in = holds.next_in }

-- the levels of rows that are read
pub shallow_rows : {f : Format} {t levels types : List ℕ} {r : RowsRead} → Served f → RowsIn f t r levels types → Shallow r.rows levels
shallow_rows served in_rows = record {
  few = in_rows.rows_are.few;
  long = in_rows.rows_are.levels_long;
  shallow = λ i lt. omega (arith, in_rows.levels_are.level_most i lt, served.shallow);
}
