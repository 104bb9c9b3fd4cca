-- `put_summaries`: after k types the first k summaries stand, and zeros after them. Assumes nothing.
use Prim.Native.Nat.{ℕ, ◌-◌}
use mathlib.Core.Path.{◌≡◌}
use mathlib.Core.List.{List}
use lib.ListN.{length, take, replicate}
use Rattle.paper.specs.Format.{Format}
use Rattle.paper.specs.Tables as Tables
use Rattle.paper.specs.Adorned.{adorned}
use Rattle.closest.specs.Rows.{RowsIn}
use Rattle.adorned.specs.Told.{no_summary}
use Rattle.adorned.proofs.All.{told_first, told_from}
use Rattle.adorned.proofs.put_summaries.Given as goal

abbrev pub invariant-loop-k : goal.invariant-loop-k
invariant-loop-k l = record {
  long : length l.all ≡ 64;
  zeros : told_from l.k l.all ≡ replicate (64 - l.k) no_summary;
  first : (f : Format) (t : List ℕ) → RowsIn f t l.read l.levels l.types → told_first l.k l.all ≡ take l.k (adorned (Tables.rows f t));
}
