-- Judging rows that were read: what is answered where the tests refuse, and where they read the rows. Assumes nothing.
use Prim.Native.Nat.{ℕ}
use mathlib.Core.Path.{◌≡◌, sym, ◌∙◌, ap}
use mathlib.Core.List.{List}
use Rattle.paper.specs.Format.{Format}
use Rattle.paper.specs.Tables.{Row}
use Rattle.paper.specs.Verdict.{Judgement}
use Rattle.paper.specs.Calls.{Answer, refused, Reply, judge_rows, judge}
use Rattle.closest.specs.Rows.{Reads}
use Rattle.closest.specs.declared.rows.RowsRead.{RowsRead}
use Rattle.closest.proofs.Seam.{as_refused, as_plain}
use Rattle.std.specs.Prelude.{Ok, Err}
use Rattle.paper.specs.Refusals.{refusal_number, refusal_place}
use Rattle.paper.specs.declared.refusal.Refusal.{Refusal}
use Rattle.judging.specs.Judged.{judged, in_numbers}

-- b is what the call that reads by these tests is to answer
pub refused-rows : {tests : Answer (List Row)} {b : Reply Judgement} (f : Format) (s : List ℕ) (e : Refusal) → judge_rows f tests s ≡ b
    → tests ≡ refused (refusal_number e) (refusal_place e) → judged (Err e) ≡ in_numbers b
refused-rows f s e call reads = ap in_numbers (sym ((as_refused f e reads).judges s) ∙ call)

pub judged-rows : {tests : Answer (List Row)} {b : Reply Judgement} (f : Format) (t s levels types : List ℕ) (read : RowsRead) → judge_rows f tests s ≡ b
    → Reads tests f t (Ok read) levels types → in_numbers (judge f t s) ≡ in_numbers b
judged-rows f t s levels types read call reads = ap in_numbers (sym ((as_plain f t levels types read reads).judges s) ∙ call)
