-- What building an index answers, in the paper's terms. Assumes nothing.
use Rattle.std.specs.Prelude.{ℕ, ◌≡◌, List, Result}
use Rattle.paper.specs.Format.{Format}
use Rattle.paper.specs.Calls.{Reply}
use Rattle.paper.specs.Index.{build_index}
use Rattle.paper.specs.Refusals.{reply_of}
use Rattle.paper.specs.declared.refusal.Refusal.{Refusal}

-- number, place, count of rows
abbrev pub built : Result ℕ Refusal → Reply ℕ
built r = reply_of 0 (λ rows. rows) r

-- The whole promise of building: r is the answer, and last' and next' are what the lent places hold afterwards.
pub record Builds (f : Format) (t last next : List ℕ) (r : Reply ℕ) (last' next' : List ℕ) : Type 0 where
  pub answer : r ≡ (build_index f t last next).reply
  pub lasts : last' ≡ (build_index f t last next).last
  pub nexts : next' ≡ (build_index f t last next).next
