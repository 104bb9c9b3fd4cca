-- The seam after refusal 4: judging, reshaping and summarising are over rows that were read, whichever tests read them. Assumes nothing.
use Prim.Native.Nat.{ℕ}
use mathlib.Core.Path.{◌≡◌, ap}
use mathlib.Core.List.{List}
use Rattle.paper.specs.Format.{Format}
use Rattle.paper.specs.Tables.{Row}
use Rattle.paper.specs.Figures.{no_figures}
use Rattle.paper.specs.Calls.{Answer, refused, reply, tests1_4, tests5_7, no_judgement, judge_rows, judge}
use Rattle.paper.specs.Calls.{reshaping, reshape_rows, reshape, summarise_rows, summarise}

-- The calls over what was read are refused with k at place p, and leave what was lent.
pub record Refuses (f : Format) (k p : ℕ) (read : Answer (List Row)) : Type 0 where
  pub judges : (s : List ℕ) → judge_rows f read s ≡ reply no_judgement (refused k p)
  pub summarises : (s : List ℕ) → summarise_rows f read s ≡ reply no_figures (refused k p)
  pub reshapes : (s table sources : List ℕ) → reshape_rows f read s table sources ≡ record { reply = reply 0 (refused k p); table = table; sources = sources }

-- So they are where the tests that read the rows refuse so.
pub seam_refused : (f : Format) (k p : ℕ) (read : Answer (List Row)) → read ≡ refused k p → Refuses f k p read
unfolding tests5_7 judge_rows summarise_rows reshaping reshape_rows
seam_refused f k p read e = record {
  judges = λ s. ap (λ a. judge_rows f a s) e;
  summarises = λ s. ap (λ a. summarise_rows f a s) e;
  reshapes = λ s table sources. ap (λ a. reshape_rows f a s table sources) e;
}

-- The calls over what was read answer as the plain calls over the table t.
pub record AsPlain (f : Format) (t : List ℕ) (read : Answer (List Row)) : Type 0 where
  pub judges : (s : List ℕ) → judge_rows f read s ≡ judge f t s
  pub summarises : (s : List ℕ) → summarise_rows f read s ≡ summarise f t s
  pub reshapes : (s table sources : List ℕ) → reshape_rows f read s table sources ≡ reshape f t s table sources

-- THE LAW OF THE SEAM. Tests that say of a table what 1 to 4 say of t serve every call as the plain one.
pub seam : (f : Format) (t : List ℕ) (read : Answer (List Row)) → read ≡ tests1_4 f t → AsPlain f t read
unfolding judge summarise reshape
seam f t read e = record {
  judges = λ s. ap (λ a. judge_rows f a s) e;
  summarises = λ s. ap (λ a. summarise_rows f a s) e;
  reshapes = λ s table sources. ap (λ a. reshape_rows f a s table sources) e;
}
