-- The calls with an index: each is the call over the rows that its tests read; with the table's own index it answers as the one without. Assumes nothing.
use Prim.Native.Nat.{ℕ}
use mathlib.Core.Path.{◌≡◌, refl, sym, ◌∙◌}
use mathlib.Core.List.{List}
use Rattle.paper.specs.Format.{Format}
use Rattle.paper.specs.Tables.{Row}
use Rattle.paper.specs.Calls.{Answer, refused, given, tests1_4, judge_rows, judge, summarise_rows, summarise, reshape_rows, reshape}
use Rattle.paper.specs.Index.{tests_index, build_index, judge_with, summarise_with, reshape_with}
use Rattle.paper.proofs.Calls.{passed1_4}
use Rattle.paper.proofs.Seam.{AsPlain, seam}
use Rattle.paper.proofs.Index.{index_passes, index_refused, built-begins}

module _ (f : Format) (t s last next : List ℕ) where
  -- a call with an index is the call over the rows that its tests read
  pub judge_with_lem : judge_rows f (tests_index f t last next) s ≡ judge_with f t s last next
  unfolding judge_with
  judge_with_lem = refl

  pub summarise_with_lem : summarise_rows f (tests_index f t last next) s ≡ summarise_with f t s last next
  unfolding summarise_with
  summarise_with_lem = refl

  pub reshape_with_lem : (table sources : List ℕ) → reshape_rows f (tests_index f t last next) s table sources ≡ reshape_with f t s last next table sources
  unfolding reshape_with
  reshape_with_lem table sources = refl

  -- where the tests read what 1 to 4 read, it answers as the one without
  module _ (reads : tests_index f t last next ≡ tests1_4 f t) where
    abbrev plain : AsPlain f t (tests_index f t last next)
    plain = seam f t (tests_index f t last next) reads

    pub judge-plain : judge_with f t s last next ≡ judge f t s
    judge-plain = sym judge_with_lem ∙ plain.judges s

    pub summarise-plain : summarise_with f t s last next ≡ summarise f t s
    summarise-plain = sym summarise_with_lem ∙ plain.summarises s

    pub reshape-plain : (table sources : List ℕ) → reshape_with f t s last next table sources ≡ reshape f t s table sources
    reshape-plain table sources = sym (reshape_with_lem table sources) ∙ plain.reshapes s table sources

-- with an index that is built of the table they do
module _ (f : Format) (t last next : List ℕ) (accepted : (build_index f t last next).reply.number ≡ 0) where
  abbrev last' : List ℕ
  last' = (build_index f t last next).last

  abbrev next' : List ℕ
  next' = (build_index f t last next).next

  built_reads : tests_index f t last' next' ≡ tests1_4 f t
  built_reads = go (tests1_4 f t) refl
    where
      go : (a : Answer (List Row)) → tests1_4 f t ≡ a → tests_index f t last' next' ≡ tests1_4 f t
      go (refused k p) e = index_refused f t last' next' k p e ∙ sym e
      go (given rs) e = index_passes f t last' next' rs e (built-begins f t last next accepted rs (passed1_4 f t rs e)) ∙ sym e

  pub judge-built : (s : List ℕ) → judge_with f t s (build_index f t last next).last (build_index f t last next).next ≡ judge f t s
  judge-built s = judge-plain f t s last' next' built_reads

  pub summarise-built : (s : List ℕ) → summarise_with f t s (build_index f t last next).last (build_index f t last next).next ≡ summarise f t s
  summarise-built s = summarise-plain f t s last' next' built_reads

  pub reshape-built : (s table sources : List ℕ)
      → reshape_with f t s (build_index f t last next).last (build_index f t last next).next table sources ≡ reshape f t s table sources
  reshape-built s = reshape-plain f t s last' next' built_reads
