-- What the summary says, and what is added up of the rows that are marked, is the tape's answer. Assumes nothing.
use Prim.Native.Nat.{ℕ, ◌/◌, ◌≤◌, ◌<◌}
use native.Mathlib.Nat.{lt_irrefl}
use native.Mathlib.Omega.{arith}
use mathlib.Core.Path.{◌≡◌, sym, ◌∙◌, ap, ap₂, subst}
use mathlib.Core.Bool.{Bool, true, false, not}
use mathlib.Core.List.{List}
use lib.Dec.{leb}
use lib.IntN.{ℤ, pos, ◌+ℤ◌, +ℤ_idl}
use lib.ListN.{length}
use borrow.Author.Tests.{le-leb, lt-leb}
use Rattle.std.specs.Prelude.{Result, Ok, Err, IfOk}
use Rattle.paper.specs.Lists.{keep}
use Rattle.paper.specs.Format.{Format, most_lines, row_bytes, entry_bytes}
use Rattle.paper.specs.Closeness.{Node}
use Rattle.paper.specs.NewTable.{Line}
use Rattle.paper.specs.Figures.{Figures, entry_lines, appears}
use Rattle.paper.specs.Calls.{refused, given, refuse, refuse_at, Reply, reply, Work, tests1_7, test8, summarise, ◌>>=◌}
use Rattle.paper.specs.declared.refusal.Refusal.{Refusal}
use Rattle.totals.specs.Sums.{sum_of}
use Rattle.totals.specs.Tape.{Tape, value_of, type_rows, out_of_range, shown_rows, unshown_rows, first_of, Sums, no_sums, sum_tape, sum_of_type}
use Rattle.totals.specs.Told.{tape, summed}
use Rattle.totals.specs.Rows.{is_marked, value_at}
use Rattle.totals.specs.Work.{HasEntry, MarksShown, SumsRows}
use Rattle.totals.specs.declared.TapeSums.{TapeSums}
use Rattle.totals.proofs.Passed.{Passed, passed, count_entries, count-shape}
use Rattle.totals.proofs.Reshaped.{passed8, sums_refused, sums_passed}
use Rattle.totals.proofs.Summary.{Outcome, refusal, figured, outcome}
use Rattle.totals.proofs.Shown.{shown_of_type}
use Rattle.totals.proofs.Listed.{values_of}
use Rattle.totals.proofs.AddedUp.{added_up_lem}
use Rattle.totals.proofs.Tapes.{tape-together}

-- both sums that are told of an accepted tape, together, are the sum over all rows of the type
pub told-together : (t : Tape) (r : Result TapeSums Refusal) → summed r ≡ sum_tape t → IfOk r (λ s. s.shown +ℤ s.unshown ≡ sum_of_type t)
told-together t (Ok s) e = (λ i. (e i).rest.shown +ℤ (e i).rest.unshown) ∙ tape-together t (sym (ap (λ (x : Reply Sums). x.number) e))
told-together t (Err d) e = tt

-- refused, with no sums
abbrev refused_sums : ℕ → ℕ → Reply Sums
refused_sums k p = reply no_sums (refused k p)

module _ (f : Format) (b sb : List ℕ) (e : ℕ) (x : Reply Figures) (says : x ≡ summarise f b sb) where
  abbrev t : Tape
  t = tape f b sb e

  -- refused as the summary is
  pub as_summarised : (x.number ≡ 0 → ⊥) → refused_sums x.number x.place ≡ sum_tape t
  unfolding sum_tape
  as_summarised ne = go (outcome f b sb)
    where
      go : Outcome f b sb → refused_sums x.number x.place ≡ sum_tape t
      go (refusal k p numbered tests y) =
          (λ j. refused_sums ((says ∙ y) j).number ((says ∙ y) j).place) ∙ sym (ap (reply no_sums) (sums_refused t k p tests))
      go (figured w ls past past8 y) = absurd (ne (ap (λ z. z.number) (says ∙ y)))

  -- accepted: 1 to 8 are passed
  module _ (accepted : x.number ≡ 0) where
    passes : (w : Work) × (ls : List Line) × (tests1_7 f b sb ≡ given w) × (test8 f w most_lines ≡ given ls)
    passes = go (outcome f b sb)
      where
        go : Outcome f b sb → (w : Work) × (ls : List Line) × (tests1_7 f b sb ≡ given w) × (test8 f w most_lines ≡ given ls)
        go (refusal k p numbered tests y) = absurd (lt_irrefl 0 (subst (λ n. 0 < n) (sym (ap (λ z. z.number) (says ∙ y)) ∙ accepted) numbered))
        go (figured w ls past past8 y) = (w, ls, past, past8)

    abbrev work : Work
    work = passes.0

    abbrev ls : List Line
    ls = passes.1

    past : Passed f b sb work
    past = passed f b sb work passes.2

    -- what is left of the tape's answer: 16, 17, or these sums
    abbrev answer : Bool → ℤ → ℤ → Reply Sums
    answer beyond a c = reply no_sums (do
      _ ← refuse 16 beyond
      _ ← refuse_at 17 (first_of (out_of_range work e))
      given (record { shown = a; unshown = c }))

    abbrev value : Node → ℤ
    value = value_of work.rows

    tape-is : (beyond : Bool) → leb (length work.shape.ways) e ≡ beyond
        → answer beyond (sum_of value (shown_rows work e ls)) (sum_of value (unshown_rows work e ls)) ≡ sum_tape t
    unfolding sum_tape
    tape-is beyond h =
        sym (ap (reply no_sums) (sums_passed t work ls passes.2 passes.3)
        ∙ ap (λ c. answer c (sum_of value (shown_rows work e ls)) (sum_of value (unshown_rows work e ls))) h)

    ways : length work.shape.ways ≡ length sb / entry_bytes f
    ways = count-shape f b sb work past ∙ count_entries f sb

    -- 16, no such entry
    pub no_entry : length sb / entry_bytes f ≤ e → refused_sums 16 0 ≡ sum_tape t
    no_entry le = tape-is true (le-leb (length work.shape.ways) e (omega (arith, le, ways)))

    module _ (lt : e < length sb / entry_bytes f) where
      pub has-entry : HasEntry f b sb e
      has-entry = record { work = work; shown = ls; passes1_7 = passes.2; passes8 = passes.3; inside = omega (arith, lt, count_entries f sb) }

      pub summed-up : (marks : List ℕ) → MarksShown f b sb e marks → (y : Reply Sums) → SumsRows f b sb e marks y → y ≡ sum_tape t
      unfolding out_of_range unshown_rows
      summed-up marks shows y sums =
          let appear = appears (entry_lines ls e) in
          sums work passes.2
          ∙ added_up_lem (value_at (row_bytes f) (entry_bytes f) b) (is_marked marks) value appear (type_rows work e) (pos 0) (pos 0)
          (λ q h. (values_of f b sb work past e q h, shows work ls passes.2 passes.3 q h))
          ∙ ap₂ (answer false)
          (+ℤ_idl (sum_of value (keep appear (type_rows work e)))
          ∙ ap (sum_of value) (sym (shown_of_type f b sb work past e ls (passed8 f work most_lines ls passes.3).0)))
          (+ℤ_idl (sum_of value (keep (λ q. not (appear q)) (type_rows work e))))
          ∙ tape-is false (lt-leb (length work.shape.ways) e (omega (arith, lt, ways)))
