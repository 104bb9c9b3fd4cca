-- The first record that passes a test, found by its number. Assumes nothing.
use Prim.Native.Nat.{ℕ, zero, suc, ◌≤◌, ◌<◌}
use native.Mathlib.Numerals.{add-one}
use native.Mathlib.Omega.{arith}
use mathlib.Core.Path.{◌≡◌, sym, ◌∙◌, ap, subst}
use mathlib.Core.Bool.{Bool, true, false}
use mathlib.Core.List.{List}
use Rattle.std.proofs.Common.{Option, Some, None, MatchOption}
use Rattle.paper.specs.Lists.{place}
use Rattle.paper.specs.Format.{records}
use Rattle.paper.specs.Refusals.{found}
use Rattle.tables.specs.Place.{place_of}
use Rattle.tables.proofs.Rows.{rec}
use Rattle.tables.proofs.Walks.{Looking, looking_start, looking_stop, looking_on, looking_end, count-records, next_record}
use Rattle.shapes.proofs.Examined.{place-some, place_none}

module _ (p : List ℕ → Bool) (w n : ℕ) (b : List ℕ) where
  -- none of the first k records passes
  abbrev pub Passed : ℕ → Type 0
  Passed k = (i : ℕ) → 0 ≤ i → i < k → p (rec w i b) ≡ false

  looked : (k : ℕ) → k ≤ n → Passed k → Looking p (records w n b) n k
  looked zero le none = looking_start p (records w n b) n
  looked (suc k) le none =
      subst (Looking p (records w n b) n) (add-one k)
      (looking_on p (records w n b) n k (looked k (omega arith) (λ i lo lt. none i lo (omega arith))) (omega arith) (rec w k b)
      (next_record w n b k (omega arith)) (none k (omega arith) (omega arith)))

  -- The number that is found is the place in their list.
  pub first_record : (r : Option ℕ) → MatchOption r (Passed n) (λ i. (0 ≤ i) × (i < n) × (p (rec w i b) ≡ true) × Passed i)
      → found r ≡ place_of (place p (records w n b)) n
  first_record None none =
      let e = looking_end p (records w n b) n n (looked n (omega arith) none) (count-records w n b) (omega arith) in
      sym (place_none _ n (omega (arith, e)))
  first_record (Some i) (lo, lt, here, none) =
      let e = looking_stop p (records w n b) n i (looked i (omega arith) none) lt (rec w i b) (next_record w n b i lt) here in
      sym (ap (λ k. place_of k n) (sym e) ∙ place-some i n lt)
