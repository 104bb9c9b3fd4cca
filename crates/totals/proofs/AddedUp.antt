-- What the walk over an entry's rows adds up is what the definition of the sums says of these rows. Assumes nothing.
use Prim.Native.Nat.{ℕ}
use mathlib.Core.Path.{◌≡◌, refl, sym, ◌∙◌, ap}
use mathlib.Core.Logic.{inl, inr}
use mathlib.Core.Bool.{Bool, true, false, not}
use mathlib.Core.List.{List, [], ◌∷◌, map}
use lib.IntN.{ℤ, ◌+ℤ◌, +ℤ_idr, +ℤ_assoc}
use Rattle.paper.specs.Lists.{Has, keep}
use Rattle.paper.specs.Closeness.{Node}
use Rattle.paper.specs.Calls.{given, refuse_at, Reply, reply, ◌>>=◌}
use Rattle.totals.specs.Sums.{sum_of, within}
use Rattle.totals.specs.Tape.{most_value, first_of, Sums, no_sums}
use Rattle.totals.specs.Rows.{added_up}
use Rattle.totals.proofs.Lists.{put_if}

-- refused with 17 at the first of the rows out of range, or both sums
abbrev answer : List Node → ℤ → ℤ → Reply Sums
answer out a b = reply no_sums do
  _ ← refuse_at 17 (first_of out)
  given (record { shown = a; unshown = b })

module _ (value : ℕ → ℤ) (shows : ℕ → Bool) (v : Node → ℤ) (p : Node → Bool) where
  -- A walk that reads each row's value, and whether it is shown, off the row's place adds up the rows shown and those not shown.
  pub added_up_lem : (ns : List Node) (a b : ℤ) → ((r : Node) → Has r ns → (value r.place ≡ v r) × (shows r.place ≡ p r))
      → added_up value shows (map (λ (r : Node). r.place) ns) a b ≡ reply no_sums (do
        _ ← refuse_at 17 (first_of (keep (λ r. not (within most_value (v r))) ns))
        given (record { shown = a +ℤ sum_of v (keep p ns); unshown = b +ℤ sum_of v (keep (λ r. not (p r)) ns) }))
  added_up_lem [] a b each = λ j. answer [] (sym (+ℤ_idr a) j) (sym (+ℤ_idr b) j)
  added_up_lem (r ∷ ns) a b each =
      let (same-value, same_test) = each r (inl refl) in
      (λ j. walk (same-value j) (within most_value (same-value j)) (same_test j))
      ∙ step (within most_value (v r)) (p r) (λ a b. added_up_lem ns a b (λ q h. each q (inr h)))
    where
      out : List Node
      out = keep (λ q. not (within most_value (v q))) ns

      shown : List Node
      shown = keep p ns

      unshown : List Node
      unshown = keep (λ q. not (p q)) ns

      places : List ℕ
      places = map (λ (q : Node). q.place) ns

      -- one step of the walk: z is the row's value, t says whether it is in range, s whether it is shown
      walk : ℤ → Bool → Bool → Reply Sums
      walk z t s =
          elim t [
            | true ↦ elim s [ true ↦ added_up value shows places (a +ℤ z) b | false ↦ added_up value shows places a (b +ℤ z) ]
            | false ↦ record { number = 17; place = r.place; rest = no_sums }
          ]

      step : (t s : Bool) → ((a b : ℤ) → added_up value shows places a b ≡ answer out (a +ℤ sum_of v shown) (b +ℤ sum_of v unshown))
          → walk (v r) t s ≡ answer (put_if (not t) r out) (a +ℤ sum_of v (put_if s r shown)) (b +ℤ sum_of v (put_if (not s) r unshown))
      step false s later = refl
      step true true later =
          later (a +ℤ v r) b ∙ ap (λ c. answer out c (b +ℤ sum_of v unshown)) (+ℤ_assoc a (v r) (sum_of v shown))
      step true false later =
          later a (b +ℤ v r) ∙ ap (λ c. answer out (a +ℤ sum_of v shown) c) (+ℤ_assoc b (v r) (sum_of v unshown))
