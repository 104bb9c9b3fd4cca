-- The rules of a pair one by one, and the walk that looks for the first pair to break one. Assumes nothing.
use Prim.Native.Nat.{ℕ, zero, suc, ◌+◌, ◌*◌, ◌≤◌, ◌<◌}
use native.Mathlib.Numerals.{add-one}
use native.Mathlib.Omega.{arith}
use mathlib.Core.Path.{◌≡◌, refl, sym, ◌∙◌, ap, ap₂, subst}
use mathlib.Core.Bool.{Bool, true, false, not, ◌&&◌, cond}
use mathlib.Core.List.{List, [], ◌∷◌, ◌++◌}
use mathlib.Core.Option.{Option, some}
use lib.Dec.{eqb, leb}
use lib.ListN.{length, get_or, take, drop, drop_of_length-le}
use lib.Seq.{take-suc}
use borrow.Author.Tests.{lt-leb, le-leb}
use Rattle.std.proofs.Common.{is_some}
use Rattle.std.proofs.Common as std
use Rattle.std.proofs.lemmas.List.FromFn.{length-range_with_len}
use Rattle.std.specs.List.{position, position_or_len, range_with_len}
use Rattle.paper.specs.Lists.{any}
use Rattle.paper.specs.Format.{Format}
use Rattle.paper.specs.Labels.{most_old, Pair, pairs, listed, taken, pair_kept, bad_pair_from, bad_pair}
use Rattle.paper.specs.Refusals.{found}
use Rattle.tables.specs.Place.{place_of}
use Rattle.tables.proofs.Rows.{some-place, none-place}
use Rattle.labels.specs.Pairs.{pair_at, has}
use Rattle.labels.proofs.Ranged.{place_is, found_place}
use Rattle.labels.proofs.Listed.{position_any, next_pair, pair_at_lem}

-- ---- one pair
abbrev tested : Bool → Bool → Bool → Bool → Bool → Bool → Bool → Bool
tested a b c d e g h = (a && b) && (c && d) && not e && not g && not h

module _ (f : Format) (ls l : List ℕ) (i old new : ℕ) (lt : i < length (pairs l)) (eold : old ≡ get_or l (2 * i) 0) (enew : new ≡ get_or l (2 * i + 1) 0) where
  abbrev before : List Pair
  before = take i (pairs l)

  abbrev kept : Bool
  kept = pair_kept f ls before (pair_at l i)

  -- the pair, from what each rule finds
  kept_is : (a b c d e g h : Bool) → leb (suc f.labels) old ≡ a → leb old most_old ≡ b → leb 1 new ≡ c → leb new f.labels ≡ d
      → any (eqb new) ls ≡ e → listed before old ≡ g → taken before new ≡ h → kept ≡ tested a b c d e g h
  unfolding pair_kept
  kept_is a b c d e g h ea eb ec ed ee eg eh =
      ap₂ (λ (x y : ℕ). pair_kept f ls before (record { old = x; new = y })) (sym eold) (sym enew)
      ∙ (λ k. tested (ea k) (eb k) (ec k) (ed k) (ee k) (eg k) (eh k))

  pub too_small : old ≤ f.labels → false ≡ kept
  too_small le = sym (kept_is _ _ _ _ _ _ _ (lt-leb (suc f.labels) old (omega arith)) refl refl refl refl refl refl)

  module _ (above : f.labels < old) where
    first_holds : leb (suc f.labels) old ≡ true
    first_holds = le-leb (suc f.labels) old (omega arith)

    pub too_large : most_old < old → false ≡ kept
    too_large large = sym (kept_is _ _ _ _ _ _ _ first_holds (lt-leb old most_old large) refl refl refl refl refl)

    module _ (within : old ≤ most_old) where
      second_holds : leb old most_old ≡ true
      second_holds = le-leb old most_old within

      pub no_label : new < 1 → false ≡ kept
      no_label missing = sym (kept_is _ _ _ _ _ _ _ first_holds second_holds (lt-leb 1 new missing) refl refl refl refl)

      module _ (some_label : 1 ≤ new) where
        third_holds : leb 1 new ≡ true
        third_holds = le-leb 1 new some_label

        pub new_too_large : f.labels < new → false ≡ kept
        new_too_large large = sym (kept_is _ _ _ _ _ _ _ first_holds second_holds third_holds (lt-leb new f.labels large) refl refl refl)

        module _ (small : new ≤ f.labels) (occurs : Bool) (eq : occurs ≡ any (eqb new) ls) where
          fourth_holds : leb new f.labels ≡ true
          fourth_holds = le-leb new f.labels small

          pub new_occurs : occurs ≡ true → false ≡ kept
          new_occurs e = sym (kept_is _ _ _ _ _ _ _ first_holds second_holds third_holds fourth_holds (sym eq ∙ e) refl refl)

          module _ (fresh : occurs ≡ false) (o : std.Option ℕ) (eo : o ≡ position (has 0 old) before) where
            pub old_twice : is_some o ≡ true → false ≡ kept
            old_twice e =
                sym (kept_is _ _ _ _ _ _ _ first_holds second_holds third_holds fourth_holds (sym eq ∙ fresh) (sym (position_any (has 0 old) before o eo) ∙ e) refl)

            -- The last rule decides.
            pub new_decides : is_some o ≡ false → (q : std.Option ℕ) → q ≡ position (has 1 new) before → not (is_some q) ≡ kept
            new_decides e q eq' =
                sym (kept_is _ _ _ _ _ _ _ first_holds second_holds third_holds fourth_holds (sym eq ∙ fresh) (sym (position_any (has 0 old) before o eo) ∙ e)
                (sym (position_any (has 1 new) before q eq')))

-- ---- the walk: pairs before i keep the rules, and from i on the first break is the list's
module _ (f : Format) (ls l : List ℕ) where
  abbrev all-pairs : List Pair
  all-pairs = pairs l

  abbrev pub Breaking : ℕ → Type 0
  Breaking i = (i ≤ length (pairs l)) × (bad_pair_from f ls i (take i (pairs l)) (drop i (pairs l)) ≡ bad_pair f ls (pairs l))

  pub breaking_start : Breaking 0
  unfolding bad_pair
  breaking_start = (omega arith, refl)

  module _ (i : ℕ) (breaking : Breaking i) where
    abbrev rest : List Pair
    rest = drop (suc i) all-pairs

    step : (p : Pair) → drop i all-pairs ≡ p ∷ rest → (t : Bool) → pair_kept f ls (take i all-pairs) p ≡ t
        → bad_pair f ls all-pairs ≡ elim t as (λ _. Option ℕ) [ true ↦ bad_pair_from f ls (suc i) (take i all-pairs ++ (p ∷ [])) rest | false ↦ some i ]
    step p next t e =
        sym breaking.1 ∙ ap (bad_pair_from f ls i (take i all-pairs)) next
        ∙ ap (λ t. elim t as (λ _. Option ℕ) [ true ↦ bad_pair_from f ls (suc i) (take i all-pairs ++ (p ∷ [])) rest | false ↦ some i ]) e

    module _ (n : ℕ) (en : n ≡ length (pairs l)) (lt : i < n) where
      there : i < length (pairs l)
      there = omega (arith, en, lt)

      pub breaking_stop : pair_kept f ls (take i (pairs l)) (pair_at l i) ≡ false → bad_pair f ls (pairs l) ≡ place_of i (length (pairs l))
      breaking_stop e = some-place (bad_pair f ls all-pairs) i (length all-pairs) there (step (pair_at l i) (next_pair l i there) false e)

      pub breaking_on : pair_kept f ls (take i (pairs l)) (pair_at l i) ≡ true → Breaking (i + 1)
      breaking_on e = (
        omega (arith, there),
        ap (λ k. bad_pair_from f ls k (take k all-pairs) (drop k all-pairs)) (add-one i)
            ∙ ap (λ (ps : List Pair). bad_pair_from f ls (suc i) ps rest)
            (take-suc all-pairs i (record { old = 0; new = 0 }) there ∙ ap (λ (p : Pair). take i all-pairs ++ (p ∷ [])) (pair_at_lem l i there))
            ∙ sym (step (pair_at l i) (next_pair l i there) true e),
      )

    pub breaking_end : (n : ℕ) → n ≡ length (pairs l) → n ≤ i → bad_pair f ls (pairs l) ≡ place_of n (length (pairs l))
    breaking_end n en le =
        none-place (bad_pair f ls all-pairs) (length all-pairs)
        (sym breaking.1
        ∙ ap (bad_pair_from f ls i (take i all-pairs)) (drop_of_length-le all-pairs {i = i} (omega (arith, en, le))))
        ∙ ap (λ k. place_of k (length all-pairs)) (sym en)

  -- whether a pair breaks a rule
  abbrev pub breaks : ℕ → Bool
  breaks i = not (pair_kept f ls (take i (pairs l)) (pair_at l i))

  breaks_from : (i n : ℕ) → i + n ≡ length (pairs l) → Breaking i
      → bad_pair f ls (pairs l) ≡ place_of (i + position_or_len breaks (range_with_len i n)) (length (pairs l))
  breaks_from i zero e breaking = breaking_end i breaking (i + 0) (omega (arith, e)) (omega arith)
  breaks_from i (suc n) e breaking =
      go (pair_kept f ls (take i (pairs l)) (pair_at l i)) refl
      (λ (t : pair_kept f ls (take i (pairs l)) (pair_at l i) ≡ true).
      breaks_from (i + 1) n (omega (arith, e)) (breaking_on i breaking (length (pairs l)) refl (omega (arith, e)) t))
    where
      later : ℕ
      later = position_or_len breaks (range_with_len (i + 1) n)

      is_at : ℕ → Type 0
      is_at k = bad_pair f ls (pairs l) ≡ place_of k (length (pairs l))

      go : (kept : Bool) → pair_kept f ls (take i (pairs l)) (pair_at l i) ≡ kept
          → (pair_kept f ls (take i (pairs l)) (pair_at l i) ≡ true → is_at (i + 1 + later)) → is_at (i + cond (not (not kept)) (1 + later) 0)
      go true t rest = subst is_at (omega arith) (rest t)
      go false t rest = subst is_at (omega arith) (breaking_stop i breaking (length (pairs l)) refl (omega (arith, e)) t)

  -- The first pair to break one is that of the list.
  pub first_break_is : (n : ℕ) → n ≡ length (pairs l) → (r : std.Option ℕ) → r ≡ position breaks (range_with_len 0 n)
      → found r ≡ bad_pair f ls (pairs l)
  first_break_is n e r er =
      ap found er ∙ found_place breaks (range_with_len 0 n)
      ∙ ap₂ place_of (place_is breaks (range_with_len 0 n) ∙ omega arith) (length-range_with_len 0 n ∙ e)
      ∙ sym (breaks_from 0 n (omega (arith, e)) breaking_start)
