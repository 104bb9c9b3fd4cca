-- What a history of tapes comes to: its sums and its count, in whatever order, and when a total is full. Assumes nothing.
use Prim.Native.Nat.{ℕ, zero, suc, ◌+◌, ◌*◌, ◌≤◌, ◌<◌}
use native.Mathlib.Omega.{arith}
use mathlib.Core.Path.{◌≡◌, refl, sym, ◌∙◌, ap, ap₂, subst}
use mathlib.Core.Logic.{inl, inr}
use mathlib.Core.Bool.{Bool, true, false}
use mathlib.Core.List.{List, [], ◌∷◌}
use lib.Dec.{eqb}
use lib.ListN.{length, take, length-take}
use lib.Seq.{take_all, take-nil}
use lib.IntN.{◌+ℤ◌, +ℤ_idl, +ℤ_idr, +ℤ_assoc}
use borrow.Author.Tests.{eqb-true, eqb-false, eq-eqb, leb-false, lt-leb}
use Rattle.paper.specs.Lists.{Has, keep}
use Rattle.totals.specs.Sums.{sum_of, within}
use Rattle.totals.specs.Tape.{Tape, sum_tape, sum_of_type}
use Rattle.totals.specs.Total.{Total, nothing, most_tapes, most_sum, with, take_in}
use Rattle.totals.specs.History.{after_all, taken_in, accepted, shown_in, unshown_in}
use Rattle.totals.specs.Reordered.{Reordered}
use Rattle.totals.proofs.Integers.{within_le, le_within}
use Rattle.totals.proofs.Lists.{put_if}
use Rattle.totals.proofs.Sums.{sum_both, sum_same, sum_reordered, length_reordered, keep_reordered}
use Rattle.totals.proofs.Taking.{refused_changes_nothing, taken_adds, number-alone, number_18, never_18_alone}
use Rattle.totals.proofs.Taking.{full_cannot_be, Sound, cannot_be_lem, grown}
use Rattle.totals.proofs.Tapes.{tape-within, tape-together}

-- What relates the total before, the tapes, the total after and the tapes taken in holds of each history if it holds where no tape is left,
-- and is carried over a tape that is taken in and over one that is refused.
module _
    (P : Total → List Tape → Total → List Tape → Type 0)
    (none_left : (x : Total) → P x [] x [])
    (one-taken : (x : Total) (t : Tape) (ts : List Tape) (y : Total) (ks : List Tape)
    → (take_in x t).number ≡ 0 → P (with x (sum_tape t).rest) ts y ks → P x (t ∷ ts) y (t ∷ ks))
    (one-refused : (x : Total) (t : Tape) (ts : List Tape) (y : Total) (ks : List Tape)
    → ((take_in x t).number ≡ 0 → ⊥) → P x ts y ks → P x (t ∷ ts) y ks)
  where
    history : (x : Total) (ts : List Tape) → P x ts (after_all x ts) (taken_in x ts)
    history x [] = none_left x
    history x (t ∷ ts) = go (eqb (take_in x t).number 0) refl (history (take_in x t).rest ts)
      where
        y : Total
        y = after_all (take_in x t).rest ts

        ks : List Tape
        ks = taken_in (take_in x t).rest ts

        go : (b : Bool) → eqb (take_in x t).number 0 ≡ b → P (take_in x t).rest ts y ks → P x (t ∷ ts) y (put_if b t ks)
        go true e p =
            let is0 = eqb-true (take_in x t).number 0 e in
            one-taken x t ts y ks is0 (subst (λ z. P z ts y ks) (taken_adds x t is0).2 p)
        go false e p =
            let not0 = eqb-false (take_in x t).number 0 e in
            one-refused x t ts y ks not0 (subst (λ z. P z ts y ks) (refused_changes_nothing x t not0) p)

-- y is x with these tapes
abbrev Adds : Total → Total → List Tape → Type 0
Adds x y ks = (y.shown ≡ x.shown +ℤ sum_of shown_in ks) × (y.unshown ≡ x.unshown +ℤ sum_of unshown_in ks) × (y.tapes ≡ x.tapes + length ks)

-- After a history the sums are those of the total before it and of each tape taken in, and the count is one more for each of these.
pub after_all_lem : (x : Total) (ts : List Tape)
    → ((after_all x ts).shown ≡ x.shown +ℤ sum_of shown_in (taken_in x ts))
    × ((after_all x ts).unshown ≡ x.unshown +ℤ sum_of unshown_in (taken_in x ts))
    × ((after_all x ts).tapes ≡ x.tapes + length (taken_in x ts))
after_all_lem = history (λ x ts y ks. Adds x y ks) (λ x. (sym (+ℤ_idr x.shown), sym (+ℤ_idr x.unshown), omega arith))
    (λ x t ts y ks _ (s, u, n). (
      s ∙ +ℤ_assoc x.shown (shown_in t) (sum_of shown_in ks),
      u ∙ +ℤ_assoc x.unshown (unshown_in t) (sum_of unshown_in ks),
      omega (arith, n),
    ))
    (λ x t ts y ks _ a. a)

-- From the start the sums are those of the tapes taken in, and the count is how many these are.
pub from_nothing : (ts : List Tape)
    → ((after_all nothing ts).shown ≡ sum_of shown_in (taken_in nothing ts))
    × ((after_all nothing ts).unshown ≡ sum_of unshown_in (taken_in nothing ts))
    × ((after_all nothing ts).tapes ≡ length (taken_in nothing ts))
from_nothing ts =
    let (s, u, n) = after_all_lem nothing ts in
    let ks = taken_in nothing ts in
    (s ∙ +ℤ_idl (sum_of shown_in ks), u ∙ +ℤ_idl (sum_of unshown_in ks), omega (arith, n))

-- Each tape taken in is accepted by itself.
pub taken-accepted : (x : Total) (ts : List Tape) (u : Tape) → Has u (taken_in x ts) → (sum_tape u).number ≡ 0
taken-accepted = history (λ x ts y ks. (u : Tape) → Has u ks → (sum_tape u).number ≡ 0) (λ x u h. absurd h) taken (λ x t ts y ks _ p. p)
  where
    taken : (x : Total) (t : Tape) (ts : List Tape) (y : Total) (ks : List Tape) → (take_in x t).number ≡ 0
        → ((u : Tape) → Has u ks → (sum_tape u).number ≡ 0) → (u : Tape) → Has u (t ∷ ks) → (sum_tape u).number ≡ 0
    taken x t ts y ks is0 p u (inl e) = ap (λ v. (sum_tape v).number) e ∙ (taken_adds x t is0).0
    taken x t ts y ks is0 p u (inr h) = p u h

-- A history without its refused tapes comes to the same total.
pub refused_left_out : (x : Total) (ts : List Tape) → after_all x ts ≡ after_all x (taken_in x ts)
refused_left_out = history (λ x ts y ks. y ≡ after_all x ks) (λ x. refl)
    (λ x t ts y ks is0 e. e ∙ ap (λ z. after_all z ks) (sym (taken_adds x t is0).2)) (λ x t ts y ks _ e. e)

-- Histories that take in the same tapes, in whatever order, come to the same total.
pub whatever_order : (ts us : List Tape) → Reordered (taken_in nothing ts) (taken_in nothing us) → after_all nothing ts ≡ after_all nothing us
whatever_order ts us r =
    let (s, u, n) = from_nothing ts in
    let (s', u', n') = from_nothing us in
    same_total (s ∙ sum_reordered shown_in r ∙ sym s') (u ∙ sum_reordered unshown_in r ∙ sym u') (n ∙ length_reordered r ∙ sym n')
  where
    same_total : {x y : Total} → x.shown ≡ y.shown → x.unshown ≡ y.unshown → x.tapes ≡ y.tapes → x ≡ y
    same_total s u n = λ i. record { shown = s i; unshown = u i; tapes = n i }

-- A full total refuses each tape that is accepted by itself, with 18.
pub then_18 : (ts : List Tape) (t : Tape) → length (taken_in nothing ts) ≡ most_tapes → (sum_tape t).number ≡ 0
    → (take_in (after_all nothing ts) t).number ≡ 18
then_18 ts t full alone = let x = after_all nothing ts in number_18 x t (full_cannot_be x ((from_nothing ts).2 ∙ full)) alone

-- ---- what rests on an accepted tape's sums: that they lie within ±1.024 × 10^15, and that together they are the values of all rows of the type
with-sound : (x : Total) (t : Tape) → (take_in x t).number ≡ 0 → Sound most_sum x → Sound most_sum (with x (sum_tape t).rest)
with-sound x t is0 (s, u) =
    let (shown, unshown) = tape-within t (taken_adds x t is0).0 in (
      grown most_sum x.tapes x.shown (shown_in t) s (within_le most_sum (shown_in t) shown),
      grown most_sum x.tapes x.unshown (unshown_in t) u (within_le most_sum (unshown_in t) unshown),
    )

sound-after : (x : Total) (ts : List Tape) → Sound most_sum x → Sound most_sum (after_all x ts)
sound-after = history (λ x ts y ks. Sound most_sum x → Sound most_sum y) (λ x s. s)
    (λ x t ts y ks is0 p s. p (with-sound x t is0 s)) (λ x t ts y ks _ p. p)

sound-nothing : Sound most_sum nothing
sound-nothing = (omega arith, omega arith)

-- After each history both sums are within 1.024 × 10^15 for each tape taken in.
pub total-within : (ts : List Tape) → let x = after_all nothing ts in
    (within (x.tapes * most_sum) x.shown ≡ true) × (within (x.tapes * most_sum) x.unshown ≡ true)
total-within ts =
    let x = after_all nothing ts in
    let (s, u) = sound-after nothing ts sound-nothing in
    (le_within (x.tapes * most_sum) x.shown s, le_within (x.tapes * most_sum) x.unshown u)

-- Before 1,000 tapes are taken in, a tape is refused by its own number or accepted.
pub never_18_early : (ts : List Tape) → length (taken_in nothing ts) < most_tapes → (t : Tape)
    → (take_in (after_all nothing ts) t).number ≡ (sum_tape t).number
never_18_early ts few t =
    let x = after_all nothing ts in
    number-alone x t (cannot_be_lem x (sound-after nothing ts sound-nothing) ∙ lt-leb most_tapes x.tapes (omega (arith, (from_nothing ts).2)))

-- So none is refused with 18.
pub early_not_18 : (ts : List Tape) → length (taken_in nothing ts) < most_tapes → (t : Tape) → (take_in (after_all nothing ts) t).number ≡ 18 → ⊥
early_not_18 ts few t e = never_18_alone t (sym (never_18_early ts few t) ∙ e)

-- those taken in are the first n that are accepted by themselves, if the total has room for n tapes
abbrev First : Total → List Tape → List Tape → Type 0
First x ts ks = Sound most_sum x → (n : ℕ) → x.tapes + n ≡ most_tapes → ks ≡ take n (keep accepted ts)

first_taken : (x : Total) (t : Tape) (ts : List Tape) (y : Total) (ks : List Tape) → (take_in x t).number ≡ 0
    → First (with x (sum_tape t).rest) ts ks → First x (t ∷ ts) (t ∷ ks)
first_taken x t ts y ks is0 p sound zero e =
    let room = leb-false most_tapes x.tapes (sym (cannot_be_lem x sound) ∙ (taken_adds x t is0).1) in
    let z : ⊥ = omega (arith, room) in
    absurd z
first_taken x t ts y ks is0 p sound (suc n) e =
    ap {B = List Tape} (λ l. t ∷ l) (p (with-sound x t is0 sound) n (omega arith))
    ∙ sym (ap (λ b. take (suc n) (put_if b t (keep accepted ts))) (eq-eqb (sum_tape t).number 0 (taken_adds x t is0).0))

first-refused : (x : Total) (t : Tape) (ts : List Tape) (y : Total) (ks : List Tape) → ((take_in x t).number ≡ 0 → ⊥)
    → First x ts ks → First x (t ∷ ts) ks
first-refused x t ts y ks not0 p sound n e = go (accepted t) refl n e
  where
    go : (b : Bool) → accepted t ≡ b → (n : ℕ) → x.tapes + n ≡ most_tapes → ks ≡ take n (put_if b t (keep accepted ts))
    go false _ n e = p sound n e
    go true _ zero e = p sound zero e
    go true alone (suc n) e =
        let room = cannot_be_lem x sound ∙ lt-leb most_tapes x.tapes (omega arith) in
        absurd (not0 (number-alone x t room ∙ eqb-true (sum_tape t).number 0 alone))

-- Those taken in are the first thousand that are accepted by themselves.
pub taken_in_first : (ts : List Tape) → taken_in nothing ts ≡ take most_tapes (keep accepted ts)
taken_in_first ts =
    history (λ x ts y ks. First x ts ks) (λ x _ n _. sym (take-nil n)) first_taken first-refused nothing ts sound-nothing most_tapes refl

-- So no total has more.
pub at_most_1000 : (ts : List Tape) → (after_all nothing ts).tapes ≤ most_tapes
at_most_1000 ts = omega (arith, (from_nothing ts).2, ap length (taken_in_first ts), length-take most_tapes (keep accepted ts))

-- The order of the tapes handed in does not matter, if at most 1,000 of them are accepted by themselves.
pub reordered : (ts us : List Tape) → Reordered ts us → length (keep accepted ts) ≤ most_tapes → after_all nothing ts ≡ after_all nothing us
reordered ts us r few =
    let kept = keep_reordered accepted r in
    let all_of : (vs : List Tape) → length (keep accepted vs) ≤ most_tapes → keep accepted vs ≡ taken_in nothing vs =
    λ vs few. sym (taken_in_first vs ∙ take_all most_tapes (keep accepted vs) few) in
    whatever_order ts us (subst (λ l. Reordered l (taken_in nothing us)) (all_of ts few)
    (subst (Reordered (keep accepted ts)) (all_of us (omega (arith, length_reordered kept))) kept))

-- Shown and unshown together are the values of all rows of the entry's type, over the tapes taken in.
pub together : (ts : List Tape) → (after_all nothing ts).shown +ℤ (after_all nothing ts).unshown ≡ sum_of sum_of_type (taken_in nothing ts)
together ts =
    let (s, u, _) = from_nothing ts in
    let ks = taken_in nothing ts in
    ap₂ (λ a b. a +ℤ b) s u ∙ sum_both shown_in unshown_in ks
    ∙ sum_same (λ t. shown_in t +ℤ unshown_in t) sum_of_type ks (λ t h. tape-together t (taken-accepted nothing ts t h))
