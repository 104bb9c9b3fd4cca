-- Any two results that a call's contract allows are equal. Assumes nothing.
use Prim.Native.Nat.{ℕ}
use mathlib.Core.Path.{◌≡◌, sym, ◌∙◌}
use mathlib.Core.List.{List}
use denote.Ref.{Bor}
use Rattle.paper.specs.Format.{Format}
use Rattle.std.specs.Prelude.{Result}
use Rattle.paper.specs.Calls.{examine, look_up}
use Rattle.paper.specs.Refusals.{number_in, place_in}
use Rattle.paper.specs.declared.refusal.Refusal.{Refusal}
use Rattle.paper.proofs.Refusals.{same_answer, same_in}
use Rattle.tables.specs.Reply.{examined, HandsBack}

pub examine_unique : (f : Format) (t : List ℕ) (r s : Result ℕ Refusal) → examined r ≡ examine f t → examined s ≡ examine f t → r ≡ s
examine_unique f t r s a b = same_answer 0 (λ rows. rows) (λ n m e. e) r s (a ∙ sym b)

-- parts: the same bytes at the same place
pub look_up_unique : (f : Format) (t : Bor (List ℕ)) (i : ℕ) (p o : Bor (List ℕ)) → HandsBack f t i p → HandsBack f t i o → (p.now ≡ o.now) × (p.ref_ptr ≡ o.ref_ptr)
look_up_unique f t i p o a b = (a.0 ∙ sym b.0, λ j. ((a.1.0 ∙ sym b.1.0) j, (a.1.1 ∙ sym b.1.1) j))

pub look_up_refusal_unique : (f : Format) (t : List ℕ) (i : ℕ) (r s : Result (Unit {0}) Refusal)
    → (number_in r ≡ (look_up f t i).number) × (place_in r ≡ (look_up f t i).place)
    → (number_in s ≡ (look_up f t i).number) × (place_in s ≡ (look_up f t i).place) → r ≡ s
look_up_refusal_unique f t i r s a b = same_in r s (a.0 ∙ sym b.0) (a.1 ∙ sym b.1)
