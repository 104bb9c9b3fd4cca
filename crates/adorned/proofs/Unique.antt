-- Any two results that adorning's contract allows are equal. Assumes nothing.
use mathlib.Core.Path.{◌≡◌, refl, sym, ◌∙◌, ap}
use mathlib.Core.List.{List, [], ◌∷◌, map}
use Rattle.paper.specs.Adorned.{Summary}
use Rattle.paper.specs.Calls.{Reply}
use Rattle.adorned.specs.Told.{told, Says}
use Rattle.std.specs.Prelude.{Result, Ok, Err}
use Rattle.paper.specs.declared.refusal.Refusal.{Refusal}
use Rattle.paper.proofs.Refusals.{numbered, same_refusal}
use Rattle.adorned.specs.declared.Adorned.{Adorned}
use Rattle.adorned.specs.declared.TypeSummary.{TypeSummary}

-- the summary as the program holds it
abbrev untold : Summary → TypeSummary
untold s = record { parent = s.parent; label = s.label; level = s.level; rows = s.rows; least = s.least; greatest = s.greatest }

untold_told : (l : List TypeSummary) → map untold (map told l) ≡ l
untold_told [] = refl
untold_told (x ∷ xs) = ap {B = List TypeSummary} (λ l. x ∷ l) (untold_told xs)

-- two lists of summaries that tell the same are equal
pub told_same : (l m : List TypeSummary) → map told l ≡ map told m → l ≡ m
told_same l m e = sym (untold_told l) ∙ ap (map untold) e ∙ untold_told m

pub adorn_unique : (a : Reply (List Summary)) (r s : Result Adorned Refusal) → Says a r → Says a s → r ≡ s
adorn_unique a (Ok r) (Ok s) x y =
    let e : r.summaries ≡ s.summaries = told_same r.summaries s.summaries (x.given_is.1 ∙ sym y.given_is.1) in
    ap Ok (λ i. record { count = (x.given_is.0 ∙ sym y.given_is.0) i; summaries = e i })
adorn_unique a (Ok r) (Err d) x y = absurd (numbered d (y.number_is ∙ sym x.number_is))
adorn_unique a (Err d) (Ok s) x y = absurd (numbered d (x.number_is ∙ sym y.number_is))
adorn_unique a (Err d) (Err c) x y = ap Err (same_refusal d c (x.number_is ∙ sym y.number_is) (x.place_is ∙ sym y.place_is))
