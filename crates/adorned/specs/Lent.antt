-- What adorning answers and leaves, in the paper's terms. Assumes nothing.
use Rattle.std.specs.Prelude.{ℕ, Result}
use Rattle.paper.specs.Adorned.{Summary}
use Rattle.paper.specs.Calls.{Reply}
use Rattle.adorned.specs.declared.TypeSummary.{TypeSummary}
use Rattle.paper.specs.Refusals.{counted}
use Rattle.paper.specs.declared.refusal.Refusal.{Refusal}

-- number, place, count of types
abbrev pub adorned_types : Result ℕ Refusal → Reply ℕ
adorned_types r = counted r

-- a summary
abbrev pub told : TypeSummary → Summary
told r = record { parent = r.parent; label = r.label; level = r.level; rows = r.rows; least = r.least; greatest = r.greatest }
