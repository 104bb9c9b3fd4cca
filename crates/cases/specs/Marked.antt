-- Places that no call has written, and what adorning leaves of them. Assumes nothing.
use Rattle.std.specs.Prelude.{ℕ, ◌-◌, ◌≡◌, List, ◌++◌, map, replicate}
use Rattle.paper.specs.Format.{Format}
use Rattle.paper.specs.Calls.{adorn}
use Rattle.adorned.specs.Told.{told}
use Rattle.adorned.specs.declared.TypeSummary.{TypeSummary}
use Rattle.silmezga_c.specs.Numbers.{told_count}
use Rattle.cases.specs.declared.marked.Left.{Left}

-- a marked place
abbrev pub mark : TypeSummary
mark = record { parent = 7777; label = 7777; level = 7777; rows = 7777; least = 7777; greatest = 7777 }

-- the answer, and the 65 places: those lent as adorning leaves them, the others as they were
pub record LeftOf (f : Format) (t : List ℕ) (lent : ℕ) (r : Left) : Type 0 where
  pub reply-is : told_count r.answer ≡ (adorn f t (replicate lent (told mark))).reply
  pub places_are : map told r.summaries ≡ (adorn f t (replicate lent (told mark))).summaries ++ replicate (65 - lent) (told mark)
