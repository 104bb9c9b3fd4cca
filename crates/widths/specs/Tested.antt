-- What is left to be tested of a file that passes its tests. Assumes nothing.
use Rattle.std.specs.Prelude.{ℕ, List, ltb, length}
use Rattle.paper.specs.Lists.{place}
use Rattle.paper.specs.Format.{Format, records}
use Rattle.paper.specs.Calls.{Answer, given, ◌>>=◌, refuse, refuse_at}
use Rattle.paper.specs.Widths as Widths
use Rattle.paper.specs.Widths.{records_to, moved}
use Rattle.tables.specs.Place.{place_of}
use Rattle.widths.specs.Moves.{record_deep}

-- n records, of which p is the first too deep
unfoldable pub moving_from : ℕ → ℕ → List ℕ → ℕ → Answer (ℕ × List ℕ)
moving_from p n new room = do
  _ ← refuse_at 24 (place_of p n)
  _ ← refuse 29 (ltb room (length new))
  given (n, new)

-- the n records of w bytes that the bytes b hold
abbrev pub move_tested : Format → Format → ℕ → ℕ → List ℕ → List ℕ → Widths.Moved
move_tested f g w n b lent = moved lent (moving_from (place (record_deep g.levels) (records w n b)) n (records_to f g w b) (length lent))
