-- What is printed of a history of tapes: a line for each folder, and the total last. Assumes nothing.
use Rattle.std.specs.Prelude.{ℕ, true, false, List, [], ◌∷◌, ◌++◌, map, eqb, ℤ}
use Rattle.grammar.specs.Text.{ascii, space, decimal, signed_text}
use Rattle.listing.specs.Listing.{lined}
use Rattle.totals.specs.Tape.{Tape, sum_tape}
use Rattle.totals.specs.Total.{Total, nothing, take_in}
use Rattle.totals.specs.History.{after_all}

-- A folder's name as it is given has at most so many bytes.
abbrev pub most_name : ℕ
most_name = 4000

-- `: shown SHOWN, not shown UNSHOWN`
unfoldable pub sums_text : ℤ → ℤ → List ℕ
sums_text shown unshown = ascii ": shown " ++ signed_text shown ++ ascii ", not shown " ++ signed_text unshown

-- `FOLDER: shown SHOWN, not shown UNSHOWN`
unfoldable pub counted_text : List ℕ → ℤ → ℤ → List ℕ
counted_text name shown unshown = lined (name ++ sums_text shown unshown)

-- `FOLDER: refused NUMBER PLACE, not counted`
unfoldable pub not_counted_text : List ℕ → ℕ → ℕ → List ℕ
not_counted_text name number place = lined (name ++ ascii ": refused " ++ decimal number ++ (space ∷ decimal place) ++ ascii ", not counted")

-- `total: shown SHOWN, not shown UNSHOWN, tapes TAPES`
unfoldable pub total_text : Total → List ℕ
total_text x = lined (ascii "total" ++ sums_text x.shown x.unshown ++ ascii ", tapes " ++ decimal x.tapes)

-- `refused FOLDERS`, which is reported and not printed
unfoldable pub left_out_text : ℕ → List ℕ
left_out_text folders = lined (ascii "refused " ++ decimal folders)

-- The line of a folder whose tape is handed to a total: both sums of the tape by itself, or its refusal.
unfoldable pub tape_text : List ℕ → Total → Tape → List ℕ
tape_text name x t =
    elim (eqb (take_in x t).number 0) [
      | true ↦ counted_text name (sum_tape t).rest.shown (sum_tape t).rest.unshown
      | false ↦ not_counted_text name (take_in x t).number (take_in x t).place
    ]

-- a line for each folder, each taken in with the total that those before it left
unfoldable pub lines_text : Total → List (List ℕ × Tape) → List ℕ
lines_text x [] = []
lines_text x (f ∷ fs) = tape_text f.0 x f.1 ++ lines_text (take_in x f.1).rest fs

-- all that is printed of some folders: their lines, and the total last
unfoldable pub history_text : List (List ℕ × Tape) → List ℕ
history_text fs = lines_text nothing fs ++ total_text (after_all nothing (map (λ (f : List ℕ × Tape). f.1) fs))
