-- Histories: each tape is taken in with the total that the one before it left. Assumes nothing.
use Rattle.std.specs.Prelude.{Bool, true, false, List, [], ◌∷◌, eqb, ℤ}
use Rattle.totals.specs.Tape.{Tape, sum_tape}
use Rattle.totals.specs.Total.{Total, take_in}

-- the total after all of them
abbrev pub after_all : Total → List Tape → Total
after_all x [] = x
after_all x (t ∷ ts) = after_all (take_in x t).rest ts

-- the tapes that were taken in
abbrev pub taken_in : Total → List Tape → List Tape
taken_in x [] = []
taken_in x (t ∷ ts) =
    elim (eqb (take_in x t).number 0) [ true ↦ t ∷ taken_in (take_in x t).rest ts | false ↦ taken_in (take_in x t).rest ts ]

-- the tape is accepted by itself
abbrev pub accepted : Tape → Bool
accepted t = eqb (sum_tape t).number 0

-- what the tape by itself says of the values shown, and of those not shown
abbrev pub shown_in : Tape → ℤ
shown_in t = (sum_tape t).rest.shown

abbrev pub unshown_in : Tape → ℤ
unshown_in t = (sum_tape t).rest.unshown
