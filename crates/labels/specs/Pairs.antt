-- What is looked for in the list of pairs. Assumes nothing.
use Rattle.std.specs.Prelude.{ℕ, zero, suc, ◌+◌, ◌*◌, Bool, List, eqb, get_or}
use Rattle.paper.specs.Labels.{Pair}

-- pair i of the list
abbrev pub pair_at : List ℕ → ℕ → Pair
pair_at list i = record { old = get_or list (2 * i) 0; new = get_or list (2 * i + 1) 0 }

-- A pair has x as its old label (side 0) or as its new one.
abbrev pub has : ℕ → ℕ → Pair → Bool
has zero x p = eqb p.old x
has (suc side) x p = eqb p.new x
