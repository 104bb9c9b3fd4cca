-- A shape that names one entry's type alone. Assumes nothing.
use Rattle.std.specs.Prelude.{ℕ, ◌*◌, List, ◌∷◌, take, drop}
use Rattle.paper.specs.Format.{Format, entry_bytes}

-- the shape of one entry, entry e's type alone on level 1
abbrev pub alone : Format → List ℕ → ℕ → List ℕ
alone f sb e = 1 ∷ drop 1 (take (entry_bytes f) (drop (entry_bytes f * e) sb))
