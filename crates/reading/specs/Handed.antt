-- Which part of which table a reader hands out. Assumes nothing.
use Rattle.std.specs.Prelude.{ℕ, ◌*◌, ◌≡◌, true, false, List, ltb}
use Rattle.std.specs.Borrow.{Bor}
use Rattle.paper.specs.Format.{Format, row_bytes, whole}
use Rattle.paper.specs.Calls.{reader_row}
use Rattle.octets.specs.Part.{OwnFrom}

-- The byte of the table at which the part begins: at a whole row, a row's bytes times the row number; past the last, the table's first.
unfoldable pub reader_start : Format → List ℕ → ℕ → ℕ
reader_start f b at = elim (ltb at (whole (row_bytes f) b)) [ true ↦ row_bytes f * at | false ↦ 0 ]

-- What a reader at a place of the lent table t hands out: the row's bytes, in t's own memory, from that byte of t on.
abbrev pub Handed : Format → Bor (List ℕ) → ℕ → Bor (List ℕ) → Type 0
Handed f t at p = (p.now ≡ reader_row f t.now at) × OwnFrom t (reader_start f t.now at) p
