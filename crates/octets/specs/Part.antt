-- Which part of a lent table is handed out. Assumes nothing.
use Rattle.std.specs.Prelude.{ℕ, ◌+◌, ◌≡◌, List}
use Rattle.std.specs.Borrow.{Bor}

-- p is in the memory of the lent table t, from byte i of t on
abbrev pub OwnFrom : Bor (List ℕ) → ℕ → Bor (List ℕ) → Type 0
OwnFrom t i p = (p.ref_ptr.0 ≡ t.ref_ptr.0) × (p.ref_ptr.1 ≡ t.ref_ptr.1 + i)
