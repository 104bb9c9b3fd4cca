-- What is moved from one format to another, record by record. Assumes nothing.
use Rattle.std.specs.Prelude.{ℕ, ◌+◌, ◌-◌, Bool, ◌||◌, List, ◌++◌, ltb, take, drop}
use Rattle.paper.specs.Lists.{padded}
use Rattle.paper.specs.Format.{byte}

-- a record whose list ends at byte `from`, with its list cut, or filled with zeros behind, to end at byte `to`
abbrev pub fitted : ℕ → ℕ → List ℕ → List ℕ
fitted from to r = padded to (take from r) ++ drop from r

-- its bytes, where it has w
abbrev pub moved_bytes : ℕ → ℕ → ℕ → ℕ
moved_bytes w from to = to + (w - from)

-- The first byte, or the second, is more than the levels.
abbrev pub record_deep : ℕ → List ℕ → Bool
record_deep levels r = ltb levels (byte r 0) || ltb levels (byte r 1)
