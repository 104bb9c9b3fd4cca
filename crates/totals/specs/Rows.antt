-- How the rows of a type are marked and added up: what inner contracts name. Assumes nothing.
use Rattle.std.specs.Prelude.{ℕ, ◌+◌, ◌*◌, ◌-◌, ◌^◌, ◌≤◌, ◌<◌, ◌≡◌, Bool, true, false, ◌||◌, List, [], ◌∷◌, eqb, ltb, ℤ, pos, negsuc, ◌+ℤ◌, length, get_or}
use Rattle.paper.specs.Lists.{Has, any}
use Rattle.paper.specs.Format.{most_rows, value_bytes, span, signed}
use Rattle.paper.specs.NewTable.{entry_unit}
use Rattle.paper.specs.Calls.{Reply}
use Rattle.totals.specs.Sums.{within}
use Rattle.totals.specs.Tape.{most_value, Sums, no_sums}

-- the signed number of 64 bits
abbrev pub signed_bits : ℕ → ℤ
signed_bits x = elim (ltb x (2 ^ 63)) [ true ↦ pos x | false ↦ negsuc (2 ^ 64 - 1 - x) ]

-- the value of row i, read off the bytes of the table: a row has w bytes, and v stand before its value
abbrev pub value_at : ℕ → ℕ → List ℕ → ℕ → ℤ
value_at w v b i = signed (span value_bytes b (w * i + v))

-- the row is marked as shown
abbrev pub is_marked : List ℕ → ℕ → Bool
is_marked marks i = eqb (get_or marks i 0) 1

-- the values of these rows, added to two sums by whether a row is shown; the first value out of range refuses
abbrev pub added_up : (ℕ → ℤ) → (ℕ → Bool) → List ℕ → ℤ → ℤ → Reply Sums
added_up value shows [] a b = record { number = 0; place = 0; rest = record { shown = a; unshown = b } }
added_up value shows (i ∷ is) a b =
    elim (within most_value (value i)) [
      | true ↦ elim (shows i) [ true ↦ added_up value shows is (a +ℤ value i) b | false ↦ added_up value shows is a (b +ℤ value i) ]
      | false ↦ record { number = 17; place = i; rest = no_sums }
    ]

-- the lines of the entry that these source places are of show the row
abbrev pub is_shown : ℕ → List ℕ → ℕ → Bool
is_shown entry sources i = any (eqb (entry * entry_unit + i)) sources

-- the marks afterwards: a row is marked if it was, or if the lines of the entry show it
pub record Marks (entry : ℕ) (sources before after : List ℕ) : Type 0 where
  pub long : length after ≡ length before
  pub each : (i : ℕ) → i < most_rows → is_marked after i ≡ is_marked before i || is_shown entry sources i

-- every row is marked afterwards
pub record AllMarked (before after : List ℕ) : Type 0 where
  pub long : length after ≡ length before
  pub each : (i : ℕ) → i < length before → is_marked after i ≡ true

-- the numbers are rows of the table, of w bytes each
abbrev pub RowsOf : ℕ → List ℕ → List ℕ → Type 0
RowsOf w b is = (i : ℕ) → Has i is → (i < most_rows) × (w * i + w ≤ length b)
