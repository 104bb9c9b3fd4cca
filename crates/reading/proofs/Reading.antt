-- What a reader hands out, and where it stands then: laws of `reader_row` and `reader_next`, over any format. Assumes nothing.
use Prim.Native.Nat.{ℕ, zero, suc, ◌+◌, ◌*◌, ◌-◌, ◌≤◌, ◌<◌}
use native.Mathlib.Nat.{mul-zero, mul-suc}
use native.Mathlib.Omega.{arith}
use mathlib.Core.Path.{◌≡◌, refl, sym, ◌∙◌, ap, ap₂}
use mathlib.Core.List.{List, [], ◌∷◌}
use lib.ListN.{take, drop, replicate}
use lib.Seq.{drop-drop}
use denote.Ref.{Bor}
use borrow.Author.Tests.{lt-ltb, le-ltb}
use Rattle.paper.specs.Format.{Format, row_bytes, records, whole}
use Rattle.paper.specs.Tables.{row_part}
use Rattle.paper.specs.Calls.{reader_row, reader_next}
use Rattle.octets.specs.Part.{OwnFrom}
use Rattle.reading.specs.Handed.{reader_start, Handed}

module _ (f : Format) (t : List ℕ) (at : ℕ) where
  -- ---- at a whole row
  pub reader_row-row : at < whole (row_bytes f) t → reader_row f t at ≡ row_part f t at
  unfolding reader_row
  reader_row-row lt = rw (lt-ltb at (whole (row_bytes f) t) lt, reader_row) refl

  pub reader_next-row : at < whole (row_bytes f) t → reader_next f t at ≡ suc at
  unfolding reader_next
  reader_next-row lt = rw (lt-ltb at (whole (row_bytes f) t) lt, reader_next) refl

  pub reader_start-row : at < whole (row_bytes f) t → reader_start f t at ≡ row_bytes f * at
  unfolding reader_start
  reader_start-row lt = rw (lt-ltb at (whole (row_bytes f) t) lt, reader_start) refl

  -- ---- past the last whole row: an empty part, and it stays there
  pub reader_row_end : whole (row_bytes f) t ≤ at → reader_row f t at ≡ []
  unfolding reader_row
  reader_row_end le = rw (le-ltb at (whole (row_bytes f) t) le, reader_row) refl

  pub reader_next_end : whole (row_bytes f) t ≤ at → reader_next f t at ≡ at
  unfolding reader_next
  reader_next_end le = rw (le-ltb at (whole (row_bytes f) t) le, reader_next) refl

  pub reader_start_end : whole (row_bytes f) t ≤ at → reader_start f t at ≡ 0
  unfolding reader_start
  reader_start_end le = rw (le-ltb at (whole (row_bytes f) t) le, reader_start) refl

-- ---- the part handed out
-- the part of t that begins at byte i and ends before byte j
abbrev part : Bor (List ℕ) → ℕ → ℕ → Bor (List ℕ)
part t i j = record { ref_ptr = (t.ref_ptr.0, i + t.ref_ptr.1); now = take (j - i) (drop i t.now) }

pub row_handed : (f : Format) (t : Bor (List ℕ)) (at : ℕ) → at < whole (row_bytes f) t.now → (p : Bor (List ℕ))
    → p.now ≡ take (row_bytes f) (drop (row_bytes f * at) t.now) → OwnFrom t (row_bytes f * at) p → Handed f t at p
row_handed f t at lt p is own = (
  is ∙ sym (reader_row-row f t.now at lt),
  (own.0, omega (arith, own.1, reader_start-row f t.now at lt)),
)

pub end_handed : (f : Format) (t : Bor (List ℕ)) (at : ℕ) → whole (row_bytes f) t.now ≤ at → Handed f t at (part t 0 0)
end_handed f t at le = (sym (reader_row_end f t.now at le), (refl, omega (arith, reader_start_end f t.now at le)))

-- ---- the rows in order
-- What a reader hands out in n steps, from a place on.
abbrev pub handed_out : Format → List ℕ → ℕ → ℕ → List (List ℕ)
handed_out f t zero at = []
handed_out f t (suc n) at = reader_row f t at ∷ handed_out f t n (reader_next f t at)

from_place : (f : Format) (t : List ℕ) (n at : ℕ) → at + n ≤ whole (row_bytes f) t → handed_out f t n at ≡ records (row_bytes f) n (drop (row_bytes f * at) t)
from_place f t zero at le = refl
from_place f t (suc n) at le =
    let w = row_bytes f in
    let lt : at < whole w t = omega arith in
    ap₂ (λ (x : List ℕ) (xs : List (List ℕ)). x ∷ xs) (reader_row-row f t at lt)
    (ap (handed_out f t n) (reader_next-row f t at lt) ∙ from_place f t n (suc at) (omega arith)
    ∙ ap (records w n) (ap (λ k. drop k t) (mul-suc w at) ∙ sym (drop-drop w (w * at) t)))

-- Past the last whole row it hands out empty parts for ever.
pub end_stays : (f : Format) (t : List ℕ) (n at : ℕ) → whole (row_bytes f) t ≤ at → handed_out f t n at ≡ replicate n []
end_stays f t zero at le = refl
end_stays f t (suc n) at le = ap₂ (λ (x : List ℕ) (xs : List (List ℕ)). x ∷ xs) (reader_row_end f t at le) (ap (handed_out f t n) (reader_next_end f t at le) ∙ end_stays f t n at le)

-- In as many steps as the table has whole rows, a reader from place 0 hands out all of them in order.
pub all-rows : (f : Format) (t : List ℕ) → handed_out f t (whole (row_bytes f) t) 0 ≡ records (row_bytes f) (whole (row_bytes f) t) t
all-rows f t =
    from_place f t (whole (row_bytes f) t) 0 (omega arith)
    ∙ ap (λ k. records (row_bytes f) (whole (row_bytes f) t) (drop k t)) (mul-zero (row_bytes f))
