-- What a reader hands out and a caller passes on. Assumes nothing.
use Prim.Native.Nat.{ℕ, suc, ◌<◌}
use native.Mathlib.Omega.{arith}
use mathlib.Core.Path.{◌≡◌, refl, sym, ap, ◌∙◌, subst}
use mathlib.Core.Bool.{Bool, true, false}
use mathlib.Core.List.{List}
use lib.Dec.{T as Holds, ltb, ltb→lt}
use lib.ListN.{length}
use denote.Ref.{Bor}
use borrow.Author.Tests.{ltb-false}
use Rattle.paper.specs.Format.{Format, row_bytes, whole}
use Rattle.paper.specs.Calls.{reader_next}
use Rattle.reading.specs.Handed.{Handed}
use Rattle.reading.proofs.Reading.{reader_next-row, reader_row_end}

below : (m n : ℕ) → ltb m n ≡ true → m < n
below m n e = ltb→lt m n (subst (λ (y : Bool). Holds y) (sym e) tt)

-- A reader that hands out a whole row goes on to the next.
pub goes_on : (f : Format) (s t : Bor (List ℕ)) (m : ℕ) → Handed f s m t → length t.now ≡ row_bytes f → reader_next f s.now m ≡ suc m
goes_on f s t m h e = go (ltb m (whole (row_bytes f) s.now)) refl
  where
    go : (b : Bool) → ltb m (whole (row_bytes f) s.now) ≡ b → reader_next f s.now m ≡ suc m
    go true more = reader_next-row f s.now m (below m (whole (row_bytes f) s.now) more)
    go false none = omega (arith, e, ap length (h.0 ∙ reader_row_end f s.now m (ltb-false m (whole (row_bytes f) s.now) none)))
