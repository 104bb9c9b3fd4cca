-- A number that is put at the front of a buffer, compared with a word. Assumes nothing.
use Prim.Native.Nat.{ℕ, ◌+◌, ◌≤◌}
use native.Mathlib.Omega.{arith}
use mathlib.Core.Path.{◌≡◌, ◌∙◌, ap}
use mathlib.Core.List.{List, ◌++◌}
use lib.ListN.{length, take, drop}
use lib.Seq.{sets-eq, take-append_seam}
use Rattle.names.specs.Put.{Put}

-- A text that has room stands in the buffer's first bytes.
pub put_first : {l text l' : List ℕ} {r : ℕ} → Put l 0 text l' r → length text ≤ length l → take r l' ≡ text
put_first {l} {text} {l'} {r} p room =
    ap (λ k. take k l') p.ends
    ∙ ap (take (0 + length text)) (p.written ∙ sets-eq text l 0 (omega (arith, room)))
    ∙ ap (λ k. take k (text ++ drop (0 + length text) l)) none_before
    ∙ take-append_seam text (drop (0 + length text) l)
  where
    none_before : 0 + length text ≡ length text
    none_before = omega arith
