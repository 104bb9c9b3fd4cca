-- Facts put part by part. Assumes nothing.
use Prim.Native.Nat.{ℕ, ◌≤◌, ◌<◌}
use mathlib.Core.Path.{◌≡◌, ap}
use mathlib.Core.List.{List, [], ◌∷◌, ◌++◌}
use native.Mathlib.Omega.{arith}
use lib.ListN.{length}
use Rattle.grammar.specs.Text.{decimal}
use Rattle.names.specs.Put.{Put}
use Rattle.names.proofs.Putting.{as_long, put_as}

-- A wrong definition is refused first by the sample that it breaks, so the samples stand before the laws.

-- A byte that has room leaves a place inside the buffer, or at its end.
pub room : {l l' : List ℕ} {at i c : ℕ} → at < length l → Put l at (c ∷ []) l' i → i ≤ length l'
room lt p = omega (arith, as_long p, p.ends)

-- A text, and the number that is asked for.
pub put_number_as : {l l' : List ℕ} {at i : ℕ} (t : List ℕ) {n m : ℕ} → n ≡ m → Put l at (t ++ decimal n) l' i → Put l at (t ++ decimal m) l' i
put_number_as t e p = put_as p (ap (λ x. t ++ decimal x) e)
