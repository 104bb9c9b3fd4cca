-- Texts put one after the other. Assumes nothing.
use Prim.Native.Nat.{ℕ}
use native.Mathlib.Omega.{arith}
use mathlib.Core.Path.{◌≡◌, refl, sym, ◌∙◌, ap}
use mathlib.Core.List.{List, [], ◌∷◌, ◌++◌, append-nil}
use lib.ListN.{length, length-append}
use lib.Seq.{length-sets}
use Rattle.octets.proofs.Writing.{all_left, part_written, all_written}
use Rattle.grammar.specs.Text.{decimal}
use Rattle.names.specs.Put.{Put}

-- Nothing is put.
pub put_none : (l : List ℕ) (at : ℕ) → Put l at [] l at
put_none l at = record { written = refl; ends = omega arith }

module _ {l : List ℕ} {at : ℕ} {a l' : List ℕ} {i : ℕ} (p : Put l at a l' i) where
  -- The buffer is as long as before.
  pub as_long : length l' ≡ length l
  as_long = ap length p.written ∙ length-sets l at a

  -- One text, and then another, are put as one.
  pub put_then : {b l'' : List ℕ} {j : ℕ} → Put l' i b l'' j → Put l at (a ++ b) l'' j
  put_then {b} {l''} {j} q = record {
    written =
        let first = part_written (all_left l at (a ++ b) at refl) a b refl l' p.written i p.ends in
        all_written (part_written first b [] (sym (append-nil b)) l'' q.written j q.ends) refl;
    ends = omega (arith, p.ends, q.ends, length-append a b);
  }

  -- The last of several texts is put.
  pub put_last : Put l at (a ++ []) l' i
  put_last = put_then (put_none l' i)

  -- The same text in other words.
  pub put_as : {b : List ℕ} → a ≡ b → Put l at b l' i
  put_as {b} e = rw e at p

-- A byte, and the number that is asked for.
pub put_figure : {l l' : List ℕ} {at i c n : ℕ} → Put l at (c ∷ decimal n) l' i → (m : ℕ) → n ≡ m → Put l at (c ∷ decimal m) l' i
put_figure {c = c} p m e = put_as p (ap (λ x. c ∷ decimal x) e)
