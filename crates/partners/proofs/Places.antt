-- One place of eight: what is defined there, case by case. Assumes nothing.
use Prim.Native.Nat.{ℕ, ◌+◌, ◌≤◌, ◌<◌}
use native.Mathlib.Omega.{arith}
use mathlib.Core.Path.{◌≡◌, refl}
use mathlib.Core.Bool.{Bool, true, false}
use lib.Dec.{eqb, leb}
use borrow.Author.Tests.{le-leb, lt-leb, eq-eqb}
use Rattle.partners.specs.Eight.{ended, fewer, more, first_end, single, onward}

-- ---- ended
pub ended-within : (bound level count : ℕ) → level ≤ bound → ended bound level count ≡ count
ended-within bound level count le = rw (le-leb level bound le, ended) refl

pub ended_above : (bound level count : ℕ) → bound < level → ended bound level count ≡ 0
ended_above bound level count lt = rw (lt-leb level bound lt, ended) refl

-- ---- fewer, more, first_end
module _ (m number rows : ℕ) where
  pub fewer-none : rows ≡ 0 → fewer m number rows ≡ m
  fewer-none e = rw (eq-eqb rows 0 e, fewer) refl

  pub more-none : rows ≡ 0 → more m number rows ≡ m
  more-none e = rw (eq-eqb rows 0 e, more) refl

module _ (m parents children i : ℕ) where
  -- no first end where no children are
  pub first_end_without : children ≡ 0 → first_end m parents children i ≡ m
  first_end_without e = go (eqb parents 0)
    where
      go : (b : Bool) → elim b [ true ↦ fewer m i children | false ↦ m ] ≡ m
      go true = fewer-none m i children e
      go false = refl

-- ---- onward
module _ (bound level wanted k count : ℕ) where
  pub onward_above : bound < level → onward bound level wanted k count ≡ count + single wanted k
  onward_above lt = rw (lt-leb level bound lt, onward) refl

pub single_le : (wanted k : ℕ) → single wanted k ≤ 1
single_le wanted k = go (eqb wanted k)
  where
    go : (b : Bool) → elim b [ true ↦ 1 | false ↦ 0 ] ≤ 1
    go true = omega arith
    go false = omega arith

-- no row counts twice
pub onward_le : (bound level wanted k count : ℕ) → onward bound level wanted k count ≤ count + 1
onward_le bound level wanted k count = go (leb level bound)
  where
    go : (b : Bool) → elim b [ true ↦ 0 | false ↦ count ] + single wanted k ≤ count + 1
    go true = omega (arith, single_le wanted k)
    go false = omega (arith, single_le wanted k)
