-- A refused tape has a number from 1 to 17: neither 0, which says accepted, nor 18, which says that the total cannot be one. Assumes nothing.
use Prim.Native.Nat.{ℕ, ◌<◌}
use native.Mathlib.Omega.{arith}
use mathlib.Core.Path.{◌≡◌, refl}
use mathlib.Core.Bool.{Bool, true, false, ◌&&◌}
use mathlib.Core.List.{List}
use mathlib.Core.Option.{Option, none, some}
use lib.Dec.{T, leb}
use borrow.Author.Tests.{leb-true}
use Rattle.paper.specs.Lists.{between}
use Rattle.paper.specs.Format.{Format}
use Rattle.paper.specs.Calls.{Answer, refused, given, ◌>>=◌, refuse, refuse_at, tests1_3, tests1_4, tests5_6, tests5_7, test8, Work, tests1_7}
use Rattle.totals.specs.Tape.{Tape, sums_of}

-- a refusal has a number from 1 to 17
abbrev pub Numbered : {A : Type 0} → Answer A → Type 0
Numbered (refused k p) = T (between 1 k 17)
Numbered (given a) = Unit

next_numbered : {A B : Type 0} (a : Answer A) (next : A → Answer B) → Numbered a → ((x : A) → Numbered (next x)) → Numbered (a >>= next)
next_numbered (refused k p) next n after = n
next_numbered (given x) next n after = after x

refuse_numbered : (k : ℕ) (b : Bool) → T (between 1 k 17) → Numbered (refuse k b)
refuse_numbered k true n = n
refuse_numbered k false n = tt

refuse_at_numbered : (k : ℕ) (o : Option ℕ) → T (between 1 k 17) → Numbered (refuse_at k o)
refuse_at_numbered k none n = tt
refuse_at_numbered k (some p) n = n

ruleset steps = (next_numbered, refuse_numbered, refuse_at_numbered)

numbered1_3 : (f : Format) (b : List ℕ) → Numbered (tests1_3 f b)
unfolding tests1_3
numbered1_3 f b = search steps

pub numbered1_7 : (f : Format) (b sb : List ℕ) → Numbered (tests1_7 f b sb)
unfolding tests1_4 tests5_6 tests5_7
numbered1_7 f b sb = search (steps, numbered1_3)

pub numbered8 : (f : Format) (w : Work) (room : ℕ) → Numbered (test8 f w room)
unfolding test8
numbered8 f w room = search steps

-- Every refusal of a tape has such a number.
pub numbered : (t : Tape) → Numbered (sums_of t)
unfolding sums_of
numbered t = search (steps, numbered1_7, numbered8)

pub is_numbered : (k : ℕ) → T (between 1 k 17) → (0 < k) × (k < 18)
is_numbered k n = go (leb 1 k) (leb k 17) refl refl n
  where
    go : (a b : Bool) → leb 1 k ≡ a → leb k 17 ≡ b → T (a && b) → (0 < k) × (k < 18)
    go true true lo hi n = (leb-true 1 k lo, omega (arith, leb-true k 17 hi))
    go true false lo hi n = absurd n
    go false b lo hi n = absurd n
