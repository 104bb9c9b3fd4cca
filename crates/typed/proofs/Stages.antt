-- Which token may stand next, by the number of the stage and the token's first byte. Assumes nothing.
use Prim.Native.Nat.{ℕ, zero, suc, ◌<◌}
use native.Mathlib.Omega.{arith}
use mathlib.Core.Path.{◌≡◌, refl, sym}
use mathlib.Core.Bool.{Bool, true, false, not, true≢false}
use borrow.Author.Tests.{eq-eqb, ne_eqb, ltb-true}
use lib.Dec.{eqb, ltb}
use Rattle.grammar.specs.Grammar.{open_byte, close_byte}
use Rattle.grammar.specs.Reader.{Stage, first, behind_name, behind_open, behind_close, may_name, may_open, may_close, may_end}
use Rattle.typed.specs.Walk.{stage_of, may_stand}

module _ (b : ℕ) (s : Stage) (d : ℕ) where
  pub stands_open : b ≡ open_byte → may_stand b s d ≡ may_open s
  stands_open e = rw (eq-eqb b open_byte e, may_stand) refl

  module _ (no_open : b ≡ open_byte → ⊥) where
    pub stands_close : b ≡ close_byte → may_stand b s d ≡ may_close s d
    stands_close e = rw (ne_eqb b open_byte no_open, eq-eqb b close_byte e, may_stand) refl

    pub stands_name : (b ≡ close_byte → ⊥) → may_stand b s d ≡ may_name s d
    stands_name ne = rw (ne_eqb b open_byte no_open, ne_eqb b close_byte ne, may_stand) refl

    -- where a name may stand and no closing bracket
    pub stands_fresh : may_name s d ≡ true → may_close s d ≡ false → not (eqb b close_byte) ≡ may_stand b s d
    stands_fresh named closed = rw (ne_eqb b open_byte no_open, may_stand) (go (eqb b close_byte))
      where
        go : (t : Bool) → not t ≡ elim t as (λ _. Bool) [ true ↦ may_close s d | false ↦ may_name s d ]
        go true = sym closed
        go false = sym named

    -- where both may stand, or neither
    pub stands_both : (t : Bool) → may_name s d ≡ t → may_close s d ≡ t → t ≡ may_stand b s d
    stands_both t named closed = rw (ne_eqb b open_byte no_open, may_stand) (go (eqb b close_byte))
      where
        go : (c : Bool) → t ≡ elim c as (λ _. Bool) [ true ↦ may_close s d | false ↦ may_name s d ]
        go true = sym closed
        go false = sym named

pub opens_behind_name : (n : ℕ) → eqb n 1 ≡ may_open (stage_of n)
opens_behind_name zero = refl
opens_behind_name (suc zero) = refl
opens_behind_name (suc (suc zero)) = refl
opens_behind_name (suc (suc (suc n))) = ne_eqb (suc (suc (suc n))) 1 (λ z. omega arith)

-- Behind a name or a closing bracket the depth tells.
pub behind_token : (n d : ℕ) → (n ≡ 0 → ⊥) → (n ≡ 2 → ⊥)
    → (may_name (stage_of n) d ≡ ltb 0 d) × (may_close (stage_of n) d ≡ ltb 0 d) × (may_end (stage_of n) d ≡ eqb d 0)
behind_token zero d none open' = absurd (none refl)
behind_token (suc zero) d none open' = (refl, refl, refl)
behind_token (suc (suc zero)) d none open' = absurd (open' refl)
behind_token (suc (suc (suc n))) d none open' = (refl, refl, refl)

-- A closing bracket stands within some.
pub close_deep : (s : Stage) (d : ℕ) → may_close s d ≡ true → 0 < d
close_deep first d e = absurd (true≢false (sym e))
close_deep behind_name d e = ltb-true 0 d e
close_deep behind_open d e = absurd (true≢false (sym e))
close_deep behind_close d e = ltb-true 0 d e
