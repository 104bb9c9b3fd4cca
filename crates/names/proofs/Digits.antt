-- The fewest digits that hold a number are its decimal digits. Assumes nothing.
use Prim.Native.Nat.{ℕ, zero, suc, ◌*◌, ◌/◌, ◌%◌, ◌-◌, ◌^◌, ◌≤◌, ◌<◌}
use native.Mathlib.Nat.{pow-suc, one-le-pow, pow-le-pow_right, mod-eq_of_lt}
use native.Mathlib.Omega.{arith}
use mathlib.Core.Path.{◌≡◌, refl, sym, ◌∙◌, ap}
use mathlib.Core.Bool.{Bool, true, false}
use mathlib.Core.List.{[], ◌∷◌, ◌++◌}
use borrow.Author.Tests.{lt-ltb, ltb-true, ltb-false}
use lib.Dec.{ltb}
use Rattle.io.specs.Digits.{hex_digit_ascii, last_digits, IsDigitCount}
use Rattle.grammar.specs.Text.{digit, digits_in, decimal}
use Rattle.grammar.proofs.Decimals.{one-digit, more_digits}

-- the library's digit below 10 is ours
glyph_digit : (d : ℕ) → d < 10 → hex_digit_ascii d ≡ digit d
glyph_digit d lt = rw (lt-ltb d 10 lt) refl

-- ten to a power, and to the one before it
ten_times : (k : ℕ) → 10 ^ suc k ≡ 10 ^ k * 10
ten_times k = pow-suc 10 k

less_one : (k : ℕ) → suc k - 1 ≡ k
less_one k = omega arith

-- a number that takes more than one digit
at_least : (k n : ℕ) → IsDigitCount 10 1 n (suc k) → 0 < k → 10 ^ k ≤ n
at_least k n w lt = rw (less_one k) at (w.2 (omega arith))

-- k digits, the fewest that hold n, are those of the definition
fewest_digits : (k f n : ℕ) → IsDigitCount 10 1 n k → k ≤ suc f → last_digits 10 k n ≡ digits_in f n
fewest_digits zero f n w le = absurd (omega (arith, w.0))
fewest_digits (suc zero) f n w le =
    let small : n < 10 = omega (arith, w.1, ten_times 0) in
    ap (λ d. d ∷ []) (ap hex_digit_ascii (mod-eq_of_lt small) ∙ glyph_digit n small) ∙ sym (one-digit f n small)
fewest_digits (suc (suc j)) zero n w le = absurd (omega arith)
fewest_digits (suc (suc j)) (suc f) n w le =
    let above : 10 ^ suc j ≤ n = at_least (suc j) n w (omega arith) in
    let some : 1 ≤ 10 ^ j = one-le-pow j 10 (omega arith) in
    let large : 10 ≤ n = omega (arith, ten_times j) in
    let tenth : IsDigitCount 10 1 (n / 10) (suc j) = (omega arith, omega (arith, w.1, ten_times (suc j)), λ _. rw (less_one j) (omega (arith, ten_times j))) in
    ap (λ ds. ds ++ (hex_digit_ascii (n % 10) ∷ [])) (fewest_digits (suc j) f (n / 10) tenth (omega arith))
    ∙ ap (λ d. digits_in f (n / 10) ++ (d ∷ [])) (glyph_digit (n % 10) (omega arith))
    ∙ sym (more_digits f n large)

-- a number lies above its own count of digits less one
below_power : (k : ℕ) → k < 10 ^ k
below_power zero = omega (arith, one-le-pow 0 10 (omega arith))
below_power (suc k) = omega (arith, below_power k, ten_times k)

-- what the library spells is the number's decimal digits
pub spelled : (k n : ℕ) → IsDigitCount 10 1 n k → last_digits 10 k n ≡ decimal n
unfolding decimal
spelled zero n w = fewest_digits 0 n n w (omega arith)
spelled (suc zero) n w = fewest_digits 1 n n w (omega arith)
spelled (suc (suc j)) n w = fewest_digits (suc (suc j)) n n w (omega (arith, below_power (suc j), at_least (suc j) n w (omega arith)))

-- a number of 64 bits has at most 20 digits
pub few_digits : (k n : ℕ) → IsDigitCount 10 1 n k → n < 2 ^ 64 → k ≤ 20
few_digits zero n w lt = omega arith
few_digits (suc j) n w lt = by_test (ltb j 20) refl
  where
    by_test : (b : Bool) → ltb j 20 ≡ b → suc j ≤ 20
    by_test true e = omega (arith, ltb-true j 20 e)
    by_test false e =
        let many : 20 ≤ j = omega (arith, ltb-false j 20 e) in
        absurd (omega (arith, at_least j n w (omega arith), pow-le-pow_right {n = 10} (omega arith) {i = 20} {j = j} many))
