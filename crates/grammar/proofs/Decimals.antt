-- The decimal digits of a number: what a further digit gives, and that no two numbers have the same. Assumes nothing.
use Prim.Native.Nat.{ℕ, zero, suc, ◌+◌, ◌*◌, ◌/◌, ◌%◌, ◌≤◌, ◌<◌}
use native.Mathlib.Omega.{arith}
use mathlib.Core.Path.{◌≡◌, refl, sym, ◌∙◌, ap, ap₂, subst}
use mathlib.Core.Logic.{inl, inr, ⊎_elim}
use mathlib.Core.Bool.{Bool, true, false}
use mathlib.Core.List.{List, [], ◌∷◌, ◌++◌}
use borrow.Author.Tests.{lt-ltb, le-ltb, ltb-true, ltb-false}
use lib.Dec.{ltb}
use lib.ListN.{length, length-append}
use Rattle.paper.specs.Lists.{Has, first_or}
use Rattle.paper.proofs.Lists.{has_append, snoc_inj}
use Rattle.grammar.specs.Text.{digit, digits_in, decimal}

-- a number below 10 is one digit
pub one-digit : (f n : ℕ) → n < 10 → digits_in f n ≡ digit n ∷ []
unfolding digits_in
one-digit zero n lt = refl
one-digit (suc f) n lt = rw (lt-ltb n 10 lt, digits_in) refl

-- a larger one has its last digit after the digits of its tenth
pub more_digits : (f n : ℕ) → 10 ≤ n → digits_in (suc f) n ≡ digits_in f (n / 10) ++ (digit (n % 10) ∷ [])
unfolding digits_in
more_digits f n le = rw (le-ltb n 10 le, digits_in) refl

-- however many digits are allowed, a number that is not above them has the same
enough : (f g n : ℕ) → n ≤ f → n ≤ g → digits_in f n ≡ digits_in g n
enough zero g n le la = one-digit 0 n (omega arith) ∙ sym (one-digit g n (omega arith))
enough (suc f) zero n le la = one-digit (suc f) n (omega arith) ∙ sym (one-digit 0 n (omega arith))
enough (suc f) (suc g) n le la = go (ltb n 10) refl (λ many. enough f g (n / 10) (omega arith) (omega arith))
  where
    go : (b : Bool) → ltb n 10 ≡ b → (10 ≤ n → digits_in f (n / 10) ≡ digits_in g (n / 10)) → digits_in (suc f) n ≡ digits_in (suc g) n
    go true e tenth = let lt = ltb-true n 10 e in one-digit (suc f) n lt ∙ sym (one-digit (suc g) n lt)
    go false e tenth =
        let many = ltb-false n 10 e in
        more_digits f n many ∙ ap (λ ds. ds ++ (digit (n % 10) ∷ [])) (tenth many) ∙ sym (more_digits g n many)

pub decimal-one : (n : ℕ) → n < 10 → decimal n ≡ digit n ∷ []
unfolding decimal
decimal-one n lt = one-digit n n lt

pub decimal_tenth : (n : ℕ) → 10 ≤ n → decimal n ≡ decimal (n / 10) ++ (digit (n % 10) ∷ [])
unfolding decimal
decimal_tenth zero le = absurd (omega arith)
decimal_tenth (suc f) le =
    more_digits f (suc f) le ∙ ap (λ ds. ds ++ (digit (suc f % 10) ∷ [])) (enough f (suc f / 10) (suc f / 10) (omega arith) (omega arith))

-- a further digit
pub decimal-more : (v d : ℕ) → 0 < v → d < 10 → decimal (10 * v + d) ≡ decimal v ++ (digit d ∷ [])
decimal-more v d some lt =
    let tenth : (10 * v + d) / 10 ≡ v = omega arith in
    let last : (10 * v + d) % 10 ≡ d = omega arith in
    decimal_tenth (10 * v + d) (omega arith) ∙ ap₂ (λ n x. decimal n ++ (digit x ∷ [])) tenth last

-- ---- by tenths
-- what holds of each number below 10, and of a larger one if of its tenth, holds of all
by_tenths : (P : ℕ → Type 0) → ((n : ℕ) → n < 10 → P n) → ((n : ℕ) → 10 ≤ n → P (n / 10) → P n) → (f n : ℕ) → n ≤ f → P n
by_tenths P small large zero n le = small n (omega arith)
by_tenths P small large (suc f) n le = go (ltb n 10) refl (λ many. by_tenths P small large f (n / 10) (omega arith))
  where
    go : (b : Bool) → ltb n 10 ≡ b → (10 ≤ n → P (n / 10)) → P n
    go true e tenth = small n (ltb-true n 10 e)
    go false e tenth = let many = ltb-false n 10 e in large n many (tenth many)

pub tenths : (P : ℕ → Type 0) → ((n : ℕ) → n < 10 → P n) → ((n : ℕ) → 10 ≤ n → P (n / 10) → P n) → (n : ℕ) → P n
tenths P small large n = by_tenths P small large n n (omega arith)

-- ---- the bytes
-- there is a digit
pub decimal-some : (n : ℕ) → 1 ≤ length (decimal n)
decimal-some = tenths (λ n. 1 ≤ length (decimal n))
    (λ n lt. rw (decimal-one n lt) (omega arith))
    (λ n le tenth. omega (arith, ap length (decimal_tenth n le), length-append (decimal (n / 10)) (digit (n % 10) ∷ [])))

-- each byte is a digit
pub decimal_digits : (n b : ℕ) → Has b (decimal n) → (digit 0 ≤ b) × (b ≤ digit 9)
decimal_digits n b = tenths (λ n. Has b (decimal n) → (digit 0 ≤ b) × (b ≤ digit 9))
    (λ n lt h. one n lt (subst (Has b) (decimal-one n lt) h))
    (λ n le tenth h. ⊎_elim tenth (one (n % 10) (omega arith)) (has_append b (decimal (n / 10)) (digit (n % 10) ∷ []) (subst (Has b) (decimal_tenth n le) h)))
    n
  where
    one : (d : ℕ) → d < 10 → Has b (digit d ∷ []) → (digit 0 ≤ b) × (b ≤ digit 9)
    one d lt (inl e) = (omega arith, omega arith)
    one d lt (inr h) = absurd h

first_append : (d : ℕ) (xs ys : List ℕ) → 1 ≤ length xs → first_or d (xs ++ ys) ≡ first_or d xs
first_append d [] ys le = absurd (omega arith)
first_append d (x ∷ xs) ys le = refl

-- the first of them is not 0
pub decimal-first : (n : ℕ) → 0 < n → digit 0 < first_or 0 (decimal n)
decimal-first = tenths (λ n. 0 < n → digit 0 < first_or 0 (decimal n))
    (λ n lt some. rw (decimal-one n lt) (omega arith))
    (λ n le tenth some.
    omega (arith, tenth (omega arith), ap (first_or 0) (decimal_tenth n le), first_append 0 (decimal (n / 10)) (digit (n % 10) ∷ []) (decimal-some (n / 10))))

-- ---- lengths
pub length_tenth : (n : ℕ) → 10 ≤ n → length (decimal n) ≡ length (decimal (n / 10)) + 1
length_tenth n le = ap length (decimal_tenth n le) ∙ length-append (decimal (n / 10)) (digit (n % 10) ∷ [])

-- where the numbers below m have at most k digits, those below ten times m have at most one more
length_more : (k m : ℕ) → ((n : ℕ) → n < m → length (decimal n) ≤ k) → 1 ≤ k → (n : ℕ) → n < 10 * m → length (decimal n) ≤ suc k
length_more k m fewer some n lt = go (ltb n 10) refl
  where
    go : (b : Bool) → ltb n 10 ≡ b → length (decimal n) ≤ suc k
    go true e = rw (decimal-one n (ltb-true n 10 e)) (omega arith)
    go false e = omega (arith, length_tenth n (ltb-false n 10 e), fewer (n / 10) (omega arith))

-- a number below 100,000 has at most five digits
pub decimal_short : (n : ℕ) → n < 100000 → length (decimal n) ≤ 5
decimal_short =
    length_more 4 10000 (length_more 3 1000 (length_more 2 100 (length_more 1 10 one (omega arith)) (omega arith)) (omega arith)) (omega arith)
  where
    one : (n : ℕ) → n < 10 → length (decimal n) ≤ 1
    one n lt = rw (decimal-one n lt) (omega arith)

-- ---- two numbers
-- a digit alone is no digit behind others
alone : (n m : ℕ) → n < 10 → 10 ≤ m → decimal n ≡ decimal m → ⊥
alone n m lt le e = omega (arith, ap length e, ap length (decimal-one n lt), length_tenth m le, decimal-some (m / 10))

-- no two numbers have the same digits
pub decimal_apart : (n m : ℕ) → decimal n ≡ decimal m → n ≡ m
decimal_apart = tenths (λ n. (m : ℕ) → decimal n ≡ decimal m → n ≡ m)
    (λ n lt m e. small n lt m e (ltb m 10) refl)
    (λ n le tenth m e. large n le tenth m e (ltb m 10) refl)
  where
    small : (n : ℕ) → n < 10 → (m : ℕ) → decimal n ≡ decimal m → (b : Bool) → ltb m 10 ≡ b → n ≡ m
    small n lt m e true q = omega (arith, ap (first_or 0) (sym (decimal-one n lt) ∙ e ∙ decimal-one m (ltb-true m 10 q)))
    small n lt m e false q = absurd (alone n m lt (ltb-false m 10 q) e)

    large : (n : ℕ) → 10 ≤ n → ((m : ℕ) → decimal (n / 10) ≡ decimal m → n / 10 ≡ m) → (m : ℕ) → decimal n ≡ decimal m → (b : Bool) → ltb m 10 ≡ b → n ≡ m
    large n le tenth m e true q = absurd (alone m n (ltb-true m 10 q) le (sym e))
    large n le tenth m e false q =
        let split = sym (decimal_tenth n le) ∙ e ∙ decimal_tenth m (ltb-false m 10 q) in
        let both = snoc_inj (decimal (n / 10)) (decimal (m / 10)) (digit (n % 10)) (digit (m % 10)) split in
        omega (arith, tenth (m / 10) both.0, both.1)
