-- `labels::next_alike` meets its contract. Assumes nothing.
use Prim.Native.Nat.{ℕ}
use native.Mathlib.Omega.{arith}
use mathlib.Core.Path.{refl}
use Rattle.std.proofs.Common.{rules, tests}
use Rattle.std.proofs.lemmas.Iterator.{first_from_Range}
use Rattle.indexes.specs.Labels.{Alike}
use Rattle.indexes.proofs.labels.next_alike.Goals as goal

pub overflow_cast-result : goal.overflow_cast-result
overflow_cast-result c =
    let found = first_from_Range _ _ _ c.find.result (λ _. Unit {0}) (λ _. Unit {0}) c.find.ensures.ran (λ x q k. tt) (λ x q k. search (rules, tests)) in
    let first = rw c.in-Some.is at found in
    omega (arith, first.1, c.requires.0.few)

pub returns-in-Some : goal.returns-in-Some
returns-in-Some c =
    let a = c.args in
    let j = c.in-Some.j in
    let Same = λ (j : ℕ). Alike a.levels.now a.labels.now a.i j in
    let found = first_from_Range _ _ _ c.find.result Same (λ (j : ℕ). Same j → ⊥) c.find.ensures.ran (λ x q k. search (rules, tests)) (λ x q k. search (rules, tests)) in
    let first = rw c.in-Some.is at found in
    λ ks same. record {
      none = λ le. let z : ⊥ = omega (arith, first.1) in absurd z;
      after = λ _. omega (arith, first.0);
      typed = λ lt. (same a.i j c.requires.1 lt).0 first.2;
      passed = λ x b lt before e. first.3 x (omega arith) before ((same a.i x c.requires.1 lt).1 e);
    }

pub returns-in-None : goal.returns-in-None
returns-in-None c =
    let a = c.args in
    let Same = λ (j : ℕ). Alike a.levels.now a.labels.now a.i j in
    let found = first_from_Range _ _ _ c.find.result Same (λ (j : ℕ). Same j → ⊥) c.find.ensures.ran (λ x q k. search (rules, tests)) (λ x q k. search (rules, tests)) in
    let missing = rw c.in-None.is at found in
    λ ks same. record {
      none = λ _. refl;
      after = λ lt. let z : ⊥ = omega (arith, c.requires.0.few) in absurd z;
      typed = λ lt. let z : ⊥ = omega (arith, c.requires.0.few) in absurd z;
      passed = λ x b lt before e. missing x (omega arith) lt ((same a.i x c.requires.1 lt).1 e);
    }
