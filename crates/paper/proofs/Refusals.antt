-- Refusals by name. Assumes nothing.
use Prim.Native.Nat.{ℕ}
use native.Mathlib.Omega.{arith}
use mathlib.Core.Path.{◌≡◌, refl, sym, ◌∙◌, ap, ap₂}
use mathlib.Core.Bool.{true, false}
use lib.Dec.{eqb}
use Rattle.std.specs.Prelude.{Ok, Err, Result, IfOk}
use Rattle.paper.specs.Calls.{Reply}
use Rattle.paper.specs.Refusals.{refusal_number, refusal_place, reply_of, counted, number_in, place_in}
use Rattle.paper.specs.declared.refusal.Refusal.{Refusal}
use Rattle.paper.specs.declared.refusal.Refusal.TheVariants.{TooManyRows, HalfRow, BadRow, TooManyTypes, NoShape, BadEntry, TypeMissing, TooManyLines}
use Rattle.paper.specs.declared.refusal.Refusal.TheVariants.{TooFewSummaries, NoSuchRow, NoTree, NoOneType, IndexTooShort, WrongIndex, NoSuchEntry}
use Rattle.paper.specs.declared.refusal.Refusal.TheVariants.{ValueOutOfRange, NoTotal, TooDeep, BadPair, Unlisted, NoRoom}

-- No refusal has the number 0, which says that a call is accepted.
pub numbered : (e : Refusal) → refusal_number e ≡ 0 → ⊥
numbered TooManyRows z = omega (arith, z)
numbered HalfRow z = omega (arith, z)
numbered (BadRow i) z = omega (arith, z)
numbered (TooManyTypes i) z = omega (arith, z)
numbered NoShape z = omega (arith, z)
numbered (BadEntry e) z = omega (arith, z)
numbered (TypeMissing e) z = omega (arith, z)
numbered TooManyLines z = omega (arith, z)
numbered TooFewSummaries z = omega (arith, z)
numbered (NoSuchRow i) z = omega (arith, z)
numbered (NoTree i) z = omega (arith, z)
numbered (NoOneType e) z = omega (arith, z)
numbered IndexTooShort z = omega (arith, z)
numbered (WrongIndex i) z = omega (arith, z)
numbered NoSuchEntry z = omega (arith, z)
numbered (ValueOutOfRange i) z = omega (arith, z)
numbered NoTotal z = omega (arith, z)
numbered (TooDeep i) z = omega (arith, z)
numbered (BadPair i) z = omega (arith, z)
numbered (Unlisted i) z = omega (arith, z)
numbered NoRoom z = omega (arith, z)

-- ---- number and place tell which refusal it is
named : ℕ → ℕ → Refusal
named n p =
    elim (eqb n 1) [
      | true ↦ TooManyRows
      | false ↦
          elim (eqb n 2) [
            | true ↦ HalfRow
            | false ↦
                elim (eqb n 3) [
                  | true ↦ BadRow p
                  | false ↦
                      elim (eqb n 4) [
                        | true ↦ TooManyTypes p
                        | false ↦
                            elim (eqb n 5) [
                              | true ↦ NoShape
                              | false ↦
                                  elim (eqb n 6) [
                                    | true ↦ BadEntry p
                                    | false ↦
                                        elim (eqb n 7) [
                                          | true ↦ TypeMissing p
                                          | false ↦
                                              elim (eqb n 8) [
                                                | true ↦ TooManyLines
                                                | false ↦
                                                    elim (eqb n 10) [
                                                      | true ↦ TooFewSummaries
                                                      | false ↦
                                                          elim (eqb n 11) [
                                                            | true ↦ NoSuchRow p
                                                            | false ↦
                                                                elim (eqb n 12) [
                                                                  | true ↦ NoTree p
                                                                  | false ↦
                                                                      elim (eqb n 13) [
                                                                        | true ↦ NoOneType p
                                                                        | false ↦
                                                                            elim (eqb n 14) [
                                                                              | true ↦ IndexTooShort
                                                                              | false ↦
                                                                                  elim (eqb n 15) [
                                                                                    | true ↦ WrongIndex p
                                                                                    | false ↦
                                                                                        elim (eqb n 16) [
                                                                                          | true ↦ NoSuchEntry
                                                                                          | false ↦
                                                                                              elim (eqb n 17) [
                                                                                                | true ↦ ValueOutOfRange p
                                                                                                | false ↦
                                                                                                    elim (eqb n 18) [
                                                                                                      | true ↦ NoTotal
                                                                                                      | false ↦
                                                                                                          elim (eqb n 24) [
                                                                                                            | true ↦ TooDeep p
                                                                                                            | false ↦
                                                                                                                elim (eqb n 25) [
                                                                                                                  | true ↦ BadPair p
                                                                                                                  | false ↦
                                                                                                                      elim (eqb n 26) [
                                                                                                                        | true ↦ Unlisted p
                                                                                                                        | false ↦
                                                                                                                            NoRoom
                                                                                                                      ]
                                                                                                                ]
                                                                                                          ]
                                                                                                    ]
                                                                                              ]
                                                                                        ]
                                                                                  ]
                                                                            ]
                                                                      ]
                                                                ]
                                                          ]
                                                    ]
                                              ]
                                        ]
                                  ]
                            ]
                      ]
                ]
          ]
    ]

told_apart : (e : Refusal) → named (refusal_number e) (refusal_place e) ≡ e
unfolding named
told_apart TooManyRows = refl
told_apart HalfRow = refl
told_apart (BadRow i) = refl
told_apart (TooManyTypes i) = refl
told_apart NoShape = refl
told_apart (BadEntry i) = refl
told_apart (TypeMissing i) = refl
told_apart TooManyLines = refl
told_apart TooFewSummaries = refl
told_apart (NoSuchRow i) = refl
told_apart (NoTree i) = refl
told_apart (NoOneType i) = refl
told_apart IndexTooShort = refl
told_apart (WrongIndex i) = refl
told_apart NoSuchEntry = refl
told_apart (ValueOutOfRange i) = refl
told_apart NoTotal = refl
told_apart (TooDeep i) = refl
told_apart (BadPair i) = refl
told_apart (Unlisted i) = refl
told_apart NoRoom = refl

pub same_refusal : (e d : Refusal) → refusal_number e ≡ refusal_number d → refusal_place e ≡ refusal_place d → e ≡ d
same_refusal e d n p = sym (told_apart e) ∙ ap₂ named n p ∙ told_apart d

-- So a reply tells the whole answer, where what is given is told by what it says.
pub same_answer : {A B : Type 0} (zeros : B) (told : A → B) → ((a b : A) → told a ≡ told b → a ≡ b) → (r s : Result A Refusal)
    → reply_of zeros told r ≡ reply_of zeros told s → r ≡ s
same_answer {A} {B} zeros told one (Ok a) (Ok b) e = ap Ok (one a b (ap (λ (x : Reply B). x.rest) e))
same_answer {A} {B} zeros told one (Ok a) (Err d) e = absurd (numbered d (sym (ap (λ (x : Reply B). x.number) e)))
same_answer {A} {B} zeros told one (Err d) (Ok b) e = absurd (numbered d (ap (λ (x : Reply B). x.number) e))
same_answer {A} {B} zeros told one (Err d) (Err c) e = ap Err (same_refusal d c (ap (λ (x : Reply B). x.number) e) (ap (λ (x : Reply B). x.place) e))

-- And where nothing is given, number and place do.
pub same_in : (r s : Result (Unit {0}) Refusal) → number_in r ≡ number_in s → place_in r ≡ place_in s → r ≡ s
same_in (Ok a) (Ok b) n p = refl
same_in (Ok a) (Err d) n p = absurd (numbered d (sym n))
same_in (Err d) (Ok b) n p = absurd (numbered d n)
same_in (Err d) (Err c) n p = ap Err (same_refusal d c n p)

-- Two answers that count, and are one reply, are one.
pub count_same : (r s : Result ℕ Refusal) → counted r ≡ counted s → r ≡ s
count_same r s e = same_answer 0 (λ n. n) (λ n m q. q) r s e

-- What a reply of number 0 promises of its count holds of what is given.
pub if_ok : (r : Result ℕ Refusal) (P : ℕ → Type 0) → ((counted r).number ≡ 0 → P (counted r).rest) → IfOk r P
if_ok (Ok n) P h = h refl
if_ok (Err e) P h = tt
