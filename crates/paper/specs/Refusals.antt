-- Refusals by name: the number and the place of each, and what an answer of the calls' code says in the paper's terms. Assumes nothing.
use Rattle.std.specs.Prelude as Std
use Rattle.std.specs.Prelude.{ℕ, Result, Ok, Err, None, Some}
use Rattle.std.proofs.Math.Option.{Option, none, some}
use Rattle.paper.specs.Calls.{Answer, refused, given, Reply, reply}
use Rattle.paper.specs.declared.refusal.Refusal.{Refusal}
use Rattle.paper.specs.declared.refusal.Refusal.TheVariants.{TooManyRows, HalfRow, BadRow, TooManyTypes, NoShape, BadEntry, TypeMissing, TooManyLines}
use Rattle.paper.specs.declared.refusal.Refusal.TheVariants.{TooFewSummaries, NoSuchRow, NoTree, NoOneType, IndexTooShort, WrongIndex, NoSuchEntry}
use Rattle.paper.specs.declared.refusal.Refusal.TheVariants.{ValueOutOfRange, NoTotal, TooDeep, BadPair, Unlisted, NoRoom}

-- its number in the documents
abbrev pub refusal_number : Refusal → ℕ
refusal_number TooManyRows = 1
refusal_number HalfRow = 2
refusal_number (BadRow i) = 3
refusal_number (TooManyTypes i) = 4
refusal_number NoShape = 5
refusal_number (BadEntry e) = 6
refusal_number (TypeMissing e) = 7
refusal_number TooManyLines = 8
refusal_number TooFewSummaries = 10
refusal_number (NoSuchRow i) = 11
refusal_number (NoTree i) = 12
refusal_number (NoOneType e) = 13
refusal_number IndexTooShort = 14
refusal_number (WrongIndex i) = 15
refusal_number NoSuchEntry = 16
refusal_number (ValueOutOfRange i) = 17
refusal_number NoTotal = 18
refusal_number (TooDeep i) = 24
refusal_number (BadPair i) = 25
refusal_number (Unlisted i) = 26
refusal_number NoRoom = 29

-- the place that it names, 0 where it has none
abbrev pub refusal_place : Refusal → ℕ
refusal_place TooManyRows = 0
refusal_place HalfRow = 0
refusal_place (BadRow i) = i
refusal_place (TooManyTypes i) = i
refusal_place NoShape = 0
refusal_place (BadEntry e) = e
refusal_place (TypeMissing e) = e
refusal_place TooManyLines = 0
refusal_place TooFewSummaries = 0
refusal_place (NoSuchRow i) = i
refusal_place (NoTree i) = i
refusal_place (NoOneType e) = e
refusal_place IndexTooShort = 0
refusal_place (WrongIndex i) = i
refusal_place NoSuchEntry = 0
refusal_place (ValueOutOfRange i) = i
refusal_place NoTotal = 0
refusal_place (TooDeep i) = i
refusal_place (BadPair i) = i
refusal_place (Unlisted i) = i
refusal_place NoRoom = 0

-- an answer of the code, where what is given is told so
abbrev pub answer_of : {A B : Type 0} → (A → B) → Result A Refusal → Answer B
answer_of told (Ok a) = given (told a)
answer_of told (Err e) = refused (refusal_number e) (refusal_place e)

-- the same as a reply: number and place, and what is given, or zeros
abbrev pub reply_of : {A B : Type 0} → B → (A → B) → Result A Refusal → Reply B
reply_of zeros told r = reply zeros (answer_of told r)

-- a count, or the refusal
abbrev pub counted : Result ℕ Refusal → Reply ℕ
counted r = reply_of 0 (λ n. n) r

-- its number and its place by themselves, zeros where it refuses nothing
abbrev pub number_in : {A : Type 0} → Result A Refusal → ℕ
number_in (Ok a) = 0
number_in (Err e) = refusal_number e

abbrev pub place_in : {A : Type 0} → Result A Refusal → ℕ
place_in (Ok a) = 0
place_in (Err e) = refusal_place e

-- a place that the code found, or none
abbrev pub found : Std.Option ℕ → Option ℕ
found None = none
found (Some i) = some i
