-- What the types of a shape's entries are in a list of types. Assumes nothing.
use Rattle.std.specs.Prelude.{ℕ, ◌<◌, ◌≡◌, not, List, map, length, get_or, Result, Ok, Err}
use Rattle.std.proofs.Math.Option.{none}
use Rattle.paper.specs.Lists.{any, first_place, same}
use Rattle.paper.specs.Tables.{type_number}
use Rattle.paper.specs.Shapes.{Entry, named}
use Rattle.paper.specs.Calls.{refused, refuse_at}
use Rattle.paper.specs.Refusals.{refusal_number, refusal_place}
use Rattle.paper.specs.declared.refusal.Refusal.{Refusal}
use Rattle.types.specs.Types.{Told}

-- no entry's type is none of ts, and ks has the number of each entry's type
pub record TypesAre (ts : List (List ℕ)) (es : List Entry) (entries : ℕ) (ks : List ℕ) : Type 0 where
  pub none_missing : first_place (λ e. not (any (same (named e)) ts)) es ≡ none
  pub type_is : (e : ℕ) → e < entries → get_or ks e 0 ≡ get_or (map (λ (x : Entry). type_number ts (named x)) es) e 0
  pub known : (e : ℕ) → e < entries → get_or ks e 0 < length ts

-- what test 7 says of the entries over the types ts: the refusal r, or where it refuses nothing, the numbers r
abbrev pub TypesOf : List (List ℕ) → List Entry → ℕ → Result (List ℕ) Refusal → Type 0
TypesOf ts es entries (Ok ks) = TypesAre ts es entries ks
TypesOf ts es entries (Err e) = refuse_at 7 (first_place (λ e. not (any (same (named e)) ts)) es) ≡ refused (refusal_number e) (refusal_place e)

-- whatever types are listed, r is the number of the type v among them, count for none
abbrev pub Numbers : List ℕ → List ℕ → ℕ → List ℕ → ℕ → Type 0
Numbers parents labels count v r = (ts : List (List ℕ)) → Told ts parents labels count → r ≡ type_number ts v

-- this is so of whatever types are listed
abbrev pub NumbersEach : List ℕ → List ℕ → ℕ → List Entry → ℕ → Result (List ℕ) Refusal → Type 0
NumbersEach parents labels count es entries r = (ts : List (List ℕ)) → Told ts parents labels count → TypesOf ts es entries r
