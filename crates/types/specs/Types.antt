-- What a type list says of a table. Assumes nothing.
use Rattle.std.specs.Prelude.{ℕ, ◌<◌, ◌≤◌, ◌≡◌, List, [], ◌∷◌, map, length, get_or, take, Result, Ok, Err}
use Rattle.std.proofs.Math.Option.{none}
use Rattle.paper.specs.Lists.{Has, last_or, up}
use Rattle.paper.specs.Format.{most_types}
use Rattle.paper.specs.Tables.{Row, row_types, types, type_number}
use Rattle.paper.specs.Calls.{refused, refuse_at, type_too_many}
use Rattle.paper.specs.Refusals.{refusal_number, refusal_place}
use Rattle.paper.specs.declared.refusal.Refusal.{Refusal}
use Rattle.types.specs.declared.list.Types.{Types}

-- each row's type number
unfoldable pub kinds : List Row → List ℕ
kinds rs = map (type_number (types rs)) (row_types rs)

-- the parent type's number, 64 for none
abbrev pub parent_of : List (List ℕ) → List ℕ → ℕ
parent_of ts [] = most_types
parent_of ts (x ∷ v) = type_number ts (x ∷ v)

-- no type is too many, t is the table's types, and ks each row's number
pub record Lists (rs : List Row) (ks : List ℕ) (t : Types) : Type 0 where
  pub few : type_too_many rs ≡ none
  pub count : t.count ≡ length (types rs)
  pub typed : take (length rs) ks ≡ kinds rs
  pub label : (k : ℕ) → k < t.count → get_or t.labels k 0 ≡ last_or 0 (get_or (types rs) k [])
  pub parent : (k : ℕ) → k < t.count → get_or t.parents k 0 ≡ parent_of (types rs) (up (get_or (types rs) k []))

-- what test 4 says of a table: the refusal r, or where it refuses nothing, the types r
abbrev pub ListsTypes : List Row → List ℕ → Result Types Refusal → Type 0
ListsTypes rs ks (Ok t) = Lists rs ks t
ListsTypes rs ks (Err e) = refuse_at 4 (type_too_many rs) ≡ refused (refusal_number e) (refusal_place e)

-- the first `count` places list the types ts, each by its parent type and last label; what stands above a type is a type
pub record Told (ts : List (List ℕ)) (parents labels : List ℕ) (count : ℕ) : Type 0 where
  pub count-is : count ≡ length ts
  pub few : count ≤ most_types
  pub parent : (k : ℕ) → k < count → get_or parents k 0 ≡ parent_of ts (up (get_or ts k []))
  pub label : (k : ℕ) → k < count → get_or labels k 0 ≡ last_or 0 (get_or ts k [])
  pub whole : (v : List ℕ) → Has v ts → 0 < length v
  pub above : (v : List ℕ) → Has v ts → (k : ℕ) → 0 < k → k ≤ length v → Has (take k v) ts

-- r is the first of the count listed types with this parent and label
pub record Found (parents labels : List ℕ) (count p a r : ℕ) : Type 0 where
  pub within : r < count
  pub found : (get_or parents r 0 ≡ p) × (get_or labels r 0 ≡ a)
  pub passed : (k : ℕ) → k < r → get_or parents k 0 ≡ p → get_or labels k 0 ≡ a → ⊥

-- k is one of the count listed types, with this parent and label
abbrev pub FoundNear : List ℕ → List ℕ → ℕ → ℕ → ℕ → ℕ → Type 0
FoundNear parents labels count p a k = (k < count) × (get_or parents k 0 ≡ p) × (get_or labels k 0 ≡ a)

-- none of the count listed types has this parent and label
abbrev pub NotListed : List ℕ → List ℕ → ℕ → ℕ → ℕ → Type 0
NotListed parents labels count p a = (k : ℕ) → k < count → get_or parents k 0 ≡ p → get_or labels k 0 ≡ a → ⊥
