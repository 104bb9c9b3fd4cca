-- The records of entries, over a list of types. Assumes nothing.
use Rattle.std.specs.Prelude.{ℕ, ◌≤◌, ◌<◌, ◌≡◌, List, [], ◌∷◌, ◌++◌, length, get_or, take}
use Rattle.std.proofs.lemmas.List.Edits.{sets}
use Rattle.paper.specs.Lists.{Has}
use Rattle.paper.specs.Format.{Format, entry_bytes}
use Rattle.grammar.specs.Typed.{entry_back}
use Rattle.typed.specs.Matching.{Listed}

-- whatever types are listed, n is how many labels type k has
abbrev pub Sized : List ℕ → ℕ → ℕ → ℕ → Type 0
Sized parents count k n = (ts : List (List ℕ)) (labels : List ℕ) → Listed ts parents labels count → n ≡ length (get_or ts k [])

-- whatever types are listed, the bytes r begin with the record of an entry of this level and type k, where that is not too long
abbrev pub EntryIs : Format → List ℕ → List ℕ → ℕ → ℕ → ℕ → List ℕ → Type 0
EntryIs f parents labels count level k r = (ts : List (List ℕ)) → Listed ts parents labels count → length (get_or ts k []) ≤ f.levels
    → take (entry_bytes f) r ≡ entry_back f level (get_or ts k [])

-- No type has more labels than the format has levels.
abbrev pub Within : Format → List (List ℕ) → Type 0
Within f ts = (v : List ℕ) → Has v ts → length v ≤ f.levels

-- Each of the entries has a level of the format, and a type below the count.
abbrev pub EachKnown : Format → List ℕ → List ℕ → ℕ → ℕ → Type 0
EachKnown f levels types entries count = (e : ℕ) → e < entries → (get_or levels e 0 ≤ f.levels) × (get_or types e 0 < count)

-- the records of entries with these levels and types
unfoldable pub entries_back : Format → List (List ℕ) → List ℕ → List ℕ → List ℕ
entries_back f ts [] ks = []
entries_back f ts (l ∷ ls) [] = []
entries_back f ts (l ∷ ls) (k ∷ ks) = entry_back f l (get_or ts k []) ++ entries_back f ts ls ks

-- whatever types are listed, none too long, the records of the entries are put at the front
abbrev pub EntriesPut : Format → List ℕ → List ℕ → ℕ → List ℕ → List ℕ → ℕ → List ℕ → List ℕ → Type 0
EntriesPut f levels types entries parents labels count before new = (ts : List (List ℕ)) → Listed ts parents labels count → Within f ts
    → new ≡ sets before 0 (entries_back f ts (take entries levels) (take entries types))
