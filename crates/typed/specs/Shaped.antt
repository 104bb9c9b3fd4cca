-- What is shaped of the entries that were walked. Assumes nothing.
use Rattle.std.specs.Prelude.{ℕ, ◌≤◌, ◌≡◌, List, length, take}
use Rattle.paper.specs.Lists.{Has}
use Rattle.paper.specs.Format.{Format, most_entries}
use Rattle.paper.specs.Calls.{given, ◌>>=◌, Reply, reply, after}
use Rattle.grammar.specs.Typed.{Wanted, shaping, Reading}
use Rattle.typed.specs.Matching.{Listed}
use Rattle.typed.specs.Walk.{levels_of, numbers_of}
use Rattle.typed.specs.Read.{reading_of}
use Rattle.typed.specs.declared.walk.Walked.{Walked}

-- what 5, 6, 13 and 29 leave of these entries
unfoldable pub shaped_as : Format → List (List ℕ) → List Wanted → List ℕ → Reading
shaped_as f ts es lent =
    let a = shaping f ts es (length lent) in
    record { reply = reply 0 (do x ← a; given x.0); shape = after lent (do x ← a; given x.1) }

-- What was walked is of these entries, over these types.
pub record Of (ts : List (List ℕ)) (es : List Wanted) (w : Walked) : Type 0 where
  pub count-is : w.entries ≡ length es
  pub levels_are : take w.entries w.levels ≡ take most_entries (levels_of es)
  pub types_are : take w.entries w.types ≡ take most_entries (numbers_of ts es)

-- Whatever types are listed, none with more labels than the format has levels, and whatever entries are asked for, they are shaped.
abbrev pub Shapes : Format → Walked → List ℕ → List ℕ → ℕ → List ℕ → Reply ℕ → List ℕ → Type 0
Shapes f w parents labels count lent r shape =
    (ts : List (List ℕ)) → Listed ts parents labels count → ((v : List ℕ) → Has v ts → length v ≤ f.levels)
    → (es : List Wanted) → Of ts es w → reading_of r shape ≡ shaped_as f ts es lent
