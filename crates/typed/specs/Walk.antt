-- What walking a text leaves. Assumes nothing.
use Rattle.std.specs.Prelude as Std
use Rattle.std.specs.Prelude.{ℕ, zero, suc, ◌+◌, ◌≤◌, ◌≡◌, Bool, true, false, None, Some, Result, Ok, Err, List, map, eqb, length, take, set}
use Rattle.std.proofs.Math.Option.{none, some}
use Rattle.paper.specs.Format.{Format, most_types, most_entries}
use Rattle.paper.specs.Calls.{refused, given}
use Rattle.paper.specs.Refusals.{refusal_number, refusal_place}
use Rattle.paper.specs.declared.refusal.Refusal.{Refusal}
use Rattle.grammar.specs.Grammar.{Name, open_byte, close_byte}
use Rattle.grammar.specs.Typed.{Wanted}
use Rattle.grammar.specs.Reader.{Stage, first, behind_name, behind_open, behind_close, may_name, may_open, may_close, name_of_word, said_of}
use Rattle.typed.specs.Matching.{sole_number, Listed}
use Rattle.typed.specs.declared.walk.Walked.{Walked}

-- the stages by their numbers
abbrev pub stage_of : ℕ → Stage
stage_of zero = first
stage_of (suc zero) = behind_name
stage_of (suc (suc zero)) = behind_open
stage_of (suc (suc (suc n))) = behind_close

-- May the token that begins with this byte stand next?
abbrev pub may_stand : ℕ → Stage → ℕ → Bool
may_stand b s d = elim (eqb b open_byte) [ true ↦ may_open s | false ↦ elim (eqb b close_byte) [ true ↦ may_close s d | false ↦ may_name s d ] ]

-- each entry's level
abbrev pub levels_of : List Wanted → List ℕ
levels_of es = map (λ (e : Wanted). e.level) es

-- the number of the one type that each entry's name matches
abbrev pub numbers_of : List (List ℕ) → List Wanted → List ℕ
numbers_of ts es = map (λ (e : Wanted). sole_number ts e.name) es

-- what is lent of the list of types
abbrev pub Lists : List ℕ → List ℕ → ℕ → Type 0
Lists parents labels count = (count ≤ length parents) × (count ≤ length labels) × (count ≤ most_types)

-- The word spells a name, and the entry is the next; its level and its type are put at its place, where there is one.
pub record Kept (f : Format) (w : List ℕ) (depth : ℕ) (parents labels : List ℕ) (count : ℕ) (before after : Walked) : Type 0 where
  pub name : Name
  pub spells_one : name_of_word f w ≡ some name
  pub one_more : after.entries ≡ before.entries + 1
  pub level_put : after.levels ≡ set before.levels before.entries (suc depth)
  pub type_put : (ts : List (List ℕ)) → Listed ts parents labels count → after.types ≡ set before.types before.entries (sole_number ts name)

-- Or it spells none.
abbrev pub Keeps : Format → List ℕ → ℕ → List ℕ → List ℕ → ℕ → Walked → Std.Option Walked → Type 0
Keeps f w depth parents labels count before None = name_of_word f w ≡ none
Keeps f w depth parents labels count before (Some after) = Kept f w depth parents labels count before after

-- These entries are asked for: how many there are, and of the first 16 the level and the type.
pub record Asks (f : Format) (text parents labels : List ℕ) (count : ℕ) (r : Walked) : Type 0 where
  pub entries : List Wanted
  pub asked : said_of f text ≡ given entries
  pub count-is : r.entries ≡ length entries
  pub levels_are : take r.entries r.levels ≡ take most_entries (levels_of entries)
  pub types_are : (ts : List (List ℕ)) → Listed ts parents labels count → take r.entries r.types ≡ take most_entries (numbers_of ts entries)

-- They are, or the text is refused.
abbrev pub Walks : Format → List ℕ → List ℕ → List ℕ → ℕ → Result Walked Refusal → Type 0
Walks f text parents labels count (Ok r) = Asks f text parents labels count r
Walks f text parents labels count (Err e) = said_of f text ≡ refused (refusal_number e) (refusal_place e)
