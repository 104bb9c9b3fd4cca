-- What is known of a shape as the tests go by, over the types of a table, and what was read at their end. Assumes nothing.
use Prim.Native.Nat.{ℕ, ◌≤◌}
use mathlib.Core.Path.{◌≡◌, refl, sym, ◌∙◌, ap}
use mathlib.Core.List.{List, []}
use mathlib.Core.Option.{none}
use lib.ListN.{length}
use Rattle.paper.specs.Format.{Format, most_entries, entry_bytes, whole}
use Rattle.paper.specs.Tables.{rows, types}
use Rattle.paper.specs.Shapes.{entries, bad_entry, shape_over, entry_kept}
use Rattle.paper.specs.Calls.{refused, given, type_missing, tests1_4, tests5_6, tests1_7}
use Rattle.paper.proofs.Tables.{none-rules}
use Rattle.paper.proofs.Shapes.{level_of, size}
use Rattle.paper.proofs.Calls.{count_entries}
use Rattle.std.specs.Prelude.{Ok, Err}
use Rattle.paper.specs.Refusals.{refusal_number, refusal_place}
use Rattle.paper.specs.declared.refusal.Refusal.{Refusal}
use Rattle.octets.specs.Served.{Served}
use Rattle.types.specs.Types.{Told}
use Rattle.shapes.specs.EntryTypes.{TypesAre, NumbersEach}
use Rattle.shapes.specs.Ways.{Laid, way_at}
use Rattle.shapes.specs.Tests.{shape_reply, shape_examined, shape_in, Read, Passed}
use Rattle.shapes.specs.declared.ways.Fields.{Fields}
use Rattle.shapes.specs.declared.tests.Tested.{Tested}
use Rattle.shapes.proofs.Examined as shape-laws
use Rattle.shapes.proofs.Tested.{refused-shape, refused_missing, none-refused, work_of}

-- ---- tests 5 and 6
-- the shape passes them, and has so many entries
pub record Shaped (f : Format) (s : List ℕ) (m : ℕ) : Type 0 where
  pub passed : tests5_6 f s ≡ given (entries f s)
  pub whole-entries : m ≡ whole (entry_bytes f) s
  pub kept : bad_entry f (entries f s) ≡ none
  pub few : m ≤ most_entries

module _ (f : Format) (s : List ℕ) where
  pub shape-refused : (e : Refusal) → shape_examined (Err e) ≡ shape_reply f s → (t : List ℕ) → tests1_4 f t ≡ given (rows f t)
      → tests1_7 f t s ≡ refused (refusal_number e) (refusal_place e)
  shape-refused e q t table = refused-shape f t s table (refusal_number e) (refusal_place e) (shape-laws.tests_refuse f s e q)

  pub shape_passed : (n : ℕ) → shape_examined (Ok n) ≡ shape_reply f s → Shaped f s n
  shape_passed n q = record {
    passed = (shape-laws.tests_give f s n q).0;
    whole-entries = (shape-laws.tests_give f s n q).1;
    kept = shape-laws.kept f s 0 0 n q refl;
    few = shape-laws.few_entries f s 0 0 n q refl;
  }

-- what the readings of its entries ask for
pub shape_asked : {f : Format} → Served f → {s : List ℕ} {m : ℕ} → Shaped f s m
    → ((m ≡ whole (entry_bytes f) s) × (m ≤ most_entries) × (f.levels ≤ 8)) × (bad_entry f (entries f s) ≡ none)
shape_asked served shape = ((shape.whole-entries, shape.few, served.shallow), shape.kept)

-- ---- test 7, and what was read
module _ {f : Format} (t : List ℕ) {s parents labels : List ℕ} {count m : ℕ} (table : tests1_4 f t ≡ given (rows f t))
    (told : Told (types (rows f t)) parents labels count) (h : Shaped f s m) where
  entries_m : m ≡ length (entries f s)
  entries_m = h.whole-entries ∙ sym (count_entries f s)

  pub types_missing : (e : Refusal) → NumbersEach parents labels count (entries f s) m (Err e)
      → tests1_7 f t s ≡ refused (refusal_number e) (refusal_place e)
  unfolding type_missing
  types_missing e k = refused_missing f t s table h.passed (refusal_number e) (refusal_place e) (k (types (rows f t)) told)

  module _ (ks : List ℕ) (k : NumbersEach parents labels count (entries f s) m (Ok ks)) (fs : Fields) (ways : List ℕ) (laid : Laid (shape_over [] (entries f s)) m fs ways) where
    numbered : TypesAre (types (rows f t)) (entries f s) m ks
    numbered = k (types (rows f t)) told

    abbrev read : Tested
    read = record {
      entries = m;
      levels = fs.levels;
      labels = fs.labels;
      parents = fs.parents;
      types = ks;
    }

    all_passed : tests1_7 f t s ≡ given (work_of (rows f t) (entries f s))
    unfolding type_missing
    all_passed = none-refused f t s table h.passed numbered.none_missing

    ways_m : m ≡ length (shape_in f t s).ways
    unfolding bad_entry
    ways_m =
        entries_m
        ∙ sym (size f (types (rows f t)) (entries f s) (none-rules (entry_kept f) level_of 0 0 (entries f s) h.kept))

    held : Read (shape_in f t s) read ways
    unfolding shape_over
    held = record {
      counted = ways_m;
      few = h.few;
      level = laid.level;
      label = laid.label;
      parent_is = laid.parent_is;
      type_is = numbered.type_is;
      way_is = λ e lt. ap (way_at ways e) (laid.level e lt) ∙ laid.way_is e lt;
    }

    pub passes : Passed f t s read ways
    passes = record { given_is = all_passed; known = numbered.known; reads = held }
