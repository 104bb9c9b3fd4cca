-- What is known of a table as tests 1 to 4 go by, and its rows at their end. Assumes nothing.
use Prim.Native.Nat.{ℕ, ◌≤◌}
use native.Mathlib.Omega.{arith}
use mathlib.Core.Path.{◌≡◌, refl, sym, ◌∙◌, ap}
use mathlib.Core.List.{List}
use mathlib.Core.Option.{Option, none}
use lib.ListN.{length, take}
use Rattle.paper.specs.Format.{Format, most_rows, most_types, row_bytes, whole}
use Rattle.paper.specs.Tables.{Row, rows, types, bad_row}
use Rattle.paper.specs.Calls.{Answer, refused, given, ◌>>=◌, refuse_at, examine, type_too_many, tests1_3, tests1_4}
use Rattle.std.specs.Prelude.{Ok, Err}
use Rattle.paper.specs.Refusals.{refusal_number, refusal_place}
use Rattle.paper.specs.declared.refusal.Refusal.{Refusal}
use Rattle.paper.proofs.Calls.{passed1_3, pass1_4, few_rows, count-rows}
use Rattle.octets.specs.Served.{Served}
use Rattle.tables.specs.Reply.{examined}
use Rattle.tables.proofs.Examine as table-laws
use Rattle.types.specs.Types.{Lists}
use Rattle.types.specs.declared.list.Types.{Types}
use Rattle.types.proofs.Few.{few_from}
use Rattle.types.proofs.Told.{told}
use Rattle.closest.specs.Node.{Typed}
use Rattle.closest.specs.Runs.{SoundRows, LevelsOf, Rows}
use Rattle.closest.specs.Rows.{ReadRows}
use Rattle.closest.proofs.Meets.{kind_few, ks_long}

-- ---- the tests, from what each finds
abbrev listed : List Row → Option ℕ → Answer (List Row)
listed rs o = refuse_at 4 o >>= (λ _. given rs)

abbrev tabled : Answer (List Row) → Answer (List Row)
tabled a = a >>= (λ (rs : List Row). listed rs (type_too_many rs))

tests_are : (f : Format) (t : List ℕ) → tests1_4 f t ≡ tabled (tests1_3 f t)
unfolding tests1_4
tests_are f t = refl

-- ---- tests 1 to 3
-- the table passes them, and has so many rows
pub record Tabled (f : Format) (t : List ℕ) (n : ℕ) : Type 0 where
  pub passed : tests1_3 f t ≡ given (rows f t)
  pub whole-rows : n ≡ whole (row_bytes f) t
  pub kept : bad_row f (rows f t) ≡ none
  pub few : n ≤ most_rows

module _ (f : Format) (t : List ℕ) where
  pub table-refused : (e : Refusal) → examined (Err e) ≡ examine f t → tests1_4 f t ≡ refused (refusal_number e) (refusal_place e)
  table-refused e q = tests_are f t ∙ ap tabled (table-laws.tests_refuse f t e q)

  pub table_passed : (n : ℕ) → examined (Ok n) ≡ examine f t → Tabled f t n
  table_passed n q =
      let (g, w) = table-laws.tests_give f t n q in
      let (same, k, short) = passed1_3 f t (rows f t) g in
      record { passed = g; whole-rows = w; kept = k; few = omega (arith, w, few_rows f t short, count-rows f t) }

-- what listing its types asks for
pub list_asked : {f : Format} → Served f → {t : List ℕ} {n : ℕ} → Tabled f t n
    → ((n ≡ whole (row_bytes f) t) × (n ≤ most_rows) × (f.levels ≤ 8)) × (bad_row f (rows f t) ≡ none)
list_asked served table = ((table.whole-rows, table.few, served.shallow), table.kept)

-- ---- test 4
-- the table passes test 4 too, ty is the list of its types, and ks has its rows' type numbers
pub record Listed (f : Format) (t : List ℕ) (n : ℕ) (ks : List ℕ) (ty : Types) : Type 0 where
  pub table : Tabled f t n
  pub lists : Lists (rows f t) ks ty

pub types-refused : {f : Format} {t : List ℕ} {n : ℕ} → Tabled f t n → (e : Refusal)
    → refuse_at 4 (type_too_many (rows f t)) ≡ refused (refusal_number e) (refusal_place e) → tests1_4 f t ≡ refused (refusal_number e) (refusal_place e)
types-refused {f} {t} table e q =
    tests_are f t ∙ ap tabled table.passed ∙ ap (λ a. a >>= (λ _. given (rows f t))) q

-- ---- the rows
module _ {f : Format} {t : List ℕ} {n : ℕ} {ks : List ℕ} {ty : Types} (served : Served f) (l : Listed f t n ks ty) where
  few_types : length (types (rows f t)) ≤ most_types
  few_types = few_from (rows f t) l.lists.few

  -- what reading their levels asks for
  pub sound-rows : SoundRows f n t
  sound-rows = record {
    sound = record { kept = l.table.kept; shallow = omega (arith, served.shallow) };
    rows_n = l.table.whole-rows ∙ sym (count-rows f t);
    few = l.table.few;
  }

  typed-rows : Typed f n t ks
  typed-rows = record {
    sound = sound-rows.sound;
    rows_n = sound-rows.rows_n;
    listed = ap (λ m. take m ks) sound-rows.rows_n ∙ l.lists.typed;
  }

  module _ (levels : List ℕ) (long : length levels ≡ most_rows) (ls : LevelsOf f n t levels) where
    rows_are : Rows n levels ks
    rows_are = record {
      few = l.table.few;
      levels_long = omega (arith, l.table.few);
      types_long = ks_long f n t ks typed-rows;
      level-some = ls.level-some;
      type_few = λ i lt. omega (arith, kind_few f n t ks typed-rows i lt, few_types);
    }

    passes : tests1_4 f t ≡ given (rows f t)
    passes = pass1_4 f t l.table.passed few_types

    pub rows-read : ReadRows f t (Ok (record { rows = n; count = ty.count; parents = ty.parents; labels = ty.labels })) levels ks
    rows-read = (
      passes,
      record {
        given_is = passes;
        levelled = record { typed = typed-rows; level-is = ls.level-is };
        levels_are = ls;
        rows_are = rows_are;
        told = told (rows f t) ks ty l.lists;
      },
    )
