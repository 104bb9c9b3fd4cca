-- What reading answers once each test is known. Assumes nothing.
use Prim.Native.Nat.{ℕ, ◌<◌}
use native.Mathlib.Omega.{arith}
use mathlib.Core.Path.{◌≡◌, refl, sym, ◌∙◌, ap}
use mathlib.Core.Bool.{true, false}
use mathlib.Core.List.{List}
use lib.ListN.{length}
use borrow.Author.Tests.{lt-ltb}
use Rattle.paper.specs.Format.{Format}
use Rattle.paper.specs.Tables.{Row, rows, types}
use Rattle.paper.specs.Calls.{Answer, refused, given, ◌>>=◌, Reply, tests1_4}
use Rattle.octets.specs.Served.{Served}
use Rattle.closest.specs.Rows.{RowsIn}
use Rattle.closest.specs.declared.rows.RowsRead.{RowsRead}
use Rattle.grammar.specs.Grammar.{tokens}
use Rattle.grammar.specs.Typed.{Wanted, most_text, shaping, reading, Reading, read_as, ReadTree}
use Rattle.grammar.specs.Reader.{first, walk, told, said_of}
use Rattle.grammar.proofs.Fitting.{types_fit}
use Rattle.grammar.proofs.Named.{names-read}
use Rattle.grammar.proofs.Right.{said_right}
use Rattle.typed.specs.Entries.{Within}
use Rattle.typed.specs.Matching.{Listed}
use Rattle.typed.specs.Read.{ReadsTree}
use Rattle.typed.specs.Shaped.{shaped_as}
use Rattle.typed.proofs.Shaped.{Given, left}

-- a text that is too long
pub long_text : (f : Format) (text : List ℕ) → most_text < length text → said_of f text ≡ refused 12 most_text
unfolding said_of
long_text f text lt =
    ap (λ t. elim t as (λ _. Answer (List Wanted)) [ true ↦ refused 12 most_text | false ↦ told text (walk f first 0 (tokens text)) ])
    (lt-ltb most_text (length text) lt)

module _ (f : Format) (labelled : 0 < f.labels) (b text lent : List ℕ) where
  -- what follows the tests of the table
  abbrev follows : Answer (List Wanted) → List Row → Answer Given
  follows said rs = said >>= (λ (es : List Wanted). shaping f (types rs) es (length lent))

  abbrev tabled : Answer (List Row) → Answer (List Wanted) → Reading
  tabled a said = left lent (a >>= follows said)

  read_is : (x : Reading) (a : Answer (List Row)) (said : Answer (List Wanted)) → tests1_4 f b ≡ a → said_of f text ≡ said → x ≡ tabled a said
      → ReadTree f b text lent x
  unfolding read_as reading
  read_is x a said et es e = record {
    said = said_of f text;
    says = said_right f (names-read f labelled) text;
    answer = e ∙ sym (λ i. tabled (et i) (es i));
  }

  -- number and place, and no entry
  abbrev refusal : ℕ → ℕ → Reply ℕ
  refusal k p = record { number = k; place = p; rest = 0 }

  module _ {k p : ℕ} where
    pub table-refused : tests1_4 f b ≡ refused k p → ReadsTree f b text lent (refusal k p) lent
    table-refused e = read_is _ (refused k p) _ e refl refl

    pub text_refused : tests1_4 f b ≡ given (rows f b) → said_of f text ≡ refused k p → ReadsTree f b text lent (refusal k p) lent
    text_refused table e = read_is _ (given (rows f b)) (refused k p) table e refl

  pub text_shaped : tests1_4 f b ≡ given (rows f b) → (es : List Wanted) → said_of f text ≡ given es → (x : Reading)
      → x ≡ shaped_as f (types (rows f b)) es lent → ReadTree f b text lent x
  unfolding shaped_as
  text_shaped table es e x is = read_is x (given (rows f b)) (given es) table e is

-- ---- the types of the rows that were read
module _ {f : Format} {b : List ℕ} {r : RowsRead} {levels ks : List ℕ} (read : RowsIn f b r levels ks) where
  pub types-within : Within f (types (rows f b))
  types-within v h = (types_fit f (rows f b) read.levelled.typed.sound.kept v h).most

  pub types-listed : Served f → Listed (types (rows f b)) r.parents r.labels r.count
  types-listed served = record { told = read.told; short = λ v h. let deep = served.shallow in omega (arith, deep, types-within v h) }
