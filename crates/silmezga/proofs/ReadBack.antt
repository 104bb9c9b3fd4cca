-- What a read leaves passes 1 to 7, and what a print leaves is read back as the shape that was printed. Assumes nothing.
use Prim.Native.Nat.{ℕ, ◌*◌, ◌≤◌}
use native.Mathlib.Omega.{arith}
use mathlib.Core.Path.{◌≡◌, sym, ◌∙◌, ap, subst}
use mathlib.Core.List.{List, ◌++◌}
use lib.ListN.{length, take, drop}
use Rattle.paper.specs.Format.{Format, entry_bytes}
use Rattle.paper.specs.Widths.{format_of}
use Rattle.paper.specs.declared.Width.{Width}
use Rattle.paper.specs.Shapes.{Entry, entries}
use Rattle.paper.specs.Calls.{Reply, given, Work, tests5_6, tests1_7}
use Rattle.paper.proofs.Calls.{passed1_7}
use Rattle.octets.proofs.Laws.{format_served}
use Rattle.octets.specs.Served.{Served}
use Rattle.grammar.specs.Typed.{print_tree}
use Rattle.grammar.proofs.Records.{octets5_6}
use Rattle.grammar.proofs.Back.{print_accepted, print_reads}
use Rattle.grammar.proofs.Passes.{read_passes}
use Rattle.typed.specs.Read.{ReadsTree, reading_of}
use Rattle.spelling.specs.Printed.{Prints}
use Rattle.silmezga.proofs.Trees.{width_low, width_named}

module _ (width : Width) where
  abbrev f : Format
  f = format_of width

  served : Served f
  served = format_served f width (λ i. f)

  -- A SHAPE THAT WAS READ over a table is refused by no call with 5, 6 or 7 over the same table.
  pub tree_passes : (b text lent : List ℕ) (r : Reply ℕ) (shape : List ℕ) → ReadsTree f b text lent r shape → r.number ≡ 0
      → (w : Work) × (tests1_7 f b (take (entry_bytes f * r.rest) shape) ≡ given w)
  tree_passes b text lent r shape read accepted = read_passes f served.small b text lent (reading_of r shape) read accepted

  -- A SHAPE PAST 5 AND 6 IS PRINTED in 1,360 bytes of room.
  pub tree_printed : (s : List ℕ) (es : List Entry) → tests5_6 f s ≡ given es → (room : List ℕ) → 1360 ≤ length room
      → (p : Reply ℕ) (text : List ℕ) → Prints (print_tree f s room) p text → p.number ≡ 0
  tree_printed s es shape room enough p text printed =
      ap (λ (r : Reply ℕ). r.number) printed.0 ∙ print_accepted f served.shallow served.small s es shape room enough

  -- A LINE THAT WAS PRINTED IS READ BACK as the same shape's bytes, over every table past 1 to 4 that holds its types: it is never refused with 12, 5, 6
  -- or 13.
  pub tree_read_back : (b s : List ℕ) (w : Work) → tests1_7 f b s ≡ given w → (room : List ℕ) (p : Reply ℕ) (text : List ℕ)
      → Prints (print_tree f s room) p text → p.number ≡ 0 → (lent : List ℕ) → length s ≤ length lent → (r : Reply ℕ) (shape : List ℕ)
      → ReadsTree f b (take p.rest text) lent r shape
      → reading_of r shape ≡ reading_of (record { number = 0; place = 0; rest = length (entries f s) }) (s ++ drop (length s) lent)
  tree_read_back b s w passes room p text printed accepted lent fits r shape read =
      let octets = octets5_6 f s (entries f s) (passed1_7 f b s w passes).1 (omega (arith, served.shallow)) (width_low width) in
      print_reads f served.shallow served.small (width_named width) b s w passes octets room
      (sym (ap (λ (r : Reply ℕ). r.number) printed.0) ∙ accepted) lent fits (reading_of r shape)
      (subst (λ t. ReadsTree f b t lent r shape) (λ i. take (printed.0 i).rest (printed.1 i)) read)
