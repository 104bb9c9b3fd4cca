-- The contract of each of the reader's functions, as its file has it, asks nothing and settles what a caller sees. Assumes nothing.
use Prim.Native.Nat.{ℕ}
use mathlib.Core.Path.{◌≡◌, sym, ◌∙◌}
use mathlib.Core.List.{List}
use denote.Ref.{Bor}
use Rattle.paper.specs.Format.{Format}
use Rattle.paper.specs.Widths.{format_of}
use Rattle.paper.specs.declared.Width.{Width}
use Rattle.reading.specs.Handed.{Handed}
use Rattle.reading.specs.declared.reader.Reader.{Reader}
use Rattle.reading.proofs.Held.{Made, made_is}
use Rattle.settling.proofs.Settles.{part, Settled, Walk-settled, nothing, one_clause}
use Rattle.reading.proofs.reader.row_at.Reads as row_at
use Rattle.reading.proofs.reader.place_after.Reads as place_after
use Rattle.reading.specs.contracts.reader.make as make
use Rattle.reading.specs.contracts.reader.row as row
use Rattle.reading.specs.contracts.reader.next as next
use Rattle.reading.proofs.reader.handed.Reads as handed
use Rattle.reading.proofs.reader.handed_next.Reads as handed-next

-- ---- parts: the same bytes at the same place
handed_unique : (f : Format) (t : Bor (List ℕ)) (at : ℕ) (p o : Bor (List ℕ)) → Handed f t at p → Handed f t at o → part p ≡ part o
handed_unique f t at p o a b = λ i. ((a.0 ∙ sym b.0) i, ((a.1.0 ∙ sym b.1.0) i, (a.1.1 ∙ sym b.1.1) i))

pub row_at_settled : Settled row_at.Asked row_at.Learnt (λ κs p e. part p)
row_at_settled = ((λ κs a. tt), λ κs a p o e f. handed_unique (format_of a.0) a.1.0 a.1.1.0 p o)

pub row_settled : Walk-settled row.ended (λ M 𝓤 𝓛. row.clauses 𝓛) (λ κs p e. part p)
row_settled = (
  (λ M 𝓤 𝓛 mem run κs a g. nothing 𝓤),
  λ M 𝓤 𝓛 mem run κs a g p o e f. one_clause 𝓤 _ _ (handed_unique (format_of a.0.width) a.0.table a.0.at p o),
)

pub handed_settled : Settled handed.Asked handed.Learnt (λ κs p e. part p)
handed_settled = ((λ κs a. tt), λ κs a p o e f. handed_unique (format_of a.0) a.1.0 a.1.1.0 p o)

pub handed_next_settled : Settled handed-next.Asked handed-next.Learnt (λ κs p e. part p)
handed_next_settled = ((λ κs a. tt), λ κs a p o e f. handed_unique (format_of a.0) a.1.0 _ p o)

-- ---- places
pub place_after_settled : Settled place_after.Asked place_after.Learnt (λ κs r e. r)
place_after_settled = ((λ κs a. tt), λ κs a r s e f x y. x ∙ sym y)

-- ---- readers: over the very same table, at the same place, of the same width
reader_unique : (w : Width) (t : Bor (List ℕ)) (at : ℕ) (r o : Reader) → Made w t at r → Made w t at o → r ≡ o
reader_unique w t at r o a b = made_is w t at r a ∙ sym (made_is w t at o b)

pub make_settled : Walk-settled make.ended (λ M 𝓤 𝓛. make.clauses 𝓛) (λ κs r e. r)
make_settled = (
  (λ M 𝓤 𝓛 mem run κs a g. nothing 𝓤),
  λ M 𝓤 𝓛 mem run κs a g r o e f. one_clause 𝓤 _ _ (reader_unique a.0 a.1.0 a.1.1.0 r o),
)

pub next_settled : Walk-settled next.ended (λ M 𝓤 𝓛. next.clauses 𝓛) (λ κs r e. r)
next_settled = (
  (λ M 𝓤 𝓛 mem run κs a g. nothing 𝓤),
  λ M 𝓤 𝓛 mem run κs a g r o e f. one_clause 𝓤 _ _ (reader_unique a.0.width a.0.table _ r o),
)
