-- The contract of each call, as the root file has it, asks nothing and settles what a caller sees: of any two results that it allows
-- both are one, and so is what they leave of what was lent. A clause taken away or weakened is refused here. Assumes nothing.
use Prim.Native.Nat.{ℕ, ◌*◌}
use mathlib.Core.Path.{◌≡◌, refl, sym, ◌∙◌}
use mathlib.Core.List.{List, map}
use lib.ListN.{length, take}
use Rattle.paper.specs.Format.{Format, row_bytes}
use Rattle.paper.specs.Widths as Widths
use Rattle.paper.specs.Widths.{format_of}
use Rattle.paper.specs.Verdict.{kept}
use Rattle.paper.specs.Calls.{given, adorn, judge}
use Rattle.paper.specs.Labels.{pairs, converting}
use Rattle.paper.specs.Links.{LinksKept}
use Rattle.paper.specs.Shown.{FiguresAgree}
use Rattle.paper.specs.Edges.{EdgesAgree}
use Rattle.std.specs.Prelude.{Result, Ok, Err, IfOk}
use Rattle.paper.specs.Refusals.{counted}
use Rattle.paper.specs.declared.refusal.Refusal.{Refusal}
use Rattle.paper.proofs.Refusals.{count_same, if_ok}
use Rattle.widths.specs.Answers.{Moves}
use Rattle.widths.proofs.Unique.{moves_unique}
use Rattle.labels.specs.Answers.{converted}
use Rattle.labels.specs.declared.convert.Converted.{Converted}
use Rattle.labels.proofs.Unique.{converts_unique, converts_left}
use Rattle.octets.proofs.Laws.{format_served}
use Rattle.adorned.specs.Told.{told}
use Rattle.adorned.specs.Lent.{adorned_types}
use Rattle.adorned.specs.declared.TypeSummary.{TypeSummary}
use Rattle.adorned.proofs.Unique.{told_same}
use Rattle.tables.proofs.Unique as tables
use Rattle.judging.proofs.Unique as judging
use Rattle.judging.specs.Judged.{edges_of}
use Rattle.reshaping.proofs.Unique as reshaping
use Rattle.reshaping.specs.Reshaped.{reshaped, Reshapes, summarised}
use Rattle.settling.proofs.Settles.{part, Settled, Promises, Walk-settled, both, three, nothing, two_clauses}
use Rattle.silmezga.proofs.Trees.{width_named, read_settled, print_settled}
use Rattle.silmezga.proofs.examine.Reads as examine
use Rattle.silmezga.proofs.look_up.Reads as look_up
use Rattle.silmezga.proofs.look_up_refusal.Reads as look-up-refusal
use Rattle.silmezga.specs.contracts.adorn as adorn-call
use Rattle.silmezga.proofs.judge.Reads as judge-call
use Rattle.silmezga.proofs.reshape.Reads as reshape
use Rattle.silmezga.proofs.summarise.Reads as summarise
use Rattle.silmezga.proofs.widen_table.Reads as widen-table
use Rattle.silmezga.proofs.narrow_table.Reads as narrow-table
use Rattle.silmezga.proofs.widen_shape.Reads as widen-shape
use Rattle.silmezga.proofs.narrow_shape.Reads as narrow-shape
use Rattle.silmezga.proofs.convert_labels.Reads as convert-labels
use Rattle.silmezga.proofs.read_tree.Reads as read-tree
use Rattle.silmezga.proofs.print_tree.Reads as print-tree

-- ---- examining and looking up
pub examine_settled : Settled examine.Asked examine.Learnt (λ κs r e. r)
examine_settled = ((λ κs a. tt), λ κs a r s e f. tables.examine_unique (format_of a.0) a.1.0.now r s)

-- the same bytes at the same place of the caller's table
pub look_up_settled : Settled look_up.Asked look_up.Learnt (λ κs p e. part p)
look_up_settled = ((λ κs a. tt), λ κs a p o e f x y. both (tables.look_up_unique (format_of a.0) a.1.0 a.1.1.0 p o x y))

pub look_up_refusal_settled : Settled look-up-refusal.Asked look-up-refusal.Learnt (λ κs r e. r)
look_up_refusal_settled = ((λ κs a. tt), λ κs a r s e f. tables.look_up_refusal_unique (format_of a.0) a.1.0.now a.1.1.0 r s)

-- ---- adorning: the answer, and every lent summary after it
adorn_unique : (f : Format) (t : List ℕ) (before after₁ after₂ : List TypeSummary) (a b : Result ℕ Refusal)
    → adorned_types a ≡ (adorn f t (map told before)).reply → adorned_types b ≡ (adorn f t (map told before)).reply
    → map told after₁ ≡ (adorn f t (map told before)).summaries → map told after₂ ≡ (adorn f t (map told before)).summaries
    → (a ≡ b) × (after₁ ≡ after₂)
adorn_unique f t before after₁ after₂ a b ea eb la lb =
    (count_same a b (ea ∙ sym eb), told_same after₁ after₂ (la ∙ sym lb))

pub adorn_settled : Walk-settled adorn-call.ended (λ M 𝓤 𝓛. adorn-call.clauses 𝓛) {X = Result ℕ Refusal × List TypeSummary} (λ κs r e. (r, e.1.1.0.now))
adorn_settled = (
  (λ M 𝓤 𝓛 mem run κs a g. nothing 𝓤),
  λ M 𝓤 𝓛 mem run κs a g r s e f. two_clauses 𝓤 _ _ _ _ (λ x₀ x₁ y₀ y₁.
      both (adorn_unique (format_of a.0) a.1.0.now a.1.1.0.now e.1.1.0.now f.1.1.0.now r s x₀ y₀ x₁ y₁)),
)

-- ---- judging and reshaping
pub judge_settled : Settled judge-call.Asked judge-call.Learnt (λ κs r e. r)
judge_settled = ((λ κs a. tt), λ κs a r s e f. judging.judge_unique (format_of a.0) a.1.0.now a.1.1.0.now r s)

-- where judging is accepted, the numbers of each edge agree with rows and verdict
pub judge_edges_agree : Promises judge-call.Learnt (λ κs a r e. IfOk r (λ j. EdgesAgree (format_of a.0) a.1.0.now a.1.1.0.now (edges_of j)))
judge_edges_agree κs a (Ok j) e x = judging.edges_agree (format_of a.0) a.1.0.now a.1.1.0.now j x
judge_edges_agree κs a (Err d) e x = tt

-- the answer, and every lent byte and place after it
pub reshape_settled : Settled {X = Result ℕ Refusal × (List ℕ × List ℕ)} reshape.Asked reshape.Learnt (λ κs r e. (r, (e.1.1.1.0.now, e.1.1.1.1.0.now)))
reshape_settled = ((λ κs a. tt), λ κs a r s e f x y. three (reshaping.reshape_unique {a = r} x {b = s} y))

-- what the call leaves keeps the whole promise, each of its parts
pub reshape_promises : Promises reshape.Learnt (λ κs a r e.
    Reshapes (format_of a.0) a.1.0.now a.1.1.0.now a.1.1.1.0.now a.1.1.1.1.0.now (reshaped r)
    e.1.1.1.0.now e.1.1.1.1.0.now)
reshape_promises κs a r e x = x

-- demand 3: where the reshape is accepted and the verdict on the same table and shape is 0, what the call leaves keeps the links
pub reshape_keeps_links : Promises reshape.Learnt (λ κs a r e. IfOk r (λ lines.
    (judge (format_of a.0) a.1.0.now a.1.1.0.now).rest.verdict ≡ kept
    → LinksKept (format_of a.0) a.1.0.now a.1.1.0.now
    (take (lines * row_bytes (format_of a.0)) e.1.1.1.0.now) (take lines e.1.1.1.1.0.now)))
reshape_keeps_links κs a r e x = if_ok r _ (reshaping.links_promised x)

pub summarise_settled : Settled summarise.Asked summarise.Learnt (λ κs r e. r)
summarise_settled = ((λ κs a. tt), λ κs a r s e f. reshaping.summarise_unique (format_of a.0) a.1.0.now a.1.1.0.now r s)

-- the figures of each entry agree: its different rows are no more than its lines, nor than the rows of its type, and its other lines are copies
pub summarise_agrees : Promises summarise.Learnt (λ κs a r e. (n : ℕ) → FiguresAgree (summarised r).rest n)
summarise_agrees κs a r e x = reshaping.figures_agree (format_of a.0) a.1.0.now a.1.1.0.now (summarised r) x

-- where the verdict on the same table and shape is 0, every row of an entry's type is shown
pub summarise-shows-all : Promises summarise.Learnt (λ κs a r e.
    (judge (format_of a.0) a.1.0.now a.1.1.0.now).rest.verdict ≡ kept → (summarised r).rest.different ≡ (summarised r).rest.rows)
summarise-shows-all κs a r e x = reshaping.all_shown (format_of a.0) a.1.0.now a.1.1.0.now (summarised r) x

-- ---- widening and narrowing: the answer, and every lent byte after it
moved_settled : (m : Widths.Moved) (r s : Result ℕ Refusal) (new₁ new₂ : List ℕ) → Moves m (counted r) new₁ → Moves m (counted s) new₂
    → ◌≡◌ {A = Result ℕ Refusal × List ℕ} (r, new₁) (s, new₂)
moved_settled m r s new₁ new₂ x y = both (moves_unique m r s new₁ new₂ x y)

pub widen_table_settled : Settled {X = Result ℕ Refusal × List ℕ} widen-table.Asked widen-table.Learnt (λ κs r e. (r, e.1.0.now))
widen_table_settled = ((λ κs a. tt), λ κs a r s e f. moved_settled _ r s _ _)

pub narrow_table_settled : Settled {X = Result ℕ Refusal × List ℕ} narrow-table.Asked narrow-table.Learnt (λ κs r e. (r, e.1.0.now))
narrow_table_settled = ((λ κs a. tt), λ κs a r s e f. moved_settled _ r s _ _)

pub widen_shape_settled : Settled {X = Result ℕ Refusal × List ℕ} widen-shape.Asked widen-shape.Learnt (λ κs r e. (r, e.1.0.now))
widen_shape_settled = ((λ κs a. tt), λ κs a r s e f. moved_settled _ r s _ _)

pub narrow_shape_settled : Settled {X = Result ℕ Refusal × List ℕ} narrow-shape.Asked narrow-shape.Learnt (λ κs r e. (r, e.1.0.now))
narrow_shape_settled = ((λ κs a. tt), λ κs a r s e f. moved_settled _ r s _ _)

-- ---- converting labels: the answer, and every byte lent for the table and for the shape after it
pub convert_labels_settled : Settled {X = Result Converted Refusal × (List ℕ × List ℕ)} convert-labels.Asked convert-labels.Learnt
    (λ κs r e. (r, (e.1.1.1.1.0.now, e.1.1.1.1.1.0.now)))
convert_labels_settled = ((λ κs a. tt), λ κs a r s e f x y. three (converts_unique _ r s _ _ _ _ x y))

-- What an accepted call leaves is an accepted conversion, of which the theorems on one are (paper's ConvertedCalls).
pub convert-labels-leaves : Promises convert-labels.Learnt (λ κs a r e. IfOk r (λ c.
    converting (format_of a.0) a.1.0.now a.1.1.0.now (pairs a.1.1.1.0.now)
    (length a.1.1.1.1.0.now) (length a.1.1.1.1.1.0.now)
    ≡ given (
      record { rows = c.rows; entries = c.entries },
      take (length a.1.0.now) e.1.1.1.1.0.now,
      take (length a.1.1.0.now) e.1.1.1.1.1.0.now,
    )))
convert-labels-leaves κs a (Ok c) e x = converts_left (format_of a.0) (format_served _ a.0 refl).small _ _ _ _ _ (converted (Ok c)) _ _ x refl
convert-labels-leaves κs a (Err d) e x = tt

-- ---- typed trees: the answer, and every byte lent for the shape or the line after it
pub read_tree_settled : Settled {X = Result ℕ Refusal × List ℕ} read-tree.Asked read-tree.Learnt (λ κs r e. (r, e.1.1.1.0.now))
read_tree_settled = ((λ κs a. tt), λ κs a r s e f. read_settled (format_of a.0) (width_named a.0) _ _ _ r s _ _)

pub print_tree_settled : Settled {X = Result ℕ Refusal × List ℕ} print-tree.Asked print-tree.Learnt (λ κs r e. (r, e.1.1.0.now))
print_tree_settled = ((λ κs a. tt), λ κs a r s e f. print_settled _ r s _ _)
