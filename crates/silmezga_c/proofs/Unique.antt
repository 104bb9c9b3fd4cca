-- The contract of each exported call, as this crate's source has it, asks nothing, settles what a caller sees, and has each property that is proved of
-- Rattle's call, at the width that the number names: it says what Rattle's says (`Says`), so that what is proved of Rattle's is carried over. A clause
-- taken away or weakened is refused here, or there. Assumes nothing.
use Prim.Native.Nat.{ℕ, ◌*◌}
use mathlib.Core.Path.{◌≡◌, refl, sym, ◌∙◌, ap, subst}
use mathlib.Core.List.{List, map}
use lib.ListN.{length, take}
use Rattle.paper.specs.Format.{Format, row_bytes}
use Rattle.paper.specs.Verdict.{kept}
use Rattle.paper.specs.Calls.{Reply, given, adorn, judge, summarise}
use Rattle.paper.specs.Tables.{Row}
use Rattle.paper.specs.Labels.{pairs, converting}
use Rattle.paper.specs.Links.{LinksKept}
use Rattle.paper.specs.Shown.{FiguresAgree}
use Rattle.paper.specs.Edges.{EdgesAgree}
use Rattle.paper.specs.Index.{tests_index}
use Rattle.paper.proofs.Edges.{judge_agrees}
use Rattle.paper.proofs.Index.{index_reads}
use Rattle.paper.proofs.WithIndex.{judge-plain}
use Rattle.octets.proofs.Laws.{format_served}
use Rattle.labels.specs.Answers.{converted}
use Rattle.labels.proofs.Unique.{converts_left}
use Rattle.adorned.specs.Told.{told}
use Rattle.adorned.specs.declared.TypeSummary.{TypeSummary}
use Rattle.adorned.proofs.Unique.{told_same}
use Rattle.reshaping.specs.Reshaped.{reshaped, summarised, Reshapes}
use Rattle.reshaping.proofs.Unique as reshaping
use Rattle.settling.proofs.Settles.{Settled, Promises, Walk-settled, both, nothing, two_clauses, Holds-told, settled_told, answer_told, holds_told}
use Rattle.silmezga_c.specs.Told.{width_of, format_numbered, InFour, edges_told, in_four, four_numbers}
use Rattle.silmezga_c.specs.Numbers.{told_count, told_converted, told_summary, judged_numbers}
use Rattle.silmezga_c.specs.declared.answers.Counted.{Counted}
use Rattle.silmezga_c.specs.declared.answers.ConvertedNumbers.{ConvertedNumbers}
use Rattle.paper.specs.Refusals.{counted}
use Rattle.tables.specs.Reply.{examined}
use Rattle.indexes.specs.Built.{built}
use Rattle.silmezga.proofs.Unique as rattle
use Rattle.silmezga.proofs.Indexed as indexed
use Rattle.silmezga_c.proofs.Says.{wide, same, examine_tells, judge_tells, judge_with_index_tells, reshape_says, reshape_tells, summarise_says, summarise_tells}
use Rattle.silmezga_c.proofs.Says.{widen_table_tells, narrow_table_tells, widen_shape_tells, narrow_shape_tells, convert_labels_says, convert_labels_tells}
use Rattle.silmezga_c.proofs.Says.{read_tree_tells, print_tree_tells, build_index_tells, reshape_with_index_says, reshape_with_index_tells}
use Rattle.silmezga_c.proofs.Says.{summarise_with_index_says, summarise_with_index_tells}
use Rattle.silmezga_c.proofs.Told.{look_up_unique, count_told, converted_told, summary_told, judged-same}
use Rattle.silmezga_c.proofs.silmezga_examine.Reads as examine
use Rattle.silmezga_c.proofs.silmezga_look_up.Reads as look_up
use Rattle.silmezga_c.specs.contracts.silmezga_adorn as adorn-call
use Rattle.silmezga_c.proofs.silmezga_judge.Reads as judge-call
use Rattle.silmezga_c.proofs.silmezga_reshape.Reads as reshape
use Rattle.silmezga_c.proofs.silmezga_summarise.Reads as summarise-call
use Rattle.silmezga_c.proofs.silmezga_widen_table.Reads as widen-table
use Rattle.silmezga_c.proofs.silmezga_narrow_table.Reads as narrow-table
use Rattle.silmezga_c.proofs.silmezga_widen_shape.Reads as widen-shape
use Rattle.silmezga_c.proofs.silmezga_narrow_shape.Reads as narrow-shape
use Rattle.silmezga_c.proofs.silmezga_convert_labels.Reads as convert-labels
use Rattle.silmezga_c.proofs.silmezga_read_tree.Reads as read-tree
use Rattle.silmezga_c.proofs.silmezga_print_tree.Reads as print-tree
use Rattle.silmezga_c.proofs.silmezga_build_index.Reads as build-index
use Rattle.silmezga_c.proofs.silmezga_judge_with_index.Reads as judge-with-index
use Rattle.silmezga_c.proofs.silmezga_reshape_with_index.Reads as reshape-with-index
use Rattle.silmezga_c.proofs.silmezga_summarise_with_index.Reads as summarise-with-index

-- ---- examining and looking up
pub examine_settled : Settled examine.Asked examine.Learnt (λ κs r e. r)
examine_settled = answer_told wide wide told_count examined examine.Learnt count_told rattle.examine_settled (λ κs a. tt) examine_tells

pub look_up_settled : Settled look_up.Asked look_up.Learnt (λ κs r e. r)
look_up_settled = ((λ κs a. tt), λ κs a r s e f x y. look_up_unique x y)

-- ---- adorning: the answer, and every lent summary after it
adorn_unique : (f : Format) (t : List ℕ) (before after₁ after₂ : List TypeSummary) (a b : Counted)
    → told_count a ≡ (adorn f t (map told before)).reply → told_count b ≡ (adorn f t (map told before)).reply
    → map told after₁ ≡ (adorn f t (map told before)).summaries → map told after₂ ≡ (adorn f t (map told before)).summaries
    → (a ≡ b) × (after₁ ≡ after₂)
adorn_unique f t before after₁ after₂ a b ea eb la lb = (count_told a b (ea ∙ sym eb), told_same after₁ after₂ (la ∙ sym lb))

pub adorn_settled : Walk-settled adorn-call.ended (λ M 𝓤 𝓛. adorn-call.clauses 𝓛) {X = Counted × List TypeSummary} (λ κs r e. (r, e.1.1.0.now))
adorn_settled = (
  (λ M 𝓤 𝓛 mem run κs a g. nothing 𝓤),
  λ M 𝓤 𝓛 mem run κs a g r s e f. two_clauses 𝓤 _ _ _ _ (λ x₀ x₁ y₀ y₁.
      both (adorn_unique (format_numbered a.0) a.1.0.now a.1.1.0.now e.1.1.0.now f.1.1.0.now r s x₀ y₀ x₁ y₁)),
)

-- ---- judging
pub judge_settled : Settled judge-call.Asked judge-call.Learnt (λ κs r e. r)
judge_settled = answer_told wide wide in_four judged_numbers judge-call.Learnt judged-same rattle.judge_settled (λ κs a. tt) judge_tells

-- where judging is accepted, the numbers of each edge agree with rows and verdict
pub judge_edges_agree : Promises judge-call.Learnt
    (λ κs a r e. r.number ≡ 0 → EdgesAgree (format_numbered a.0) a.1.0.now a.1.1.0.now (edges_told r))
judge_edges_agree κs a r e x accepted =
    subst (EdgesAgree (format_numbered a.0) a.1.0.now a.1.1.0.now) (sym (ap (λ (y : Reply InFour). y.rest.edges) x))
    (judge_agrees (format_numbered a.0) a.1.0.now a.1.1.0.now (sym (ap (λ (y : Reply InFour). y.number) x) ∙ accepted))

-- ---- reshaping: the answer, and every lent byte and place after it
pub reshape_settled : Settled {X = Counted × (List ℕ × List ℕ)} reshape.Asked reshape.Learnt (λ κs r e. (r, (e.1.1.1.0.now, e.1.1.1.1.0.now)))
reshape_settled = settled_told wide wide told_count reshaped reshape.Learnt count_told rattle.reshape_settled (λ κs a. tt) reshape_tells

-- what the call leaves keeps the whole promise, each of its parts
pub reshape_promises : Promises reshape.Learnt (λ κs a r e.
    Reshapes (format_numbered a.0) a.1.0.now a.1.1.0.now a.1.1.1.0.now a.1.1.1.1.0.now (told_count r)
    e.1.1.1.0.now e.1.1.1.1.0.now)
reshape_promises κs a r e x = x

pub reshape_promises_told : Holds-told wide wide told_count reshaped reshape.Learnt rattle.reshape_promises
reshape_promises_told = holds_told wide wide told_count reshaped reshape.Learnt rattle.reshape_promises reshape_says

-- demand 3: where the reshape is accepted and the verdict on the same table and shape is 0, what the call leaves keeps the links
pub reshape_keeps_links : Promises reshape.Learnt (λ κs a r e. r.number ≡ 0
    → (judge (format_numbered a.0) a.1.0.now a.1.1.0.now).rest.verdict ≡ kept
    → LinksKept (format_numbered a.0) a.1.0.now a.1.1.0.now
    (take (r.count * row_bytes (format_numbered a.0)) e.1.1.1.0.now) (take r.count e.1.1.1.1.0.now))
reshape_keeps_links κs a r e x = reshaping.links_promised x

pub reshape_keeps_links_told : Holds-told wide wide told_count reshaped reshape.Learnt rattle.reshape_keeps_links
reshape_keeps_links_told = holds_told wide wide told_count reshaped reshape.Learnt rattle.reshape_keeps_links reshape_says

-- ---- summarising
pub summarise_settled : Settled summarise-call.Asked summarise-call.Learnt (λ κs r e. r)
summarise_settled = answer_told wide wide told_summary summarised summarise-call.Learnt summary_told rattle.summarise_settled (λ κs a. tt) summarise_tells

-- the figures of each entry agree: its different rows are no more than its lines, nor than the rows of its type, and its other lines are copies
pub summarise_agrees : Promises summarise-call.Learnt (λ κs a r e. (n : ℕ) → FiguresAgree (told_summary r).rest n)
summarise_agrees κs a r e x = reshaping.figures_agree (format_numbered a.0) a.1.0.now a.1.1.0.now (told_summary r) x

pub summarise_agrees_told : Holds-told wide wide told_summary summarised summarise-call.Learnt rattle.summarise_agrees
summarise_agrees_told = holds_told wide wide told_summary summarised summarise-call.Learnt rattle.summarise_agrees summarise_says

-- where the verdict on the same table and shape is 0, every row of an entry's type is shown
pub summarise-shows-all : Promises summarise-call.Learnt (λ κs a r e.
    (judge (format_numbered a.0) a.1.0.now a.1.1.0.now).rest.verdict ≡ kept → r.different ≡ r.rows)
summarise-shows-all κs a r e x = reshaping.all_shown (format_numbered a.0) a.1.0.now a.1.1.0.now (told_summary r) x

pub summarise-shows-all-told : Holds-told wide wide told_summary summarised summarise-call.Learnt rattle.summarise-shows-all
summarise-shows-all-told = holds_told wide wide told_summary summarised summarise-call.Learnt rattle.summarise-shows-all summarise_says

-- ---- widening and narrowing: the answer, and every lent byte after it
pub widen_table_settled : Settled {X = Counted × List ℕ} widen-table.Asked widen-table.Learnt (λ κs r e. (r, e.1.0.now))
widen_table_settled = settled_told same same told_count counted widen-table.Learnt count_told rattle.widen_table_settled (λ κs a. tt) widen_table_tells

pub narrow_table_settled : Settled {X = Counted × List ℕ} narrow-table.Asked narrow-table.Learnt (λ κs r e. (r, e.1.0.now))
narrow_table_settled = settled_told same same told_count counted narrow-table.Learnt count_told rattle.narrow_table_settled (λ κs a. tt) narrow_table_tells

pub widen_shape_settled : Settled {X = Counted × List ℕ} widen-shape.Asked widen-shape.Learnt (λ κs r e. (r, e.1.0.now))
widen_shape_settled = settled_told same same told_count counted widen-shape.Learnt count_told rattle.widen_shape_settled (λ κs a. tt) widen_shape_tells

pub narrow_shape_settled : Settled {X = Counted × List ℕ} narrow-shape.Asked narrow-shape.Learnt (λ κs r e. (r, e.1.0.now))
narrow_shape_settled = settled_told same same told_count counted narrow-shape.Learnt count_told rattle.narrow_shape_settled (λ κs a. tt) narrow_shape_tells

-- ---- converting labels: the answer, and every byte lent for the table and for the shape after it
pub convert_labels_settled : Settled {X = ConvertedNumbers × (List ℕ × List ℕ)} convert-labels.Asked convert-labels.Learnt
    (λ κs r e. (r, (e.1.1.1.1.0.now, e.1.1.1.1.1.0.now)))
convert_labels_settled =
    settled_told wide wide told_converted converted convert-labels.Learnt converted_told rattle.convert_labels_settled (λ κs a. tt) convert_labels_tells

-- What an accepted call leaves is an accepted conversion, of which the theorems on one are (paper's ConvertedCalls).
pub convert-labels-leaves : Promises convert-labels.Learnt (λ κs a r e. r.number ≡ 0
    → converting (format_numbered a.0) a.1.0.now a.1.1.0.now (pairs a.1.1.1.0.now)
    (length a.1.1.1.1.0.now) (length a.1.1.1.1.1.0.now)
    ≡ given (
      record { rows = r.rows; entries = r.entries },
      take (length a.1.0.now) e.1.1.1.1.0.now,
      take (length a.1.1.0.now) e.1.1.1.1.1.0.now,
    ))
convert-labels-leaves κs a r e x = converts_left (format_numbered a.0) (format_served _ (width_of a.0) refl).small _ _ _ _ _ (told_converted r) _ _ x

pub convert-labels-leaves-told : Holds-told wide wide told_converted converted convert-labels.Learnt rattle.convert-labels-leaves
convert-labels-leaves-told = holds_told wide wide told_converted converted convert-labels.Learnt rattle.convert-labels-leaves convert_labels_says

-- ---- typed trees: the answer, and every byte lent for the shape or the line after it
pub read_tree_settled : Settled {X = Counted × List ℕ} read-tree.Asked read-tree.Learnt (λ κs r e. (r, e.1.1.1.0.now))
read_tree_settled = settled_told wide wide told_count counted read-tree.Learnt count_told rattle.read_tree_settled (λ κs a. tt) read_tree_tells

pub print_tree_settled : Settled {X = Counted × List ℕ} print-tree.Asked print-tree.Learnt (λ κs r e. (r, e.1.1.0.now))
print_tree_settled = settled_told wide wide told_count counted print-tree.Learnt count_told rattle.print_tree_settled (λ κs a. tt) print_tree_tells

-- ---- with an index
pub build_index_settled : Settled {X = Counted × (List ℕ × List ℕ)} build-index.Asked build-index.Learnt (λ κs r e. (r, (e.1.1.0.now, e.1.1.1.0.now)))
build_index_settled = settled_told wide wide told_count built build-index.Learnt count_told indexed.build_index_settled (λ κs a. tt) build_index_tells

pub judge_with_index_settled : Settled judge-with-index.Asked judge-with-index.Learnt (λ κs r e. r)
judge_with_index_settled =
    answer_told wide wide in_four judged_numbers judge-with-index.Learnt judged-same indexed.judge_with_index_settled (λ κs a. tt) judge_with_index_tells

-- where the lists are this table's, it is what judging without an index says
pub judge_with_index_plain : Promises judge-with-index.Learnt (λ κs a r e.
    (rs : List Row) → tests_index (format_numbered a.0) a.1.0.now a.1.1.1.0.now a.1.1.1.1.0.now ≡ given rs
    → in_four r ≡ four_numbers (judge (format_numbered a.0) a.1.0.now a.1.1.0.now))
judge_with_index_plain κs a r e x rs g = x ∙ ap four_numbers (judge-plain _ _ _ _ _ (index_reads _ _ _ _ rs g))

pub reshape_with_index_settled : Settled {X = Counted × (List ℕ × List ℕ)} reshape-with-index.Asked reshape-with-index.Learnt
    (λ κs r e. (r, (e.1.1.1.1.1.0.now, e.1.1.1.1.1.1.0.now)))
reshape_with_index_settled =
    settled_told wide wide told_count reshaped reshape-with-index.Learnt count_told indexed.reshape_with_index_settled (λ κs a. tt) reshape_with_index_tells

-- where the lists are this table's, all that is promised of a reshape without an index holds: demand 3 and the others
pub reshape_with_index_plain : Promises reshape-with-index.Learnt (λ κs a r e.
    (rs : List Row) → tests_index (format_numbered a.0) a.1.0.now a.1.1.1.0.now a.1.1.1.1.0.now ≡ given rs
    → Reshapes (format_numbered a.0) a.1.0.now a.1.1.0.now a.1.1.1.1.1.0.now a.1.1.1.1.1.1.0.now (told_count r)
    e.1.1.1.1.1.0.now e.1.1.1.1.1.1.0.now)
reshape_with_index_plain κs a r e x = reshaping.plain_promised x

pub reshape_with_index_plain_told : Holds-told wide wide told_count reshaped reshape-with-index.Learnt indexed.reshape_with_index_plain
reshape_with_index_plain_told =
    holds_told wide wide told_count reshaped reshape-with-index.Learnt indexed.reshape_with_index_plain reshape_with_index_says

pub summarise_with_index_settled : Settled summarise-with-index.Asked summarise-with-index.Learnt (λ κs r e. r)
summarise_with_index_settled = answer_told wide wide told_summary summarised summarise-with-index.Learnt summary_told
    indexed.summarise_with_index_settled (λ κs a. tt) summarise_with_index_tells

-- where the lists are this table's, it is the summary without an index
pub summarise_with_index_plain : Promises summarise-with-index.Learnt (λ κs a r e.
    (rs : List Row) → tests_index (format_numbered a.0) a.1.0.now a.1.1.1.0.now a.1.1.1.1.0.now ≡ given rs
    → told_summary r ≡ summarise (format_numbered a.0) a.1.0.now a.1.1.0.now)
summarise_with_index_plain κs a r e x = reshaping.summary_as_plain _ _ _ _ _ (told_summary r) x

pub summarise_with_index_plain_told : Holds-told wide wide told_summary summarised summarise-with-index.Learnt indexed.summarise_with_index_plain
summarise_with_index_plain_told =
    holds_told wide wide told_summary summarised summarise-with-index.Learnt indexed.summarise_with_index_plain summarise_with_index_says
