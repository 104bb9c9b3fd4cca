-- The contract of each exported call, as this crate's source has it, says what that of Rattle's call says, at the width that the number names: of the
-- numbers that tell an answer it says what Rattle's says of that answer (`Says-told`), and whatever numbers it allows tell some answer that Rattle's
-- allows (`Tells`). A contract that says another thing is refused here, also where it settles its answer. Assumes nothing.
use Prim.Native.Nat.{ℕ}
use mathlib.Core.Path.{◌≡◌, refl, sym, ◌∙◌, subst}
use mathlib.Core.List.{List, map}
use base.Logic.{SProp, ent, sep, id⊢}
use contract.Monad.{fact}
use Rattle.paper.specs.Calls.{Reply, summarise}
use Rattle.paper.specs.Calls as Calls
use Rattle.paper.specs.Figures.{Figures, no_figures}
use Rattle.paper.specs.Labels as Labels
use Rattle.paper.specs.Widths as Widths
use Rattle.paper.specs.declared.Width.{Width}
use Rattle.paper.specs.declared.refusal.Refusal.{Refusal}
use Rattle.paper.specs.Refusals.{counted}
use Rattle.std.specs.Prelude.{Result}
use Rattle.tables.specs.Reply.{examined}
use Rattle.adorned.specs.Lent.{told, adorned_types}
use Rattle.widths.specs.Answers.{Moves}
use Rattle.labels.specs.Answers.{counts_of, converted}
use Rattle.labels.specs.declared.convert.Converted.{Converted}
use Rattle.typed.specs.Read.{ReadsTree, reading_of}
use Rattle.indexes.specs.Built.{built, Builds}
use Rattle.reshaping.specs.Reshaped.{reshaped, figures_of, summarised, Reshapes, ReshapesWith}
use Rattle.reshaping.specs.declared.summarise.Summary.{Summary}
use Rattle.settling.proofs.Settles.{Says-told, Tells, tells_so, Walk-says-told, Walk-tells, first_clause}
use Rattle.silmezga.proofs.examine.Reads as examine'
use Rattle.silmezga.specs.contracts.adorn as adorn'
use Rattle.silmezga.proofs.judge.Reads as judge'
use Rattle.silmezga.proofs.reshape.Reads as reshape'
use Rattle.silmezga.proofs.summarise.Reads as summarise'
use Rattle.silmezga.proofs.widen_table.Reads as widen-table'
use Rattle.silmezga.proofs.narrow_table.Reads as narrow-table'
use Rattle.silmezga.proofs.widen_shape.Reads as widen-shape'
use Rattle.silmezga.proofs.narrow_shape.Reads as narrow-shape'
use Rattle.silmezga.proofs.convert_labels.Reads as convert-labels'
use Rattle.silmezga.proofs.read_tree.Reads as read-tree'
use Rattle.silmezga.proofs.print_tree.Reads as print-tree'
use Rattle.silmezga.proofs.build_index.Reads as build-index'
use Rattle.silmezga.proofs.judge_with_index.Reads as judge-with-index'
use Rattle.silmezga.proofs.reshape_with_index.Reads as reshape-with-index'
use Rattle.silmezga.proofs.summarise_with_index.Reads as summarise-with-index'
use Rattle.silmezga_c.specs.Told.{width_of, format_numbered, in_four}
use Rattle.silmezga_c.specs.Numbers.{told_count, told_converted, told_summary, judged_numbers}
use Rattle.silmezga_c.specs.declared.answers.Counted.{Counted}
use Rattle.silmezga_c.proofs.Named.{NamedReply, told_so, examine_named, adorn_named, summarise_named, summarise_with_named, reshape_named}
use Rattle.silmezga_c.proofs.Named.{reshape_with_named, move_table_named, move_shape_named, convert_named, read_tree_named, print_tree_named}
use Rattle.silmezga_c.proofs.Named.{build_index_named, judge_told, judge_with_told}
use Rattle.silmezga_c.proofs.silmezga_examine.Reads as examine
use Rattle.silmezga_c.specs.contracts.silmezga_adorn as adorn
use Rattle.silmezga_c.proofs.silmezga_judge.Reads as judge
use Rattle.silmezga_c.proofs.silmezga_reshape.Reads as reshape
use Rattle.silmezga_c.proofs.silmezga_summarise.Reads as summarise-call
use Rattle.silmezga_c.proofs.silmezga_widen_table.Reads as widen-table
use Rattle.silmezga_c.proofs.silmezga_narrow_table.Reads as narrow-table
use Rattle.silmezga_c.proofs.silmezga_widen_shape.Reads as widen-shape
use Rattle.silmezga_c.proofs.silmezga_narrow_shape.Reads as narrow-shape
use Rattle.silmezga_c.proofs.silmezga_convert_labels.Reads as convert-labels
use Rattle.silmezga_c.proofs.silmezga_read_tree.Reads as read-tree
use Rattle.silmezga_c.proofs.silmezga_print_tree.Reads as print-tree
use Rattle.silmezga_c.proofs.silmezga_build_index.Reads as build-index
use Rattle.silmezga_c.proofs.silmezga_judge_with_index.Reads as judge-with-index
use Rattle.silmezga_c.proofs.silmezga_reshape_with_index.Reads as reshape-with-index
use Rattle.silmezga_c.proofs.silmezga_summarise_with_index.Reads as summarise-with-index

-- the arguments of a call, or what it has of them at exit, as Rattle's call has them: a caller in C names the width by a number
abbrev pub wide : {X : Type 0} → ℕ × X → Width × X
wide a = (width_of a.0, a.1)

-- where no width is named
abbrev pub same : {X : Type 0} → X → X
same a = a

-- an answer that a count tells, where what it tells is a reply whose refusal has a name
counts : (r : Counted) (x : Reply ℕ) → told_count r ≡ x → NamedReply 0 x → (j : Result ℕ Refusal) × (told_count r ≡ counted j)
counts r x e n = (n.0, e ∙ n.1)

-- a summary has the figures, and a pair of counts the counts
summary_of : (b : Figures) → (a : Summary) × (figures_of a ≡ b)
summary_of b = (record { lines = b.lines; rows = b.rows; copies = b.copies; different = b.different }, refl)

converted_of : (b : Labels.Converted) → (a : Converted) × (counts_of a ≡ b)
converted_of b = (record { rows = b.rows; entries = b.entries }, refl)

-- ---- examining and adorning
pub examine_says : Says-told wide wide told_count examined examine.Learnt examine'.Learnt
examine_says κs a r j e u x = sym u ∙ x

pub examine_tells : Tells wide wide told_count examined examine.Learnt examine'.Learnt
examine_tells = tells_so wide wide told_count examined examine.Learnt examine'.Learnt examine_says
    (λ κs a r e x. counts r _ x (examine_named (format_numbered a.0) a.1.0.now))

pub adorn_says : Walk-says-told adorn.ended adorn'.ended (λ M 𝓤 𝓛. adorn.clauses 𝓛) (λ M 𝓤 𝓛. adorn'.clauses 𝓛) (λ κs. κs) (λ κs. wide) (λ κs. wide)
    (λ κs. told_count) (λ κs. adorned_types)
adorn_says M 𝓤 𝓛 mem run κs a g r j e u =
    let asked = Calls.adorn (format_numbered a.0) a.1.0.now (map told a.1.1.0.now) in
    let left : SProp 𝓤 = fact 𝓤 (map told e.1.1.0.now ≡ asked.summaries) in
    let says : Reply ℕ → SProp 𝓤 = λ y. sep 𝓤 (fact 𝓤 (y ≡ asked.reply)) left in
    (g, subst (λ y. ent 𝓤 (says (told_count r)) (says y)) u (id⊢ 𝓤 (says (told_count r))))

pub adorn_tells : Walk-tells adorn.ended adorn'.ended (λ M 𝓤 𝓛. adorn.clauses 𝓛) (λ M 𝓤 𝓛. adorn'.clauses 𝓛) (λ κs. κs) (λ κs. wide) (λ κs. wide)
    (λ κs. told_count) (λ κs. adorned_types)
adorn_tells M 𝓤 𝓛 mem run κs a g r e =
    first_clause 𝓤 _ _ (λ x. counts r _ x (adorn_named (format_numbered a.0) a.1.0.now (map told a.1.1.0.now)))

-- ---- judging
pub judge_tells : Tells wide wide in_four judged_numbers judge.Learnt judge'.Learnt
judge_tells κs a r e = judge_told (format_numbered a.0) a.1.0.now a.1.1.0.now r

pub judge_with_index_tells : Tells wide wide in_four judged_numbers judge-with-index.Learnt judge-with-index'.Learnt
judge_with_index_tells κs a r e = judge_with_told (format_numbered a.0) a.1.0.now a.1.1.0.now a.1.1.1.0.now a.1.1.1.1.0.now r

-- ---- reshaping and summarising
pub reshape_says : Says-told wide wide told_count reshaped reshape.Learnt reshape'.Learnt
reshape_says κs a r j e u =
    subst (λ (y : Reply ℕ). Reshapes (format_numbered a.0) a.1.0.now a.1.1.0.now a.1.1.1.0.now a.1.1.1.1.0.now y e.1.1.1.0.now e.1.1.1.1.0.now) u

pub reshape_tells : Tells wide wide told_count reshaped reshape.Learnt reshape'.Learnt
reshape_tells = tells_so wide wide told_count reshaped reshape.Learnt reshape'.Learnt reshape_says
    (λ κs a r e x. counts r _ x.answer (reshape_named (format_numbered a.0) a.1.0.now a.1.1.0.now a.1.1.1.0.now a.1.1.1.1.0.now))

pub summarise_says : Says-told wide wide told_summary summarised summarise-call.Learnt summarise'.Learnt
summarise_says κs a r j e u x = sym u ∙ x

pub summarise_tells : Tells wide wide told_summary summarised summarise-call.Learnt summarise'.Learnt
summarise_tells = tells_so wide wide told_summary summarised summarise-call.Learnt summarise'.Learnt summarise_says
    (λ κs a r e x. (
    let f = format_numbered a.0 in
    let (j, u) = told_so no_figures figures_of summary_of (summarise f a.1.0.now a.1.1.0.now) (summarise_named f a.1.0.now a.1.1.0.now) in
    (j, x ∙ u)))

-- ---- widening and narrowing
moves_says : (m : Widths.Moved) (r : Counted) (j : Result ℕ Refusal) (new : List ℕ) → told_count r ≡ counted j
    → Moves m (told_count r) new → Moves m (counted j) new
moves_says m r j new u x = (sym u ∙ x.0, x.1)

pub widen_table_says : Says-told same same told_count counted widen-table.Learnt widen-table'.Learnt
widen_table_says κs a r j e = moves_says _ r j _

pub widen_table_tells : Tells same same told_count counted widen-table.Learnt widen-table'.Learnt
widen_table_tells = tells_so same same told_count counted widen-table.Learnt widen-table'.Learnt widen_table_says
    (λ κs a r e x. counts r _ x.0 (move_table_named _ _ _ _))

pub narrow_table_says : Says-told same same told_count counted narrow-table.Learnt narrow-table'.Learnt
narrow_table_says κs a r j e = moves_says _ r j _

pub narrow_table_tells : Tells same same told_count counted narrow-table.Learnt narrow-table'.Learnt
narrow_table_tells = tells_so same same told_count counted narrow-table.Learnt narrow-table'.Learnt narrow_table_says
    (λ κs a r e x. counts r _ x.0 (move_table_named _ _ _ _))

pub widen_shape_says : Says-told same same told_count counted widen-shape.Learnt widen-shape'.Learnt
widen_shape_says κs a r j e = moves_says _ r j _

pub widen_shape_tells : Tells same same told_count counted widen-shape.Learnt widen-shape'.Learnt
widen_shape_tells = tells_so same same told_count counted widen-shape.Learnt widen-shape'.Learnt widen_shape_says
    (λ κs a r e x. counts r _ x.0 (move_shape_named _ _ _ _))

pub narrow_shape_says : Says-told same same told_count counted narrow-shape.Learnt narrow-shape'.Learnt
narrow_shape_says κs a r j e = moves_says _ r j _

pub narrow_shape_tells : Tells same same told_count counted narrow-shape.Learnt narrow-shape'.Learnt
narrow_shape_tells = tells_so same same told_count counted narrow-shape.Learnt narrow-shape'.Learnt narrow_shape_says
    (λ κs a r e x. counts r _ x.0 (move_shape_named _ _ _ _))

-- ---- converting labels
pub convert_labels_says : Says-told wide wide told_converted converted convert-labels.Learnt convert-labels'.Learnt
convert_labels_says κs a r j e u x = (sym u ∙ x.0, x.1, x.2)

pub convert_labels_tells : Tells wide wide told_converted converted convert-labels.Learnt convert-labels'.Learnt
convert_labels_tells = tells_so wide wide told_converted converted convert-labels.Learnt convert-labels'.Learnt convert_labels_says
    (λ κs a r e x. (
    let n = convert_named (format_numbered a.0) a.1.0.now a.1.1.0.now a.1.1.1.0.now a.1.1.1.1.0.now a.1.1.1.1.1.0.now in
    let (j, u) = told_so Labels.none_converted counts_of converted_of _ n in
    (j, x.0 ∙ u)))

-- ---- typed trees
pub read_tree_says : Says-told wide wide told_count counted read-tree.Learnt read-tree'.Learnt
read_tree_says κs a r j e u =
    subst (λ (y : Reply ℕ). ReadsTree (format_numbered a.0) a.1.0.now a.1.1.0.now a.1.1.1.0.now y e.1.1.1.0.now) u

pub read_tree_tells : Tells wide wide told_count counted read-tree.Learnt read-tree'.Learnt
read_tree_tells = tells_so wide wide told_count counted read-tree.Learnt read-tree'.Learnt read_tree_says
    (λ κs a r e x. read_tree_named (format_numbered a.0) a.1.0.now a.1.1.0.now a.1.1.1.0.now (reading_of (told_count r) e.1.1.1.0.now) x)

pub print_tree_says : Says-told wide wide told_count counted print-tree.Learnt print-tree'.Learnt
print_tree_says κs a r j e u x = (sym u ∙ x.0, x.1)

pub print_tree_tells : Tells wide wide told_count counted print-tree.Learnt print-tree'.Learnt
print_tree_tells = tells_so wide wide told_count counted print-tree.Learnt print-tree'.Learnt print_tree_says
    (λ κs a r e x. counts r _ x.0 (print_tree_named (format_numbered a.0) a.1.0.now a.1.1.0.now))

-- ---- with an index
pub build_index_says : Says-told wide wide told_count built build-index.Learnt build-index'.Learnt
build_index_says κs a r j e u =
    subst (λ (y : Reply ℕ). Builds (format_numbered a.0) a.1.0.now a.1.1.0.now a.1.1.1.0.now y e.1.1.0.now e.1.1.1.0.now) u

pub build_index_tells : Tells wide wide told_count built build-index.Learnt build-index'.Learnt
build_index_tells = tells_so wide wide told_count built build-index.Learnt build-index'.Learnt build_index_says
    (λ κs a r e x. counts r _ x.answer (build_index_named (format_numbered a.0) a.1.0.now a.1.1.0.now a.1.1.1.0.now))

pub reshape_with_index_says : Says-told wide wide told_count reshaped reshape-with-index.Learnt reshape-with-index'.Learnt
reshape_with_index_says κs a r j e u =
    subst (λ (y : Reply ℕ). ReshapesWith (format_numbered a.0) a.1.0.now a.1.1.0.now a.1.1.1.0.now a.1.1.1.1.0.now a.1.1.1.1.1.0.now a.1.1.1.1.1.1.0.now y
    e.1.1.1.1.1.0.now e.1.1.1.1.1.1.0.now) u

pub reshape_with_index_tells : Tells wide wide told_count reshaped reshape-with-index.Learnt reshape-with-index'.Learnt
reshape_with_index_tells = tells_so wide wide told_count reshaped reshape-with-index.Learnt reshape-with-index'.Learnt reshape_with_index_says
    (λ κs a r e x. counts r _ x.answer (reshape_with_named (format_numbered a.0) a.1.0.now a.1.1.0.now a.1.1.1.0.now a.1.1.1.1.0.now
    a.1.1.1.1.1.0.now a.1.1.1.1.1.1.0.now))

pub summarise_with_index_says : Says-told wide wide told_summary summarised summarise-with-index.Learnt summarise-with-index'.Learnt
summarise_with_index_says κs a r j e u x = sym u ∙ x

pub summarise_with_index_tells : Tells wide wide told_summary summarised summarise-with-index.Learnt summarise-with-index'.Learnt
summarise_with_index_tells = tells_so wide wide told_summary summarised summarise-with-index.Learnt summarise-with-index'.Learnt summarise_with_index_says
    (λ κs a r e x. (
    let n = summarise_with_named (format_numbered a.0) a.1.0.now a.1.1.0.now a.1.1.1.0.now a.1.1.1.1.0.now in
    let (j, u) = told_so no_figures figures_of summary_of _ n in
    (j, x ∙ u)))
