-- Any two answers that a contract allows are equal. Assumes nothing.
use Prim.Native.Nat.{ℕ, ◌*◌, ◌≤◌}
use mathlib.Core.Path.{◌≡◌, sym, ◌∙◌, ap, subst}
use mathlib.Core.Bool.{true}
use mathlib.Core.List.{List}
use lib.ListN.{take}
use Rattle.paper.specs.Format.{Format, most_rows, row_bytes}
use Rattle.paper.specs.Tables.{Row}
use Rattle.paper.specs.Verdict.{kept, missing}
use Rattle.paper.specs.Links.{LinksKept}
use Rattle.paper.specs.MadeUp.{NothingMadeUp, unshown}
use Rattle.paper.specs.Sound.{KeepsRules, SoundSource}
use Rattle.paper.specs.Edges.{ChildrenShown, ChildrenBetween}
use Rattle.paper.specs.Figures.{Figures, no_figures}
use Rattle.paper.specs.Shown.{FiguresAgree}
use Rattle.paper.specs.Calls.{Reply, given, judge, summarise}
use Rattle.paper.specs.Index.{tests_index, summarise_with}
use Rattle.paper.proofs.Figures.{summary_agrees, summary_shows_all}
use Rattle.paper.proofs.Index.{index_reads}
use Rattle.paper.proofs.WithIndex.{summarise-plain}
use Rattle.reshaping.specs.Reshaped.{reshaped, figures_of, summarised, Reshapes, ReshapesWith}
use Rattle.std.specs.Prelude.{Result}
use Rattle.paper.specs.declared.refusal.Refusal.{Refusal}
use Rattle.paper.proofs.Refusals.{same_answer, count_same}
use Rattle.reshaping.specs.declared.summarise.Summary.{Summary}

module _ {f : Format} {t s new sources new₁ sources₁ : List ℕ} {a : Reply ℕ} (p : Reshapes f t s new sources a new₁ sources₁) where
  -- Two replies that keep the promise, whoever is told them, are one, and so is what is left in every lent byte and place.
  pub reshapes_one : {new₂ sources₂ : List ℕ} {b : Reply ℕ} → Reshapes f t s new sources b new₂ sources₂ → (a ≡ b) × (new₁ ≡ new₂) × (sources₁ ≡ sources₂)
  reshapes_one q = (
    p.answer ∙ sym q.answer,
    p.bytes ∙ sym q.bytes,
    p.places ∙ sym q.places,
  )

  -- Demand 3 is a part of the promise.
  pub links_promised : a.number ≡ 0 → (judge f t s).rest.verdict ≡ kept
      → LinksKept f t s (take (a.rest * row_bytes f) new₁) (take a.rest sources₁)
  links_promised = p.links

  -- So is it that where the second answer is yes nothing is made up.
  pub none_made_up_promised : a.number ≡ 0 → (judge f t s).rest.none_apart ≡ true
      → NothingMadeUp f t s (take (a.rest * row_bytes f) new₁) (take a.rest sources₁)
  none_made_up_promised = p.none_made_up_lem

  -- So is it that the row that verdict 1 names is in no line of the entry that it names.
  pub named_unshown_promised : a.number ≡ 0 → (e i : ℕ) → (judge f t s).rest.verdict ≡ missing e i → unshown e i (take a.rest sources₁) ≡ true
  named_unshown_promised = p.named_unshown_lem

  -- So is it how many lines stand directly beneath a line, and that judging's numbers bound it.
  pub children_promised : a.number ≡ 0 → ChildrenShown f t s (take (a.rest * row_bytes f) new₁) (take a.rest sources₁)
  children_promised = p.children

  pub between_promised : a.number ≡ 0 → ChildrenBetween f t s (take (a.rest * row_bytes f) new₁) (take a.rest sources₁)
  between_promised = p.between

  -- So is it that a new table keeps the row rules, whatever its length.
  pub rules_promised : a.number ≡ 0 → KeepsRules f (take (a.rest * row_bytes f) new₁) a.rest
  rules_promised = p.rules

  -- So is it that a new table of at most 1,024 lines is a sound source.
  pub sound_promised : a.number ≡ 0 → a.rest ≤ most_rows → SoundSource f s (take (a.rest * row_bytes f) new₁) a.rest
  sound_promised = p.sound

-- two answers that are one reply are one
answer_same : (a b : Result ℕ Refusal) → reshaped a ≡ reshaped b → a ≡ b
answer_same a b e = count_same a b e

module _ {f : Format} {t s new sources new₁ sources₁ : List ℕ} {a : Result ℕ Refusal} (p : Reshapes f t s new sources (reshaped a) new₁ sources₁) where
  -- Two reshapes that keep the promise give one answer, and leave the same in every lent byte and place.
  pub reshape_unique : {new₂ sources₂ : List ℕ} {b : Result ℕ Refusal} → Reshapes f t s new sources (reshaped b) new₂ sources₂
      → (a ≡ b) × (new₁ ≡ new₂) × (sources₁ ≡ sources₂)
  reshape_unique {b = b} q = let u = reshapes_one p q in (answer_same a b u.0, u.1, u.2)

-- ---- summarising
-- two summaries that have the same figures are one
figures_same : (a b : Summary) → figures_of a ≡ figures_of b → a ≡ b
figures_same a b e =
    ap {B = Summary} (λ (x : Figures). record { lines = x.lines; rows = x.rows; copies = x.copies; different = x.different }) e

-- two answers that are one reply are one
summary_same : (a b : Result Summary Refusal) → summarised a ≡ summarised b → a ≡ b
summary_same a b e = same_answer no_figures figures_of figures_same a b e

pub summarise_unique : (f : Format) (t s : List ℕ) (a b : Result Summary Refusal) → summarised a ≡ summarise f t s → summarised b ≡ summarise f t s → a ≡ b
summarise_unique f t s a b ea eb = summary_same a b (ea ∙ sym eb)

-- ---- what a reply that is the paper's says
module _ (f : Format) (t s : List ℕ) (r : Reply Figures) (q : r ≡ summarise f t s) where
  -- An entry's different rows are no more than its lines, nor than the rows of its type, and its other lines are copies.
  pub figures_agree : (e : ℕ) → FiguresAgree r.rest e
  figures_agree e = subst (λ (x : Reply Figures). FiguresAgree x.rest e) (sym q) (summary_agrees f t s e)

  -- Where the verdict is 0, every row of an entry's type is shown.
  pub all_shown : (judge f t s).rest.verdict ≡ kept → r.rest.different ≡ r.rest.rows
  all_shown ok = subst (λ (x : Reply Figures). x.rest.different ≡ x.rest.rows) (sym q) (summary_shows_all f t s ok)

-- ---- with an index
module _ {f : Format} {t s last next new sources new₁ sources₁ : List ℕ} {a : Reply ℕ} (p : ReshapesWith f t s last next new sources a new₁ sources₁) where
  -- Two replies with an index that keep the promise, whoever is told them, are one, and so is what is left in every lent byte and place.
  pub reshapes_with_one : {new₂ sources₂ : List ℕ} {b : Reply ℕ} → ReshapesWith f t s last next new sources b new₂ sources₂
      → (a ≡ b) × (new₁ ≡ new₂) × (sources₁ ≡ sources₂)
  reshapes_with_one q = (p.answer ∙ sym q.answer, p.bytes ∙ sym q.bytes, p.places ∙ sym q.places)

  -- Where the index is this table's, all that is promised of a reshape without one is a part of the promise.
  pub plain_promised : (rs : List Row) → tests_index f t last next ≡ given rs → Reshapes f t s new sources a new₁ sources₁
  plain_promised = p.plain

module _ {f : Format} {t s last next new sources new₁ sources₁ : List ℕ} {a : Result ℕ Refusal}
    (p : ReshapesWith f t s last next new sources (reshaped a) new₁ sources₁) where
  -- Two reshapes with an index that keep the promise give one answer, and leave the same in every lent byte and place.
  pub reshape_with_unique : {new₂ sources₂ : List ℕ} {b : Result ℕ Refusal} → ReshapesWith f t s last next new sources (reshaped b) new₂ sources₂
      → (a ≡ b) × (new₁ ≡ new₂) × (sources₁ ≡ sources₂)
  reshape_with_unique {b = b} q = let u = reshapes_with_one p q in (answer_same a b u.0, u.1, u.2)

module _ (f : Format) (t s last next : List ℕ) where
  pub summarise_with_unique : (a b : Result Summary Refusal) → summarised a ≡ summarise_with f t s last next
      → summarised b ≡ summarise_with f t s last next → a ≡ b
  summarise_with_unique a b p q = summary_same a b (p ∙ sym q)

  -- Where the index is this table's, it is the summary without one.
  pub summary_as_plain : (r : Reply Figures) → r ≡ summarise_with f t s last next → (rs : List Row) → tests_index f t last next ≡ given rs → r ≡ summarise f t s
  summary_as_plain r q rs e = q ∙ summarise-plain f t s last next (index_reads f t last next rs e)
