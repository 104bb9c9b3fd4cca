-- Laws of the answers in numbers: where a looked-up row stands, the verdict and the second answer. Assumes nothing.
use Prim.Native.Nat.{ℕ, ◌*◌, ◌≤◌, ◌<◌}
use native.Mathlib.Omega.{arith}
use mathlib.Core.Path.{◌≡◌, refl, sym, ◌∙◌, ap}
use mathlib.Core.List.{List, [], ◌∷◌, ◌++◌}
use lib.ListN.{length, take, drop, get_or}
use Rattle.paper.specs.Lists.{padded}
use Rattle.paper.specs.Format.{Format, most_rows, row_bytes, whole}
use Rattle.paper.specs.Tables.{rows}
use Rattle.paper.specs.Verdict as paper
use Rattle.paper.specs.Verdict.{Judgement, kept, missing, apart, unsure, verdict_numbers}
use Rattle.paper.specs.Calls.{given, Reply, no_judgement, tests1_3, look_up}
use Rattle.paper.specs.Refusals.{reply_of}
use Rattle.std.specs.Prelude.{Result, Ok, Err}
use Rattle.paper.specs.Figures.{Figures}
use Rattle.paper.specs.Labels as Labels
use Rattle.paper.specs.declared.refusal.Refusal.{Refusal}
use Rattle.judging.specs.Judged.{numbers_of, InNumbers, judged, in_numbers}
use Rattle.judging.specs.declared.judge.Judged.{Judged}
use Rattle.judging.specs.declared.verdict.Verdict.{Verdict}
use Rattle.judging.specs.declared.verdict.Verdict.TheVariants.{Kept, Missing, Apart, Unsure}
use Rattle.paper.proofs.Calls.{passed1_3}
use Rattle.octets.proofs.Laws.{record_length}
use Rattle.tables.specs.Reply.{start_of}
use Rattle.tables.proofs.Back.{refused_start}
use Rattle.tables.proofs.Examine.{look_up-row}
use Rattle.tables.proofs.Rows.{row_in}
use Rattle.silmezga_c.specs.Told.{LooksUp, as_number, InFour, in_four, four_numbers}
use Rattle.silmezga_c.specs.Numbers.{told_count, told_converted, told_summary, judged_numbers}
use Rattle.silmezga_c.specs.declared.LookedUp.{LookedUp}
use Rattle.silmezga_c.specs.declared.answers.Counted.{Counted}
use Rattle.silmezga_c.specs.declared.answers.ConvertedNumbers.{ConvertedNumbers}
use Rattle.silmezga_c.specs.declared.answers.SummaryNumbers.{SummaryNumbers}
use Rattle.silmezga_c.specs.declared.answers.JudgedNumbers.{JudgedNumbers}

-- ---- look-up
module _ (f : Format) (t : List ℕ) (i : ℕ) where
  -- refused, the number and the place are told, and no part
  pub told-refused : (k p : ℕ) (r : LookedUp) → (k ≡ 0 → ⊥) → look_up f t i ≡ record { number = k; place = p; rest = [] }
      → (r.number ≡ k) × (r.place ≡ p) × (r.start ≡ 0) × (r.length ≡ 0) → LooksUp f t i r
  told-refused k p r ne e h =
      let number : (look_up f t i).number ≡ k = ap (λ (x : Reply (List ℕ)). x.number) e in
      let rest : (look_up f t i).rest ≡ [] = ap (λ (x : Reply (List ℕ)). x.rest) e in
      record {
        number_is = h.0 ∙ sym number;
        place_is = h.1 ∙ sym (ap (λ (x : Reply (List ℕ)). x.place) e);
        start_is = h.2 ∙ sym (refused_start f k i ne) ∙ ap (λ n. start_of f n i) (sym number);
        length-is = h.3 ∙ ap length (sym rest);
        part_is = ap (λ n. take n (drop r.start t)) h.3 ∙ sym rest;
      }

  module _ (g : tests1_3 f t ≡ given (rows f t)) (lt : i < whole (row_bytes f) t) where
    pub start_small : row_bytes f * i ≤ most_rows * row_bytes f
    start_small = omega (arith, (passed1_3 f t (rows f t) g).2, row_in (row_bytes f) i t lt)

    -- a row that is there starts after those before it
    pub told-row : LooksUp f t i (record { number = 0; place = 0; start = row_bytes f * i; length = row_bytes f })
    told-row =
        let e = look_up-row f t i g lt in
        let number : (look_up f t i).number ≡ 0 = ap (λ (x : Reply (List ℕ)). x.number) e in
        let rest : (look_up f t i).rest ≡ take (row_bytes f) (drop (row_bytes f * i) t) = ap (λ (x : Reply (List ℕ)). x.rest) e in
        record {
          number_is = sym number;
          place_is = sym (ap (λ (x : Reply (List ℕ)). x.place) e);
          start_is = ap (λ n. start_of f n i) (sym number);
          length-is = sym (record_length t (row_bytes f) i (row_in (row_bytes f) i t lt)) ∙ ap length (sym rest);
          part_is = sym rest;
        }

-- two answers that say where the row stands are one
pub look_up_unique : {f : Format} {t : List ℕ} {i : ℕ} {r s : LookedUp} → LooksUp f t i r → LooksUp f t i s → r ≡ s
look_up_unique a b = λ j. record {
  number = (a.number_is ∙ sym b.number_is) j;
  place = (a.place_is ∙ sym b.place_is) j;
  start = (a.start_is ∙ sym b.start_is) j;
  length = (a.length-is ∙ sym b.length-is) j;
}

-- ---- judging
-- the four numbers of a verdict in numbers and a second answer
abbrev four_of : Reply InNumbers → Reply InFour
four_of y = record {
  number = y.number;
  place = y.place;
  rest = record { four = padded 3 y.rest.verdict ++ (as_number y.rest.none_apart ∷ []); edges = y.rest.edges };
}

-- what was judged, in numbers, is the reply that it was judged to be, in numbers
pub in_four_lem : (j : Result Judged Refusal) (x : Reply Judgement) → judged j ≡ in_numbers x → judged_numbers j ≡ four_numbers x
in_four_lem (Ok j) x e = ap {B = Reply InFour} four_of e
in_four_lem (Err d) x e = ap {B = Reply InFour} four_of e

-- a verdict as Rattle's call answers it
answered : (v : paper.Verdict) → (w : Verdict) × (numbers_of w ≡ verdict_numbers v)
answered kept = (Kept, refl)
answered (missing e r) = (Missing e r, refl)
answered (apart e f) = (Apart e f, refl)
answered (unsure e f) = (Unsure e f, refl)

as_answered : Judgement → Judged
as_answered x = record {
  verdict = (answered x.verdict).0;
  none_apart = x.none_apart;
  least_children = x.edges.least_children;
  greatest_children = x.edges.greatest_children;
  least_parents = x.edges.least_parents;
  greatest_parents = x.edges.greatest_parents;
}

-- an answer of Rattle's call that says what a reply does whose refusal has a name
spoken : (x : Reply Judgement) (n : Result Judgement Refusal) → x ≡ reply_of no_judgement (λ y. y) n → (j : Result Judged Refusal) × (judged j ≡ in_numbers x)
unfolding as_answered
spoken x (Ok y) e = (
  Ok (as_answered y),
  (λ i. record {
    number = 0;
    place = 0;
    rest = record { verdict = (answered y.verdict).1 i; none_apart = y.none_apart; edges = y.edges };
  }) ∙ ap in_numbers (sym e),
)
spoken x (Err d) e = (Err d, ap in_numbers (sym e))

-- who is told a judgement in numbers is told an answer of Rattle's call, whichever reply it is whose refusal has a name
pub tells : (x : Reply Judgement) (n : Result Judgement Refusal) → x ≡ reply_of no_judgement (λ y. y) n → (r : JudgedNumbers) → in_four r ≡ four_numbers x
    → (j : Result Judged Refusal) × ((judged j ≡ in_numbers x) × (in_four r ≡ judged_numbers j))
tells x n e r told = let (j, is) = spoken x n e in (j, (is, told ∙ sym (in_four_lem j x is)))

-- two answers that are one reply are one
pub judged-same : (a b : JudgedNumbers) → in_four a ≡ in_four b → a ≡ b
judged-same a b = ap {B = JudgedNumbers} (λ (x : Reply InFour). record {
  number = x.number;
  place = x.place;
  verdict = get_or x.rest.four 0 0;
  first = get_or x.rest.four 1 0;
  second = get_or x.rest.four 2 0;
  none_apart = get_or x.rest.four 3 0;
  least_children = x.rest.edges.least_children;
  greatest_children = x.rest.edges.greatest_children;
  least_parents = x.rest.edges.least_parents;
  greatest_parents = x.rest.edges.greatest_parents;
})

-- ---- the other answers: two that are one reply are one
pub count_told : (a b : Counted) → told_count a ≡ told_count b → a ≡ b
count_told a b = ap {B = Counted} (λ (x : Reply ℕ). record { number = x.number; place = x.place; count = x.rest })

pub converted_told : (a b : ConvertedNumbers) → told_converted a ≡ told_converted b → a ≡ b
converted_told a b =
    ap {B = ConvertedNumbers} (λ (x : Reply Labels.Converted). record { number = x.number; place = x.place; rows = x.rest.rows; entries = x.rest.entries })

pub summary_told : (a b : SummaryNumbers) → told_summary a ≡ told_summary b → a ≡ b
summary_told a b = ap {B = SummaryNumbers} (λ (x : Reply Figures). record {
  number = x.number;
  place = x.place;
  lines = x.rest.lines;
  rows = x.rest.rows;
  copies = x.rest.copies;
  different = x.rest.different;
})
