-- From a prepared table and shape to the verdict and the second answer. Assumes nothing.
use Prim.Native.Nat.{ℕ, zero, suc, ◌-◌, ◌≤◌, ◌<◌}
use native.Mathlib.Omega.{arith}
use mathlib.Core.Path.{◌≡◌, refl, sym, ◌∙◌, ap, ap₂}
use mathlib.Core.Bool.{Bool, false, not}
use mathlib.Core.List.{List, ◌++◌, map}
use lib.Dec.{eqb}
use lib.ListN.{length, get_or, drop}
use Rattle.paper.specs.Lists.{Has, any, first_or, join_map, count}
use Rattle.paper.specs.Format.{Format}
use Rattle.paper.specs.Tables.{rows}
use Rattle.paper.specs.Closeness.{Node, nodes}
use Rattle.paper.specs.Shapes as Paper
use Rattle.paper.specs.Shapes.{numbers, kind, parent, way, path}
use Rattle.paper.specs.Partners.{EdgeNumbers, edge_numbers}
use Rattle.paper.specs.Verdict
use Rattle.paper.specs.Verdict.{Judgement, kept, missing, is_apart, verdict_numbers, over_pairs}
use Rattle.paper.specs.Verdict.{alone, full, lone, pair_fault, verdict, none_apart, judgement}
use Rattle.paper.specs.Calls.{judge_rows, judge, reply, refused, given, no_judgement, ◌>>=◌, Reply, tests1_7}
use Rattle.shapes.specs.Edges.{meeting_of}
use Rattle.shapes.specs.Shape.{level_of, type_of, parent_of, edge_of}
use Rattle.shapes.specs.Tests.{shape_in}
use Rattle.shapes.specs.Work.{Work, Ready}
use Rattle.shapes.specs.declared.shape.Shape.{Shape}
use Rattle.shapes.proofs.Given.{ways_are, way_deep}
use Rattle.shapes.proofs.Inside.{way_inside, path_inside}
use Rattle.shapes.proofs.Places.{way_place}
use Rattle.partners.specs.Closest.{alone_rows}
use Rattle.partners.specs.declared.edges.Edges.{Edges}
use Rattle.std.specs.Prelude.{Ok}
use Rattle.judging.specs.Told.{told, numbers_in}
use Rattle.judging.specs.Judged.{numbers_of, edges_of, judged, in_numbers}
use Rattle.judging.specs.declared.verdict.Verdict.{Verdict}
use Rattle.judging.specs.declared.verdict.Verdict.TheVariants.{Kept, Missing, Apart, Unsure}
use Rattle.judging.specs.declared.judge.Judged.{Judged}
use Rattle.judging.specs.Lone.{alone_of, lone_from}
use Rattle.judging.specs.Pairs.{Room, least_on, first_fault, fault, earned, earned_by, apart_pair, no_pair_apart}
use Rattle.judging.proofs.Closest.{alone_missing}
use Rattle.judging.proofs.Entries.{entry_in, over-is, meets_up, edge_is, meeting_is, meeting_small}
use Rattle.judging.proofs.Found.{first_found, none-lone}
use Rattle.judging.proofs.Earned.{least-is, earned-fault, join_related, pairs_related, more_same, NoneIn, none_more, none_paper}

-- the rows without a partner are those that have no closest row of the parent entry's type
alone-is : (t : List Node) (p : Paper.Shape) (c : ℕ) → alone_of t (kind p c) (kind p (parent p c)) ≡ alone t p c
unfolding alone_of alone
alone-is t p c = refl

-- ---- a prepared table and shape
module _ {form : Format} {t sb : List ℕ} {w : Work} (r : Ready form t sb w) where
  abbrev ns : List Node
  ns = nodes (rows form t)

  -- the paper's shape
  abbrev p : Paper.Shape
  p = shape_in form t sb

  abbrev s : Shape
  s = w.shape

  pub room : length w.ways ≡ 128 → Room w.shape w.ways
  room long = record {
    sized = r.shaped.sized;
    ways_long = long;
    short = λ e lt. omega (arith, r.shallow e lt, r.served.shallow);
    inside = λ e k lt lk.
        omega (
          arith,
          way_place w.ways e (level_of s e) k lk,
          ap (λ v. get_or v k 0) (r.holds.way_is e lt),
          way_inside p (ways_are form t sb r.given_is) e (entry_in r e lt) k (deep e k lt lk),
          r.holds.counted,
        );
  }
    where
      deep : (e k : ℕ) → e < s.entries → k < level_of s e → k < length (way p e)
      deep e k lt lk = omega (arith, r.holds.level-is e lt, (way_deep form t sb r.given_is e (entry_in r e lt)).0)

  -- ---- the verdict
  -- the rows of entry e without a partner, as verdicts: by runs, and by the paper
  abbrev told-rows : ℕ → List Verdict.Verdict
  told-rows e = map (missing e) (alone_rows w.levels w.types w.rows s e)

  abbrev told-nodes : ℕ → List Verdict.Verdict
  told-nodes e = map (λ (r : Node). missing e r.place) (alone ns p e)

  lone_is : lone_from w.levels w.types w.rows s 1 (s.entries - 1) ≡ lone ns p
  unfolding lone_from lone
  lone_is =
      join_related ◌≡◌ refl more_same told-rows told-nodes 1 (s.entries - 1) (λ e ge lt. one e (omega (arith, r.shaped.sized.some)))
      ∙ ap (join_map told-nodes) (rest s.entries (length p.ways) r.holds.counted r.shaped.sized.some)
    where
      one : (e : ℕ) → e < s.entries → told-rows e ≡ told-nodes e
      one e lt =
          sym (alone_missing form w.rows t w.levels w.types r.levelled e (edge_of s e) (type_of s e) (type_of s (parent_of s e)) (meets_up r e lt))
          ∙ ap (map (λ (r : Node). missing e r.place)) (ap₂ (alone_of ns) (r.holds.type_is e lt) (over-is r e lt) ∙ alone-is ns p e)

      rest : (m n : ℕ) → m ≡ n → 1 ≤ m → count 1 (m - 1) ≡ drop 1 (count 0 n)
      rest m zero q le = let y : ⊥ = omega arith in absurd y
      rest m (suc n) q le = let k : m - 1 ≡ n = omega arith in ap (count 1) k

  pub alone_verdict : (v : Verdict.Verdict) → v ≡ first_or kept (lone_from w.levels w.types w.rows w.shape 1 (w.shape.entries - 1))
      → (v ≡ kept → ⊥) → v ≡ verdict (nodes (rows form t)) (shape_in form t sb)
  unfolding verdict
  alone_verdict v e ne =
      let q = e ∙ ap (first_or kept) lone_is in
      q ∙ sym (first_found (lone ns p) (over_pairs (pair_fault ns p) (numbers p)) (λ x. ne (q ∙ x)))

  -- ---- the pairs of entries
  -- the edges on a path are among the entries, and the types meet no deeper than levels go
  inside : (e f : ℕ) → e < f → f < s.entries → (c : ℕ) → Has c (path p e f) → c < s.entries
  inside e f lt lf c h =
      omega (arith, path_inside p (ways_are form t sb r.given_is) e f (entry_in r e (omega arith)) (entry_in r f lf) c h, r.holds.counted)

  small : (e f : ℕ) → e < f → f < s.entries → meeting_of w.meetings s.types e f < 255
  small e f lt lf = omega (arith, meeting_is r e f (omega arith) lf, meeting_small r e f)

  -- no pair earns a 2, by the arrays and by the paper
  pub apart_are : no_pair_apart w.shape w.ways w.meetings ≡ none_apart (nodes (rows form t)) (shape_in form t sb)
  unfolding no_pair_apart none_apart
  apart_are =
      pairs_related NoneIn refl none_more (apart_pair s w.ways w.meetings) (pair_fault ns p) 0 s.entries (λ e f ge lt lf. pair e f lt (omega arith))
      ∙ ap (λ n. not (any is_apart (over_pairs (pair_fault ns p) (count 0 n)))) r.holds.counted
    where
      pair : (e f : ℕ) → e < f → f < s.entries → NoneIn (apart_pair s w.ways w.meetings e f) (pair_fault ns p e f)
      pair e f lt lf =
          let m = meeting_of w.meetings s.types e f in
          none_paper ns p e f _
          (ap₂ (λ a b. eqb (least_on s.edges a b) m) (r.holds.way_is e (omega arith)) (r.holds.way_is f lf)
          ∙ least-is ns p s.edges e f m (meeting_is r e f (omega arith) lf) (small e f lt lf) (λ c h. edge_is r c (inside e f lt lf c h)))

  module _ (fulls : List Bool)
      (fulls_are : (c : ℕ) → c < w.shape.entries → get_or fulls c false ≡ full (nodes (rows form t)) (shape_in form t sb) c) where
    faults_are : first_fault s w.ways fulls w.meetings ≡ first_or kept (over_pairs (pair_fault ns p) (numbers p))
    unfolding first_fault
    faults_are =
        ap (first_or kept) (pairs_related ◌≡◌ refl more_same _ (pair_fault ns p) 0 s.entries (λ e f ge lt lf. pair e f lt (omega arith))
        ∙ ap (λ n. over_pairs (pair_fault ns p) (count 0 n)) r.holds.counted)
      where
        pair : (e f : ℕ) → e < f → f < s.entries
            → fault (earned s.levels s.edges fulls w.ways (meeting_of w.meetings s.types e f) e f) ≡ pair_fault ns p e f
        pair e f lt lf =
            let m = meeting_of w.meetings s.types e f in
            ap₂ (λ a b. fault (earned_by s.edges fulls m e f a b)) (r.holds.way_is e (omega arith)) (r.holds.way_is f lf)
            ∙ earned-fault ns p s.edges e f m (meeting_is r e f (omega arith) lf) (small e f lt lf) (λ c h. edge_is r c (inside e f lt lf c h))
            fulls (λ c h. fulls_are c (inside e f lt lf c h))

    -- where no row is without a partner the first pair that earns a 2 or a 3 decides
    pub pair_verdict : first_or kept (lone_from w.levels w.types w.rows w.shape 1 (w.shape.entries - 1)) ≡ kept
        → first_fault w.shape w.ways fulls w.meetings ≡ verdict (nodes (rows form t)) (shape_in form t sb)
    unfolding verdict
    pair_verdict q =
        faults_are ∙ ap (λ l. first_or kept (l ++ over_pairs (pair_fault ns p) (numbers p)))
        (sym (sym lone_is ∙ none-lone w.levels w.types w.rows s 1 (s.entries - 1) q))

-- ---- the answer
pub judge-refused : (form : Format) (t sb : List ℕ) (k place : ℕ) → tests1_7 form t sb ≡ refused k place
    → record { number = k; place = place; rest = no_judgement } ≡ judge form t sb
unfolding judge judge_rows
judge-refused form t sb k place e = sym (ap (λ a. reply no_judgement (a >>= (λ x. given (judgement x.nodes x.shape)))) e)

module _ {form : Format} {t sb : List ℕ} {w : Work} (r : Ready form t sb w) where
  -- the verdict v, the second answer n and the numbers of each edge are those of the paper
  pub judge-given : (v : Verdict.Verdict) (n : Bool) (edges : EdgeNumbers) → v ≡ verdict (nodes (rows form t)) (shape_in form t sb)
      → n ≡ no_pair_apart w.shape w.ways w.meetings → edges ≡ edge_numbers (nodes (rows form t)) (shape_in form t sb)
      → record { number = 0; place = 0; rest = record { verdict = v; none_apart = n; edges = edges } } ≡ judge form t sb
  unfolding judge judge_rows
  judge-given v n edges e q o =
      (λ i. record { number = 0; place = 0; rest = record { verdict = e i; none_apart = (q ∙ apart_are r) i; edges = o i } })
      ∙ sym (ap (λ a. reply no_judgement (a >>= (λ x. given (judgement x.nodes x.shape)))) r.given_is)

-- the numbers of a verdict are those of the paper's
numbers_told : (v : Verdict) → numbers_of v ≡ verdict_numbers (told v)
numbers_told Kept = refl
numbers_told (Missing e r) = refl
numbers_told (Apart e f) = refl
numbers_told (Unsure e f) = refl

pub answered : (r : Judged) (v : Verdict) (n : Bool) (edges : Edges) (b : Reply Judgement)
    → (r.verdict ≡ v) × (r.none_apart ≡ n) × (edges_of r ≡ numbers_in edges)
    → record { number = 0; place = 0; rest = record { verdict = told v; none_apart = n; edges = numbers_in edges } } ≡ b → judged (Ok r) ≡ in_numbers b
answered r v n edges b (q, o, x) e =
    (λ i. record { number = 0; place = 0; rest = record { verdict = (ap numbers_of q ∙ numbers_told v) i; none_apart = o i; edges = x i } })
    ∙ ap in_numbers e
