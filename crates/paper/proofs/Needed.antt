-- The verdict's conditions are needed: for each of verdicts 1, 2 and 3 a table and a shape whose reshape does not keep the links.
-- So is the second answer, and it holds one way only. By computation. Assumes nothing.
use Prim.Native.Nat.{ℕ, ◌*◌, ◌<◌}
use native.Mathlib.Omega.{arith}
use mathlib.Core.Path.{◌≡◌, refl, sym, ◌∙◌, ap₂, subst, subst₂}
use mathlib.Core.Logic.{◌⊎◌, inl, inr}
use mathlib.Core.Bool.{true, false, ◌&&◌, false≢true}
use mathlib.Core.List.{List, [], ◌∷◌, ◌++◌}
use lib.Dec.{eqb}
use lib.ListN.{length, take}
use borrow.Author.Tests.{eqb-true, eq-eqb, ne_eqb}
use Rattle.paper.specs.Lists.{Has, all}
use Rattle.paper.specs.Format.{base, row_bytes}
use Rattle.paper.specs.Closeness.{Node}
use Rattle.paper.specs.Shapes.{entries}
use Rattle.paper.specs.Verdict.{missing, apart, unsure}
use Rattle.paper.specs.Calls.{judge}
use Rattle.paper.specs.Links.{LinksKept, new_nodes, source_row, shown_pairs, source_pairs}
use Rattle.paper.specs.MadeUp.{NothingMadeUp, fork_entry}
use Rattle.paper.specs.Opened.{opened}
use Rattle.paper.specs.samples.Files.{row, table, entry, A, table7, portfolio, lessee, lease, asset}
use Rattle.paper.specs.samples.Told.{reshaped}
use Rattle.paper.specs.samples.Tried.{among, under, forked, justified, none_made_up}
use Rattle.paper.specs.samples.Further.{single}
use Rattle.paper.proofs.Lists.{both, and, eq_same, all-has, any_has, has_any}

has-among : (p : ℕ × ℕ) (l : List (ℕ × ℕ)) → Has p l → among p l ≡ true
has-among p l h = has_any (λ (q : ℕ × ℕ). eqb p.0 q.0 && eqb p.1 q.1) p l h (and (eq-eqb p.0 p.0 refl) (eq-eqb p.1 p.1 refl))

among-has : (p : ℕ × ℕ) (l : List (ℕ × ℕ)) → among p l ≡ true → Has p l
among-has p l e =
    let (q, h, t) = any_has (λ (q : ℕ × ℕ). eqb p.0 q.0 && eqb p.1 q.1) l e in
    let (a, b) = both (eqb p.0 q.0) (eqb p.1 q.1) t in
    subst (λ (z : ℕ × ℕ). Has z l) (sym (ap₂ {C = ℕ × ℕ} (λ x y. (x, y)) (eqb-true p.0 q.0 a) (eqb-true p.1 q.1 b))) h

-- the new table and the source list that a reshape leaves
abbrev pub new_left : List ℕ → List ℕ → List ℕ
new_left b sb = let r = reshaped b sb in take (r.reply.rest * row_bytes base) r.table

abbrev pub sources_left : List ℕ → List ℕ → List ℕ
sources_left b sb = let r = reshaped b sb in take r.reply.rest r.sources

-- The reshape is accepted, and its new table and source list do not keep the links.
abbrev pub LinksLost : List ℕ → List ℕ → Type 0
LinksLost b sb = ((reshaped b sb).reply.number ≡ 0) × (LinksKept base b sb (new_left b sb) (sources_left b sb) → ⊥)

-- a pair on one side that is not on the other
odd : (b sb new sources : List ℕ) (e g r q : ℕ) → e < length (entries base sb) → g < length (entries base sb)
    → ((among (r, q) (shown_pairs base new sources e g) ≡ true) × (among (r, q) (source_pairs base b sb e g) ≡ false))
    ⊎ ((among (r, q) (shown_pairs base new sources e g) ≡ false) × (among (r, q) (source_pairs base b sb e g) ≡ true))
    → LinksKept base b sb new sources → ⊥
unfolding LinksKept
odd b sb new sources e g r q le lg (inl h) k =
    false≢true (sym h.1 ∙ has-among (r, q) (source_pairs base b sb e g) ((k e g le lg r q).0 (among-has (r, q) (shown_pairs base new sources e g) h.0)))
odd b sb new sources e g r q le lg (inr h) k =
    false≢true (sym h.0 ∙ has-among (r, q) (shown_pairs base new sources e g) ((k e g le lg r q).1 (among-has (r, q) (source_pairs base b sb e g) h.1)))

-- P5, verdict 1: lease row 8 is closest to itself, and no line of entry 1 shows it.
abbrev pub shape5 : List ℕ
shape5 = entry 1 asset ++ entry 2 lease ++ entry 3 lessee

pub partner_needed : ((judge base A shape5).rest.verdict ≡ missing 1 8) × LinksLost A shape5
unfolding opened row table entry A lessee lease asset
partner_needed = (refl, (refl, odd A shape5 (new_left A shape5) (sources_left A shape5) 1 1 8 8 (omega arith) (omega arith) (inr (refl, refl))))

-- P6, verdict 2: lessee 7 and asset 3 hang under one portfolio line, and are not closest.
abbrev pub shape6 : List ℕ
shape6 = entry 1 portfolio ++ entry 2 lessee ++ entry 2 asset

pub least_level_needed : ((judge base A shape6).rest.verdict ≡ apart 1 2) × LinksLost A shape6
unfolding opened row table entry A portfolio lessee asset
least_level_needed = (refl, (refl, odd A shape6 (new_left A shape6) (sources_left A shape6) 1 2 7 3 (omega arith) (omega arith) (inl (refl, refl))))

-- P7, verdict 3: lease 3 and payment 4 are closest, and lease 3 has no asset to show the payment under.
abbrev pub shape7 : List ℕ
shape7 = entry 1 (1 ∷ 3 ∷ []) ++ entry 2 (1 ∷ 3 ∷ 4 ∷ []) ++ entry 3 (1 ∷ 5 ∷ [])

pub full_edges_needed : ((judge base table7 shape7).rest.verdict ≡ unsure 0 2) × LinksLost table7 shape7
unfolding opened row table entry table7
full_edges_needed = (refl, (refl, odd table7 shape7 (new_left table7 shape7) (sources_left table7 shape7) 0 2 3 4 (omega arith) (omega arith) (inr (refl, refl))))

-- ---- the second answer
-- what the computed test finds is so
made_up_test : (b sb new sources : List ℕ) → none_made_up b sb new sources ≡ true → NothingMadeUp base b sb new sources
unfolding none_made_up justified forked NothingMadeUp
made_up_test b sb new sources e x y z hx hy hz ne kz ux uy =
    let lines = new_nodes base new sources in
    let pairs = source_pairs base b sb x.kind y.kind in
    let pair : ℕ × ℕ = (source_row sources x, source_row sources y) in
    let tested = all-has (justified b sb new sources x) y lines (all-has (λ x. all (justified b sb new sources x) lines) x lines e hx) hy in
    let under_one = has_any (λ (z : Node). eqb z.kind (fork_entry base b sb x.kind y.kind) && under z x && under z y) z lines hz
    (and (and (eq-eqb z.kind (fork_entry base b sb x.kind y.kind) kz) (eq_same ux)) (eq_same uy)) in
    among-has pair pairs
    (subst₂ (λ u v. elim u [ true ↦ true | false ↦ elim v [ false ↦ true | true ↦ among pair pairs ] ] ≡ true) (ne_eqb x.kind y.kind ne) under_one tested)

-- One lessee, shown by two entries: the second answer is no, and nothing is made up.
pub one_way : ((judge base single.0 single.1).rest.none_apart ≡ false) × ((reshaped single.0 single.1).reply.number ≡ 0)
    × NothingMadeUp base single.0 single.1 (new_left single.0 single.1) (sources_left single.0 single.1)
unfolding opened none_made_up justified forked row table entry portfolio lessee
one_way = (refl, refl, made_up_test single.0 single.1 (new_left single.0 single.1) (sources_left single.0 single.1) refl)

-- P6: the second answer is no, and lessee 7 and asset 3, which are not closest, hang under one portfolio line.
pub second_answer_needed : ((judge base A shape6).rest.none_apart ≡ false) × ((reshaped A shape6).reply.number ≡ 0)
    × (NothingMadeUp base A shape6 (new_left A shape6) (sources_left A shape6) → ⊥)
unfolding opened row table entry A portfolio lessee asset
second_answer_needed = (
  refl,
  refl,
  λ all_so.
      let line : ℕ → List ℕ → ℕ → Node = λ e d i. record { place = i; kind = e; dewey = d } in
      false≢true (has-among (7, 3) (source_pairs base A shape6 1 2) (all_so (line 1 (1 ∷ 2 ∷ []) 2) (line 2 (1 ∷ 3 ∷ []) 3) (line 0 (1 ∷ []) 0)
      (inr (inr (inl refl))) (inr (inr (inr (inl refl)))) (inl refl) (λ q. omega (arith, q)) refl refl refl)),
)
