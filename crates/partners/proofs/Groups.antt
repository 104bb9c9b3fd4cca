-- The places of two groups of eight, and of one group as it is filled. Assumes nothing.
use Prim.Native.Nat.{ℕ, ◌+◌, ◌-◌, ◌≤◌, ◌<◌}
use native.Mathlib.Omega.{arith}
use mathlib.Core.Path.{◌≡◌, refl, sym, ◌∙◌, ap, subst}
use mathlib.Core.Logic.{inl, inr, ⊎_elim}
use mathlib.Core.Bool.{Bool, true, false, ◌&&◌, ◌||◌}
use mathlib.Core.List.{List}
use lib.Dec.{eqb, leb, ltb}
use lib.ListN.{length, get_or, set, length-set}
use lib.Seq.{get_or-set_same, get_or-set_other}
use borrow.Author.Count.{below_more}
use borrow.Author.Tests.{eqb-true, eqb-false, eq-eqb, ne_eqb, le-leb, lt-leb, leb-true, leb-false, ltb-true, ltb-false}
use Rattle.paper.proofs.Lists.{both}
use Rattle.paper.specs.Format.{most_entries}
use Rattle.shapes.specs.Shape.{type_of, parent_of, edge_of}
use Rattle.shapes.specs.declared.shape.Shape.{Shape}
use Rattle.partners.specs.Closest.{Bound}
use Rattle.partners.specs.Eight.{places, no_number}
use Rattle.partners.specs.Edges.{of_entry, or_zero, Spread, EachFrom, NoEdge, Walking}

-- ---- the place of an entry
module _ (low high : List ℕ) (c : ℕ) where
  pub of_high : 8 ≤ c → of_entry low high c ≡ get_or high (c - 8) 0
  unfolding of_entry
  of_high le = rw (le-leb 8 c le, of_entry)

  pub of_low : c < 8 → of_entry low high c ≡ get_or low c 0
  unfolding of_entry
  of_low lt = rw (lt-leb 8 c lt, of_entry)

-- a place is told as 0 where it holds no number
module _ (x : ℕ) where
  pub zero_of : x ≡ no_number → or_zero x ≡ 0
  zero_of e = rw (eq-eqb x no_number e, or_zero)

  pub one_of : (x ≡ no_number → ⊥) → or_zero x ≡ x
  one_of ne = rw (ne_eqb x no_number ne, or_zero)

-- what is so of each entry of the two groups is so of each of 16 entries
pub each-entry : (Is : ℕ → ℕ → Type 0) (low high : List ℕ) → EachFrom 0 Is low → EachFrom places Is high
    → (c : ℕ) → c < most_entries → Is c (of_entry low high c)
each-entry Is low high below above c lt = go (leb 8 c) refl
  where
    go : (b : Bool) → leb 8 c ≡ b → Is c (of_entry low high c)
    go true e =
        let le = leb-true 8 c e in
        let back : 8 + (c - 8) ≡ c = omega arith in
        rw (of_high low high c le) (subst (λ n. Is n (get_or high (c - 8) 0)) back (above (c - 8) (omega arith)))
    go false e =
        let less = leb-false 8 c e in
        let same : 0 + c ≡ c = omega arith in
        rw (of_low low high c less) (subst (λ n. Is n (get_or low c 0)) same (below c less))

-- ---- the edge of an entry
module _ (s : Shape) (c : ℕ) where
  -- the entry has an edge, or it has none
  pub has_edge : (ltb 0 c && ltb c s.entries) ≡ true → (0 < c) × (c < s.entries)
  has_edge e = let (x, y) = both (ltb 0 c) (ltb c s.entries) e in (ltb-true 0 c x, ltb-true c s.entries y)

  pub no_edge : (ltb 0 c && ltb c s.entries) ≡ false → NoEdge s c
  no_edge e = go (ltb 0 c) refl e
    where
      go : (b : Bool) → ltb 0 c ≡ b → (b && ltb c s.entries) ≡ false → NoEdge s c
      go true p e = inr (ltb-false c s.entries e)
      go false p e = inl (omega (arith, ltb-false 0 c p))

  -- no entry has an edge and none
  pub apart : NoEdge s c → 1 ≤ c → c < s.entries → ⊥
  apart gone pos lt = ⊎_elim (λ e. omega (arith, pos, e)) (λ le. omega (arith, lt, le)) gone

  module _ {bound : ℕ} where
    pub walking_edge : {a b : ℕ} → Bound (edge_of s c) bound → 0 < c → c < s.entries → a ≡ type_of s (parent_of s c) → b ≡ type_of s c
        → Walking s c bound a b
    walking_edge at pos lt p q = record {
      begins-at = λ x y. at;
      over-is = λ x y. p;
      own_is = λ x y. q;
      none = λ gone. absurd (apart gone pos lt);
    }

    pub walking_none : NoEdge s c → Walking s c bound no_number no_number
    walking_none gone = record {
      begins-at = λ pos lt. absurd (apart gone pos lt);
      over-is = λ pos lt. absurd (apart gone pos lt);
      own_is = λ pos lt. absurd (apart gone pos lt);
      none = λ x. (refl, refl);
    }

-- ---- a group as it is filled
-- the first i places hold the edges of the entries from entry `first` on
pub record Filling (s : Shape) (first i : ℕ) (bounds over own : List ℕ) : Type 0 where
  pub bounds_long : length bounds ≡ places
  pub over_long : length over ≡ places
  pub own_long : length own ≡ places
  pub each : (e : ℕ) → e < i → Walking s (first + e) (get_or bounds e 0) (get_or over e 0) (get_or own e 0)

module _ (s : Shape) (first : ℕ) where
  pub filling_more : {i : ℕ} {bounds over own : List ℕ} → i < places → Filling s first i bounds over own
      → (bound a b : ℕ) → Walking s (first + i) bound a b → Filling s first (i + 1) (set bounds i bound) (set over i a) (set own i b)
  filling_more {i} {bounds} {over} {own} lt f bound a b w = record {
    bounds_long = length-set bounds i bound ∙ f.bounds_long;
    over_long = length-set over i a ∙ f.over_long;
    own_long = length-set own i b ∙ f.own_long;
    each = below_more (λ e. Walking s (first + e) (get_or (set bounds i bound) e 0) (get_or (set over i a) e 0) (get_or (set own i b) e 0)) i
        (λ e le. rw (
          get_or-set_other bounds i e bound 0 (λ z. omega arith),
          get_or-set_other over i e a 0 (λ z. omega arith),
          get_or-set_other own i e b 0 (λ z. omega arith),
        ) (f.each e le))
        (rw (
          get_or-set_same bounds i bound 0 (omega (arith, f.bounds_long)),
          get_or-set_same over i a 0 (omega (arith, f.over_long)),
          get_or-set_same own i b 0 (omega (arith, f.own_long)),
        ) w);
  }

-- a group of no edges: its entries are past the last, or there is one entry
pub none_there : (s : Shape) (first : ℕ) → (leb s.entries first || ltb s.entries 2) ≡ true → (e : ℕ) → NoEdge s (first + e)
none_there s first h e = go (leb s.entries first) refl h (eqb (first + e) 0) refl
  where
    go : (b : Bool) → leb s.entries first ≡ b → (b || ltb s.entries 2) ≡ true → (z : Bool) → eqb (first + e) 0 ≡ z → NoEdge s (first + e)
    go true p h z q = inr (omega (arith, leb-true s.entries first p))
    go false p h true q = inl (eqb-true (first + e) 0 q)
    go false p h false q = inr (omega (arith, ltb-true s.entries 2 h, eqb-false (first + e) 0 q))

-- ---- the two groups as they are told
-- the first i places of each half
pub record Halves (low high : List ℕ) (i : ℕ) (all : List ℕ) : Type 0 where
  pub long : length all ≡ most_entries
  pub below : (e : ℕ) → e < i → get_or all e 0 ≡ or_zero (get_or low e 0)
  pub above : (e : ℕ) → e < i → get_or all (e + 8) 0 ≡ or_zero (get_or high e 0)

module _ (low high : List ℕ) where
  pub halves_spread : {all : List ℕ} → Halves low high places all → Spread low high all
  halves_spread {all} h c lt = go (leb 8 c) refl
    where
      go : (b : Bool) → leb 8 c ≡ b → get_or all c 0 ≡ or_zero (of_entry low high c)
      go true e =
          let le = leb-true 8 c e in
          let back : c - 8 + 8 ≡ c = omega (arith, le) in
          subst (λ n. get_or all n 0 ≡ or_zero (get_or high (c - 8) 0)) back (h.above (c - 8) (omega arith)) ∙ ap or_zero (sym (of_high low high c le))
      go false e = let less = leb-false 8 c e in h.below c less ∙ ap or_zero (sym (of_low low high c less))
