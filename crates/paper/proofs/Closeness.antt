-- Closeness as agreement to the level at which two kinds meet. Assumes nothing.
use Prim.Native.Nat.{ℕ, ◌≤◌, ◌<◌}
use native.Mathlib.Nat.{le_antisymm, le_trans}
use native.Mathlib.Omega.{arith}
use mathlib.Core.Path.{◌≡◌, refl, sym, ◌∙◌, subst, subst₂}
use mathlib.Core.Bool.{true}
use mathlib.Core.List.{List, map}
use lib.Dec.{eqb, ltb}
use lib.ListN.{length}
use borrow.Author.Tests.{eqb-true, eq-eqb, ltb-true, lt-ltb}
use Rattle.paper.specs.Lists.{Has, is_empty, most}
use Rattle.paper.specs.Closeness.{Node, meet, of_kind, kinds_meet, meet_at, closest, closest_of, closest_number, closest_pairs}
use Rattle.paper.proofs.Lists.{both, and, keep-has, has-keep, most_has, most_le, most_from, has-map, map-has, has_join, join-has, empty_length}
use Rattle.paper.proofs.Agree.{Agree, agree_sym, agree_self, shared→agree, agree→shared, shared-sym, shared-length, shared_eq}

module _ (t : List Node) where
  -- r is a node of kind k
  abbrev pub Of : ℕ → Node → Type 0
  Of k r = Has r t × (r.kind ≡ k)

  pub kind_of : (k : ℕ) (r : Node) → Has r (of_kind t k) → Of k r
  unfolding of_kind
  kind_of k r h = let i = keep-has (λ (r : Node). eqb r.kind k) r t h in (i.0, eqb-true r.kind k i.1)

  pub of_kind_lem : (k : ℕ) (r : Node) → Of k r → Has r (of_kind t k)
  unfolding of_kind
  of_kind_lem k r o = has-keep (λ (r : Node). eqb r.kind k) r t o.0 (eq-eqb r.kind k o.1)

  -- ---- kinds meet at an upper bound that is reached
  pub meet_le : (j k : ℕ) (r s : Node) → Of j r → Of k s → meet r s ≤ kinds_meet t j k
  unfolding kinds_meet
  meet_le j k r s oj ok =
      le_trans (most_has (meet r) s (of_kind t k) (of_kind_lem k s ok))
      (most_has (λ r. most (meet r) (of_kind t k)) r (of_kind t j) (of_kind_lem j r oj))

  pub kinds_meet_le : (j k m : ℕ) → ((r s : Node) → Of j r → Of k s → meet r s ≤ m) → kinds_meet t j k ≤ m
  unfolding kinds_meet
  kinds_meet_le j k m h =
      most_le (λ r. most (meet r) (of_kind t k)) m (of_kind t j) (λ r hr. most_le (meet r) m (of_kind t k)
      (λ s hs. h r s (kind_of j r hr) (kind_of k s hs)))

  pub kinds_meet-from : (j k : ℕ) → 0 < kinds_meet t j k → (r s : Node) × Of j r × Of k s × (meet r s ≡ kinds_meet t j k)
  unfolding kinds_meet
  kinds_meet-from j k pos =
      let (r, hr, er) = most_from (λ r. most (meet r) (of_kind t k)) (of_kind t j) pos in
      let (s, hs, es) = most_from (meet r) (of_kind t k) (omega (arith, er)) in
      (r, s, kind_of j r hr, kind_of k s hs, es ∙ er)

  pub meet-sym : (r s : Node) → meet r s ≡ meet s r
  meet-sym r s = shared-sym r.dewey s.dewey

  pub kinds_meet-sym : (j k : ℕ) → kinds_meet t j k ≡ kinds_meet t k j
  kinds_meet-sym j k = le_antisymm (le j k) (le k j)
    where
      le : (j k : ℕ) → kinds_meet t j k ≤ kinds_meet t k j
      le j k = kinds_meet_le j k (kinds_meet t k j) (λ r s oj ok. omega (arith, meet-sym r s, meet_le k j s r ok oj))

  -- ---- two nodes of kinds j and k are closest: they agree on as many components as their kinds meet at
  abbrev pub Near : ℕ → ℕ → Node → Node → Type 0
  Near j k r s = (0 < kinds_meet t j k) × Agree (kinds_meet t j k) r.dewey s.dewey

  pub near_sym : (j k : ℕ) (r s : Node) → Near j k r s → Near k j s r
  near_sym j k r s n =
      subst (λ m. (0 < m) × Agree m s.dewey r.dewey) (kinds_meet-sym j k) (n.0, agree_sym (kinds_meet t j k) r.dewey s.dewey n.1)

  at_near : (j k : ℕ) (r s : Node) → meet_at (kinds_meet t j k) r s ≡ true → Near j k r s
  unfolding meet_at
  at_near j k r s c =
      let l = kinds_meet t j k in
      let h = both (ltb 0 l) (eqb (meet r s) l) c in
      let e : meet r s ≡ l = eqb-true (meet r s) l h.1 in
      (ltb-true 0 l h.0, shared→agree l r.dewey s.dewey (omega arith))

  near_at : (j k : ℕ) (r s : Node) → Of j r → Of k s → Near j k r s → meet_at (kinds_meet t j k) r s ≡ true
  unfolding meet_at
  near_at j k r s oj ok n =
      and (lt-ltb 0 (kinds_meet t j k) n.0)
      (eq-eqb (meet r s) (kinds_meet t j k) (le_antisymm (meet_le j k r s oj ok) (agree→shared (kinds_meet t j k) r.dewey s.dewey n.1)))

  pub closest_near : (j k : ℕ) (r s : Node) → r.kind ≡ j → s.kind ≡ k → closest t r s ≡ true → Near j k r s
  unfolding closest
  closest_near j k r s ej ek c = at_near j k r s (subst₂ (λ a b. meet_at (kinds_meet t a b) r s ≡ true) ej ek c)

  pub near_closest : (j k : ℕ) (r s : Node) → Of j r → Of k s → Near j k r s → closest t r s ≡ true
  unfolding closest
  near_closest j k r s oj ok n = subst₂ (λ a b. meet_at (kinds_meet t a b) r s ≡ true) (sym oj.1) (sym ok.1) (near_at j k r s oj ok n)

  -- kinds that meet at all have two closest nodes
  pub near_from : (j k : ℕ) → 0 < kinds_meet t j k → (r s : Node) × Of j r × Of k s × Near j k r s
  near_from j k pos =
      let (r, s, oj, ok, e) = kinds_meet-from j k pos in
      (r, s, oj, ok, (pos, shared→agree (kinds_meet t j k) r.dewey s.dewey (omega (arith, e))))

  -- ---- the closest nodes of a kind, and the closest pairs of two
  pub closest_of_near : (j k : ℕ) (r s : Node) → r.kind ≡ j → Has s (closest_of t r k) → Of k s × Near j k r s
  unfolding closest_of
  closest_of_near j k r s ej h =
      let i = keep-has (meet_at (kinds_meet t r.kind k) r) s (of_kind t k) h in
      (kind_of k s i.0, at_near j k r s (subst (λ a. meet_at (kinds_meet t a k) r s ≡ true) ej i.1))

  pub near_closest_of : (j k : ℕ) (r s : Node) → Of j r → Of k s → Near j k r s → Has s (closest_of t r k)
  unfolding closest_of
  near_closest_of j k r s oj ok n =
      has-keep (meet_at (kinds_meet t r.kind k) r) s (of_kind t k) (of_kind_lem k s ok)
      (subst (λ a. meet_at (kinds_meet t a k) r s ≡ true) (sym oj.1) (near_at j k r s oj ok n))

  -- their number is 0 exactly where there are none
  pub closest-none : (k : ℕ) (r : Node) → eqb (closest_number t k r) 0 ≡ is_empty (closest_of t r k)
  unfolding closest_number
  closest-none k r = sym (empty_length (closest_of t r k))

  -- closest_of keeps just the closest
  pub closest_of-closest : (k : ℕ) (r s : Node) → Has r t → Has s (closest_of t r k) → closest t r s ≡ true
  closest_of-closest k r s hr h = let (o, n) = closest_of_near r.kind k r s refl h in near_closest r.kind k r s (hr, refl) o n

  pub pairs_near : (j k : ℕ) (r s : Node) → Has (r, s) (closest_pairs t j k) → Of j r × Of k s × Near j k r s
  unfolding closest_pairs
  pairs_near j k r s h =
      let (x, hx, h₁) = join-has (λ r. map (λ (s : Node). (r, s)) (closest_of t r k)) (r, s) (of_kind t j) h in
      let (y, hy, e) = map-has {B = Node × Node} (λ (s : Node). (x, s)) (r, s) (closest_of t x k) h₁ in
      let o = kind_of j x hx in
      let (ok, n) = closest_of_near j k x y o.1 hy in
      subst (λ (p : Node × Node). Of j p.0 × Of k p.1 × Near j k p.0 p.1) (sym e) (o, ok, n)

  pub near_pairs : (j k : ℕ) (r s : Node) → Of j r → Of k s → Near j k r s → Has (r, s) (closest_pairs t j k)
  unfolding closest_pairs
  near_pairs j k r s oj ok n =
      has_join (λ r. map (λ (s : Node). (r, s)) (closest_of t r k)) r (r, s) (of_kind t j) (of_kind_lem j r oj)
      (has-map {B = Node × Node} (λ (s : Node). (r, s)) s (closest_of t r k) (near_closest_of j k r s oj ok n))

  -- ---- within one kind, whose nodes have one level and one node for each number
  module _ (one : (x y : Node) → Has x t → Has y t → x.dewey ≡ y.dewey → x ≡ y) (k l : ℕ)
      (lev : (x : Node) → Of k x → length x.dewey ≡ l) (pos : 0 < l) where
    -- a kind that has a node meets itself at its level
    pub own_meet : (r : Node) → Of k r → kinds_meet t k k ≡ l
    own_meet r o =
        le_antisymm (kinds_meet_le k k l (λ x y ox oy. omega (arith, shared-length x.dewey y.dewey, lev x ox)))
        (omega (arith, lev r o, agree→shared (length r.dewey) r.dewey r.dewey (agree_self r.dewey), meet_le k k r r o o))

    pub own_near : (r : Node) → Of k r → Near k k r r
    own_near r o =
        let e : l ≡ kinds_meet t k k = sym (own_meet r o) in
        (omega arith, subst (λ n. Agree n r.dewey r.dewey) (lev r o ∙ e) (agree_self r.dewey))

    -- a node is closest, within its kind, to itself only
    pub own_only : (r s : Node) → Of k r → Of k s → Near k k r s → r ≡ s
    own_only r s or os n =
        one r s or.0 os.0 (shared_eq r.dewey s.dewey (lev r or ∙ sym (lev s os))
        (subst (λ n. Agree n r.dewey s.dewey) (own_meet r or ∙ sym (lev r or)) n.1))
