-- What the verdict's tests say, as chains along the entries of a shape. Assumes nothing.
use Prim.Native.Nat.{ℕ, zero, suc, ◌+◌, ◌≤◌, ◌<◌}
use native.Mathlib.Nat.{not-suc-le-zero}
use native.Mathlib.Omega.{arith}
use mathlib.Core.Path.{◌≡◌, refl, sym, ◌∙◌, ap, subst}
use mathlib.Core.Logic.{◌⊎◌, inl, inr, ⊎_elim}
use mathlib.Core.Bool.{Bool, true, false, false≢true, not, ◌&&◌}
use mathlib.Core.List.{List, [], ◌∷◌, ◌++◌, map, append_assoc}
use lib.Dec.{eqb, leb}
use lib.ListN.{length, take, drop, length-append}
use lib.Seq.{take-append-add}
use borrow.Author.Tests.{eqb-true, leb-true, not-true}
use Rattle.paper.specs.Lists.{Has, all, any, is_empty, first_or, last_or, join_map, same, up, count}
use Rattle.paper.specs.Closeness.{Node, of_kind, kinds_meet, closest_of, closest_number}
use Rattle.paper.specs.Shapes.{Shape, numbers, kind, way, parent, children}
use Rattle.paper.specs.Verdict.{Verdict, kept, missing, apart, unsure, is_apart, over_pairs}
use Rattle.paper.specs.Verdict.{meeting, alone, full, edge_level, sure_down, meets_least, sure, lone, pair_fault, verdict, none_apart}
use Rattle.paper.proofs.Lists.{both, either, same_eq, eq_same, keep-has, has-keep, all-has, has_any, has_left, has_right, has_append, has-map, map-has}
use Rattle.paper.proofs.Lists.{has_join, join-has, some_in, last_snoc, up_snoc, snoc_inj, has-count, count-has}
use Rattle.paper.proofs.Agree.{Agree}
use Rattle.paper.proofs.Closeness.{Of, Near, near_sym, kind_of, of_kind_lem, closest_of_near, closest-none}
use Rattle.paper.proofs.Chains.{AtLeast, Partnered, Full, Sure}
use Rattle.paper.proofs.Shapes.{Ways}

-- ---- along the entries of a shape
module _ (s : Shape) (w : Ways s) where
  -- each entry of cs is the child of the one before, the first of g
  abbrev pub Inside : ℕ → List ℕ → Type 0
  Inside g [] = Unit
  Inside g (c ∷ cs) = (c < length s.ways) × (way s c ≡ way s g ++ (c ∷ [])) × Inside c cs

  pub inside : (f : ℕ) → f < length s.ways → (g : ℕ) (cs : List ℕ) → way s f ≡ way s g ++ cs → Inside g cs
  inside f lf g [] e = tt
  inside f lf g (c ∷ cs) e = (at.0, at.1, inside f lf c cs (e ∙ sym (append_assoc (way s g) (c ∷ []) cs) ∙ ap (λ z. z ++ cs) (sym at.1)))
    where
      at : (c < length s.ways) × (way s c ≡ way s g ++ (c ∷ []))
      at =
          let k = length (way s g) + 1 in
          let (d, ld, ed) = w.cut f lf k (omega arith) (omega (arith, ap length e, length-append (way s g) (c ∷ cs))) in
          let q : way s d ≡ way s g ++ (c ∷ []) = ed ∙ ap (take k) e ∙ take-append-add (way s g) (c ∷ cs) 1 in
          let (u, eu) = w.own d ld in
          let dc : d ≡ c = (snoc_inj u (way s g) d c (sym eu ∙ q)).1 in
          (subst (λ z. z < length s.ways) dc ld, subst (λ z. way s z ≡ way s g ++ (c ∷ [])) dc q)

  pub last_way : (e : ℕ) → e < length s.ways → last_or 0 (way s e) ≡ e
  last_way e le = let (u, q) = w.own e le in ap (last_or 0) q ∙ last_snoc 0 u e

  pub way_one : (e f : ℕ) → e < length s.ways → f < length s.ways → way s e ≡ way s f → e ≡ f
  way_one e f le lf q = sym (last_way e le) ∙ ap (last_or 0) q ∙ last_way f lf

  pub way_pos : (e : ℕ) → e < length s.ways → 0 < length (way s e)
  way_pos e le = let (u, q) = w.own e le in omega (arith, ap length q, length-append u (e ∷ []))

  -- entry 0 stands alone on its way
  pub way_zero : 0 < length s.ways → way s 0 ≡ 0 ∷ []
  way_zero pos =
      let (v, e) = w.root 0 pos in
      let (g, lg, q) = w.cut 0 pos 1 (omega arith) (way_pos 0 pos) in
      let r : way s g ≡ 0 ∷ [] = q ∙ ap (take 1) e in
      let z : 0 ≡ g = sym (ap (last_or 0) r) ∙ last_way g lg in
      subst (λ x. way s x ≡ 0 ∷ []) (sym z) r

  -- children
  pub child_parent : (g c : ℕ) → g < length s.ways → way s c ≡ way s g ++ (c ∷ []) → parent s c ≡ g
  child_parent g c lg e = ap (last_or 0) (ap up e ∙ up_snoc (way s g) c) ∙ last_way g lg

  pub child_listed : (g c : ℕ) → c < length s.ways → way s c ≡ way s g ++ (c ∷ []) → Has c (children s g)
  child_listed g c lc e =
      has-keep (λ c. same (up (way s c)) (way s g)) c (numbers s) (has-count 0 (length s.ways) c (omega arith) (omega arith))
      (eq_same (ap up e ∙ up_snoc (way s g) c))

  pub listed_child : (g c : ℕ) → Has c (children s g) → (c < length s.ways) × (way s c ≡ way s g ++ (c ∷ []))
  listed_child g c h =
      let (i, t) = keep-has (λ c. same (up (way s c)) (way s g)) c (numbers s) h in
      let lc : c < length s.ways = omega (arith, (count-has 0 (length s.ways) c i).1) in
      let (u, q) = w.own c lc in
      (lc, q ∙ ap (λ z. z ++ (c ∷ [])) (sym (up_snoc u c) ∙ sym (ap up q) ∙ same_eq (up (way s c)) (way s g) t))

  pub child_pos : (g c : ℕ) → g < length s.ways → c < length s.ways → way s c ≡ way s g ++ (c ∷ []) → 0 < c
  child_pos g zero lg lc e =
      let z : ⊥ = omega (arith, ap length (way_zero lc), ap length e, length-append (way s g) (0 ∷ []), way_pos g lg) in absurd z
  child_pos g (suc c) lg lc e = omega arith

  module _ (t : List Node) where
    -- ---- the notions that the chains are over
    abbrev pub In : ℕ → Node → Type 0
    In e r = Of t (kind s e) r

    abbrev pub L : ℕ → ℕ → ℕ
    L e f = kinds_meet t (kind s e) (kind s f)

    abbrev pub ag : ℕ → Node → Node → Type 0
    ag k r x = Agree k r.dewey x.dewey

    -- ---- the tests
    pub edge_level_lem : (g c : ℕ) → g < length s.ways → way s c ≡ way s g ++ (c ∷ []) → edge_level t s c ≡ L g c
    unfolding edge_level meeting
    edge_level_lem g c lg e = ap (λ p. L p c) (child_parent g c lg e)

    pub at_least : (m g : ℕ) (cs : List ℕ) → g < length s.ways → Inside g cs → all (leb m) (map (edge_level t s) cs) ≡ true → AtLeast In L ag m g cs
    at_least m g [] lg io a = tt
    at_least m g (c ∷ cs) lg io a =
        let h = both (leb m (edge_level t s c)) (all (leb m) (map (edge_level t s) cs)) a in
        (omega (arith, leb-true m (edge_level t s c) h.0, edge_level_lem g c lg io.1), at_least m c cs io.0 io.2 h.1)

    -- from the test: every row of g's type has a closest one of c's
    full_edge : (g c : ℕ) → g < length s.ways → way s c ≡ way s g ++ (c ∷ []) → full t s c ≡ true → Full In L ag g c
    unfolding full
    full_edge g c lg e h r o =
        let p : parent s c ≡ g = child_parent g c lg e in
        let a = all-has (λ r. not (eqb (closest_number t (kind s c) r) 0)) r (of_kind t (kind s (parent s c))) h
        (of_kind_lem t (kind s (parent s c)) r (subst (λ z. Of t (kind s z) r) (sym p) o)) in
        let (x, hx) = some_in (closest_of t r (kind s c)) (sym (closest-none t (kind s c) r) ∙ not-true (eqb (closest_number t (kind s c) r) 0) a) in
        let (ox, n) = closest_of_near t (kind s g) (kind s c) r x o.1 hx in
        (x, ox, n)

    pub sure_down_lem : (m g : ℕ) (cs : List ℕ) → g < length s.ways → Inside g cs → sure_down t s m cs ≡ true → Sure In L ag m g cs
    sure_down_lem m g [] lg io h = false≢true h
    sure_down_lem m g (c ∷ cs) lg io h =
        ⊎_elim (λ a. inl (sym (edge_level_lem g c lg io.1) ∙ eqb-true (edge_level t s c) m a))
        (λ b. let d = both (full t s c) (sure_down t s m cs) b in inr (full_edge g c lg io.1 d.0, sure_down_lem m c cs io.0 io.2 d.1))
        (either (eqb (edge_level t s c) m) (full t s c && sure_down t s m cs) h)

    -- no row of an entry's type lacks a partner
    abbrev pub NoneAlone : Type 0
    NoneAlone = (c : ℕ) → 0 < c → c < length s.ways → (r : Node) → Has r (alone t s c) → ⊥

    partner : NoneAlone → (g c : ℕ) → g < length s.ways → c < length s.ways → way s c ≡ way s g ++ (c ∷ [])
        → (r : Node) → In c r → (q : Node) × In g q × Near t (kind s g) (kind s c) q r
    unfolding alone
    partner no-alone g c lg lc e r o = go (eqb (closest_number t (kind s (parent s c)) r) 0) refl
      where
        p : parent s c ≡ g
        p = child_parent g c lg e

        go : (b : Bool) → eqb (closest_number t (kind s (parent s c)) r) 0 ≡ b → (q : Node) × In g q × Near t (kind s g) (kind s c) q r
        go true z =
            absurd (no-alone c (child_pos g c lg lc e) lc r
            (has-keep (λ r. eqb (closest_number t (kind s (parent s c)) r) 0) r (of_kind t (kind s c)) (of_kind_lem t (kind s c) r o) z))
        go false z =
            let (q, hq) = some_in (closest_of t r (kind s (parent s c))) (sym (closest-none t (kind s (parent s c)) r) ∙ z) in
            let (oq, n) = closest_of_near t (kind s c) (kind s (parent s c)) r q o.1 hq in
            (q, subst (λ x. In x q) p oq, near_sym t (kind s c) (kind s g) r q (subst (λ x. Near t (kind s c) (kind s x) r q) p n))

    pub partnered : NoneAlone → (g : ℕ) (cs : List ℕ) → g < length s.ways → Inside g cs → Partnered In L ag g cs
    partnered no-alone g [] lg io = tt
    partnered no-alone g (c ∷ cs) lg io = (λ r o. partner no-alone g c lg io.0 io.1 r o, partnered no-alone c cs io.0 io.2)

-- ---- the verdict's search
module _ (v : Verdict) where
  first-has : (xs : List Verdict) → first_or kept xs ≡ v → (v ≡ kept → ⊥) → Has v xs
  first-has [] e no-kept = absurd (no-kept (sym e))
  first-has (x ∷ xs) e no-kept = inl (sym e)

first-none : (xs : List Verdict) → ((x : Verdict) → Has x xs → x ≡ kept → ⊥) → first_or kept xs ≡ kept → (x : Verdict) → Has x xs → ⊥
first-none [] no-kept e x h = h
first-none (y ∷ xs) no-kept e x h = no-kept y (inl refl) e

not_missing : (e r : ℕ) → missing e r ≡ kept → ⊥
not_missing e r h = let z : ◌≡◌ {A = ℕ} 0 1 = cc in omega arith

not_apart : (e f : ℕ) → apart e f ≡ kept → ⊥
not_apart e f h = let z : ◌≡◌ {A = ℕ} 0 1 = cc in omega arith

not_unsure : (e f : ℕ) → unsure e f ≡ kept → ⊥
not_unsure e f h = let z : ◌≡◌ {A = ℕ} 0 1 = cc in omega arith

over_pairs-has : (g : ℕ → ℕ → List Verdict) (x : Verdict) (es : List ℕ) → Has x (over_pairs g es) → (e f : ℕ) × Has x (g e f)
over_pairs-has g x [] h = absurd h
over_pairs-has g x (e ∷ es) h =
    ⊎_elim (λ i. let r = join-has (g e) x es i in (e, r.0, r.2)) (over_pairs-has g x es) (has_append x (join_map (g e) es) (over_pairs g es) h)

has-over_pairs : (g : ℕ → ℕ → List Verdict) (x : Verdict) (i n e f : ℕ) → i ≤ e → e < f → f < i + n → Has x (g e f) → Has x (over_pairs g (count i n))
has-over_pairs g x i zero e f ie ef fn h = let z : ⊥ = omega arith in absurd z
has-over_pairs g x i (suc n) e f ie ef fn h = go (leb e i) refl (λ l. has-over_pairs g x (suc i) n e f l ef (omega arith) h)
  where
    go : (b : Bool) → leb e i ≡ b → (suc i ≤ e → Has x (over_pairs g (count (suc i) n))) → Has x (over_pairs g (count i (suc n)))
    go true q ih =
        let ei : e ≡ i = omega (arith, leb-true e i q) in
        has_left x (join_map (g i) (count (suc i) n)) (over_pairs g (count (suc i) n))
        (has_join (g i) f x (count (suc i) n) (has-count (suc i) n f (omega arith) (omega arith)) (subst (λ z. Has x (g z f)) ei h))
    go false q ih = has_right x (join_map (g i) (count (suc i) n)) (over_pairs g (count (suc i) n)) (ih (borrow.Author.Tests.leb-false e i q))

module _ (s : Shape) (t : List Node) where
  -- a row without a partner is one of the entry's type, and no row of the parent entry's type is closest to it
  pub alone_of_lem : (e : ℕ) (r : Node) → Has r (alone t s e) → Of t (kind s e) r × (is_empty (closest_of t r (kind s (parent s e))) ≡ true)
  unfolding alone
  alone_of_lem e r h =
      let (hr, empty) = keep-has (λ r. eqb (closest_number t (kind s (parent s e)) r) 0) r (of_kind t (kind s e)) h in
      (kind_of t (kind s e) r hr, sym (closest-none t (kind s (parent s e)) r) ∙ empty)

  -- what earns a 1, and what earns a 2 or a 3
  lone-has : (x : Verdict) → Has x (lone t s) → (e : ℕ) × (0 < e) × (e < length s.ways) × (r : Node) × Has r (alone t s e) × (x ≡ missing e r.place)
  unfolding lone
  lone-has x h =
      let (e, he, i) = join-has (λ e. map (λ (r : Node). missing e r.place) (alone t s e)) x (drop 1 (numbers s)) h in
      let (r, hr, q) = map-has (λ (r : Node). missing e r.place) x (alone t s e) i in
      let (lo, hi) = later (length s.ways) e he in
      (e, lo, hi, r, hr, q)
    where
      later : (n e : ℕ) → Has e (drop 1 (count 0 n)) → (0 < e) × (e < n)
      later zero e h = absurd h
      later (suc n) e h = let r = count-has 1 n e h in (r.0, omega (arith, r.1))

  has-lone : (e : ℕ) (r : Node) → 0 < e → e < length s.ways → Has r (alone t s e) → Has (missing e r.place) (lone t s)
  unfolding lone
  has-lone e r pos lt h =
      has_join (λ e. map (λ (r : Node). missing e r.place) (alone t s e)) e (missing e r.place) (drop 1 (numbers s))
      (later (length s.ways) lt) (has-map (λ (r : Node). missing e r.place) r (alone t s e) h)
    where
      later : (n : ℕ) → e < n → Has e (drop 1 (count 0 n))
      later zero l = absurd (not-suc-le-zero l)
      later (suc n) l = has-count 1 n e pos (omega arith)

  fault-has : (x : Verdict) (e f : ℕ) → Has x (pair_fault t s e f) → (x ≡ apart e f) ⊎ (x ≡ unsure e f)
  unfolding pair_fault
  fault-has x e f h = go (meets_least t s e f) (sure t s e f) h
    where
      go : (a b : Bool) → Has x (elim a [ false ↦ apart e f ∷ [] | true ↦ elim b [ true ↦ [] | false ↦ unsure e f ∷ [] ] ])
          → (x ≡ apart e f) ⊎ (x ≡ unsure e f)
      go true true h = absurd h
      go true false (inl q) = inr q
      go true false (inr h) = absurd h
      go false b (inl q) = inl q
      go false b (inr h) = absurd h

  pair_fault_lem : (e f : ℕ) → ((x : Verdict) → Has x (pair_fault t s e f) → ⊥) → (meets_least t s e f ≡ true) × (sure t s e f ≡ true)
  unfolding pair_fault
  pair_fault_lem e f none = go (meets_least t s e f) (sure t s e f) none
    where
      go : (a b : Bool) → ((x : Verdict) → Has x (elim a [ false ↦ apart e f ∷ [] | true ↦ elim b [ true ↦ [] | false ↦ unsure e f ∷ [] ] ]) → ⊥)
          → (a ≡ true) × (b ≡ true)
      go true true none = (refl, refl)
      go true false none = absurd (none (unsure e f) (inl refl))
      go false b none = absurd (none (apart e f) (inl refl))

  -- what a pair earns is one of what the pairs earn
  pairs-has : (x : Verdict) (e f : ℕ) → e < f → f < length s.ways → Has x (pair_fault t s e f) → Has x (over_pairs (pair_fault t s) (numbers s))
  pairs-has x e f ef lf = has-over_pairs (pair_fault t s) x 0 (length s.ways) e f (omega arith) ef (omega arith)

  -- a pair that earns no 2 meets at the least level on its path
  pair_least : (e f : ℕ) → (Has (apart e f) (pair_fault t s e f) → ⊥) → meets_least t s e f ≡ true
  unfolding pair_fault
  pair_least e f none = go (meets_least t s e f) none
    where
      go : (a : Bool) → (Has (apart e f) (elim a [ false ↦ apart e f ∷ [] | true ↦ elim (sure t s e f) [ true ↦ [] | false ↦ unsure e f ∷ [] ] ]) → ⊥)
          → a ≡ true
      go true none = refl
      go false none = absurd (none (inl refl))

  -- The second answer is yes: each pair meets so.
  pub none_apart_lem : none_apart t s ≡ true → (e f : ℕ) → e < f → f < length s.ways → meets_least t s e f ≡ true
  unfolding none_apart
  none_apart_lem ok e f ef lf =
      let pairs = over_pairs (pair_fault t s) (numbers s) in
      pair_least e f (λ h. false≢true (sym (not-true (any is_apart pairs) ok) ∙ has_any is_apart (apart e f) pairs (pairs-has (apart e f) e f ef lf h) refl))

  none_kept : (x : Verdict) → Has x (lone t s ++ over_pairs (pair_fault t s) (numbers s)) → x ≡ kept → ⊥
  none_kept x h e =
      ⊎_elim (λ i. let (c, lo, hi, r, hr, q) = lone-has x i in not_missing c r.place (sym q ∙ e))
      (λ i. let (a, b, j) = over_pairs-has (pair_fault t s) x (numbers s) i in
      ⊎_elim (λ q. not_apart a b (sym q ∙ e)) (λ q. not_unsure a b (sym q ∙ e)) (fault-has x a b j))
      (has_append x (lone t s) (over_pairs (pair_fault t s) (numbers s)) h)

  module _ (ok : verdict t s ≡ kept) where
    none : (x : Verdict) → Has x (lone t s ++ over_pairs (pair_fault t s) (numbers s)) → ⊥
    unfolding verdict
    none = first-none (lone t s ++ over_pairs (pair_fault t s) (numbers s)) none_kept ok

    -- Verdict 0: no row lacks a partner, and no pair earns a 2 or a 3.
    pub kept_alone : (c : ℕ) → 0 < c → c < length s.ways → (r : Node) → Has r (alone t s c) → ⊥
    kept_alone c pos lt r h =
        none (missing c r.place) (has_left (missing c r.place) (lone t s) (over_pairs (pair_fault t s) (numbers s)) (has-lone c r pos lt h))

    pub kept_pairs : (e f : ℕ) → e < f → f < length s.ways → (meets_least t s e f ≡ true) × (sure t s e f ≡ true)
    kept_pairs e f ef lf =
        pair_fault_lem e f (λ x h. none x (has_right x (lone t s) (over_pairs (pair_fault t s) (numbers s)) (pairs-has x e f ef lf h)))

  -- Verdict 1 names an entry but the first, and a row of its type that has no partner.
  pub missing_alone : (e p : ℕ) → verdict t s ≡ missing e p → (0 < e) × (e < length s.ways) × (r : Node) × Has r (alone t s e) × (r.place ≡ p)
  unfolding verdict
  missing_alone e p v =
      ⊎_elim (λ i. let (c, lo, hi, r, hr, q) = lone-has (missing e p) i in named c lo hi r hr q)
      (λ i. let (a, b, j) = over_pairs-has (pair_fault t s) (missing e p) (numbers s) i in
      ⊎_elim (λ q. let z : ◌≡◌ {A = ℕ} 0 1 = cc in let y : ⊥ = omega arith in absurd y)
      (λ q. let z : ◌≡◌ {A = ℕ} 0 1 = cc in let y : ⊥ = omega arith in absurd y) (fault-has (missing e p) a b j))
      (has_append (missing e p) (lone t s) (over_pairs (pair_fault t s) (numbers s))
      (first-has (missing e p) (lone t s ++ over_pairs (pair_fault t s) (numbers s)) v (not_missing e p)))
    where
      named : (c : ℕ) → 0 < c → c < length s.ways → (r : Node) → Has r (alone t s c) → missing e p ≡ missing c r.place
          → (0 < e) × (e < length s.ways) × (r : Node) × Has r (alone t s e) × (r.place ≡ p)
      named c lo hi r hr q =
          let ec : c ≡ e = cc in
          let ep : r.place ≡ p = cc in
          (subst (λ z. 0 < z) ec lo, subst (λ z. z < length s.ways) ec hi, r, subst (λ z. Has r (alone t s z)) ec hr, ep)
