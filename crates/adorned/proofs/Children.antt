-- The children of a row of type p, of type k, are the rows of type k before the next of type p. Assumes nothing.
use Prim.Native.Nat.{ℕ, suc, ◌+◌, ◌≤◌, ◌<◌}
use native.Mathlib.Nat.{not-suc-le-zero, zero-add}
use native.Mathlib.Omega.{arith}
use mathlib.Core.Path.{◌≡◌, refl, sym, ◌∙◌, ap, ap₂, subst}
use mathlib.Core.Logic.{inl, inr, ⊎_elim}
use mathlib.Core.Bool.{Bool, true, false}
use mathlib.Core.List.{List, [], ◌∷◌, ◌++◌, map, append_assoc}
use lib.Dec.{eqb, leb}
use lib.ListN.{length, length-append}
use borrow.Author.Tests.{eqb-true, eqb-false, eq-eqb, ne_eqb, leb-true, leb-false}
use Rattle.paper.specs.Lists.{Has, keep, same, up, last_or}
use Rattle.paper.specs.Closeness.{Node, of_kind}
use Rattle.paper.specs.Adorned.{children_of}
use Rattle.paper.proofs.Lists.{eq_same, has_left, has_right, has_append, up_last}
use Rattle.paper.proofs.Agree.{Agree, agree_front, shared_eq}
use Rattle.paper.proofs.Forest.{Lt, lt_trans, lt_self, Forest, Numbered, place_bounds, one_place, in_order_lem, run}
use Rattle.paper.proofs.Closeness.{Of}
use Rattle.paper.proofs.Adorned.{children_none}
use Rattle.closest.proofs.Counts.{kinds_of}
use Rattle.adorned.specs.Runs.{lead, runs}

-- ---- counts over lists
keep_append : {A : Type 0} (q : A → Bool) (xs ys : List A) → keep q (xs ++ ys) ≡ keep q xs ++ keep q ys
keep_append q [] ys = refl
keep_append {A = A} q (x ∷ xs) ys = go (q x) refl (keep_append q xs ys)
  where
    go : (b : Bool) → q x ≡ b → keep q (xs ++ ys) ≡ keep q xs ++ keep q ys → keep q (x ∷ (xs ++ ys)) ≡ keep q (x ∷ xs) ++ keep q ys
    go true e ih = rw (e, keep) (ap {B = List A} (λ l. x ∷ l) ih)
    go false e ih = rw (e, keep) ih

children_append : (xs ys : List Node) (k : ℕ) (r : Node) → children_of (xs ++ ys) k r ≡ children_of xs k r + children_of ys k r
unfolding children_of of_kind
children_append xs ys k r =
    let of : Node → Bool = λ (x : Node). eqb x.kind k in
    let child : Node → Bool = λ (s : Node). same (up s.dewey) r.dewey in
    ap (λ l. length (keep child l)) (keep_append of xs ys) ∙ ap length (keep_append child (keep of xs) (keep of ys))
    ∙ length-append (keep child (keep of xs)) (keep child (keep of ys))

children_one : (x : Node) (xs : List Node) (k : ℕ) (r : Node) → x.kind ≡ k → up x.dewey ≡ r.dewey → children_of (x ∷ xs) k r ≡ suc (children_of xs k r)
unfolding children_of of_kind
children_one x xs k r e c = rw (eq-eqb x.kind k e, keep) (rw (eq_same c) refl)

children_other : (x : Node) (xs : List Node) (k : ℕ) (r : Node) → (x.kind ≡ k → ⊥) → children_of (x ∷ xs) k r ≡ children_of xs k r
unfolding children_of of_kind
children_other x xs k r ne = rw (ne_eqb x.kind k ne, keep) refl

of_kind-one : (x : Node) (xs : List Node) (k : ℕ) → x.kind ≡ k → of_kind (x ∷ xs) k ≡ x ∷ of_kind xs k
unfolding of_kind
of_kind-one x xs k e = rw (eq-eqb x.kind k e, keep) refl

of_kind_other : (x : Node) (xs : List Node) (k : ℕ) → (x.kind ≡ k → ⊥) → of_kind (x ∷ xs) k ≡ of_kind xs k
unfolding of_kind
of_kind_other x xs k ne = rw (ne_eqb x.kind k ne, keep) refl

of_kind_nil : (k : ℕ) → of_kind [] k ≡ []
unfolding of_kind
of_kind_nil k = refl

lt_up : (d : List ℕ) → 0 < length d → Lt (up d) d
lt_up [] pos = absurd (not-suc-le-zero pos)
lt_up (x ∷ d) pos = subst (λ z. Lt (up (x ∷ d)) z) (sym (up_last x d)) (longer (up (x ∷ d)) (last_or x d))
  where
    longer : (p : List ℕ) (c : ℕ) → Lt p (p ++ (c ∷ []))
    longer [] c = tt
    longer (y ∷ p) c = inr (refl, longer p c)

-- a number agrees with what stands right above it to that one's length
up_agree : (d : List ℕ) → 0 < length d → Agree (length (up d)) (up d) d
up_agree [] pos = absurd (not-suc-le-zero pos)
up_agree (x ∷ d) pos =
    let u = up (x ∷ d) in
    subst (λ z. Agree (length u) z (x ∷ d)) (mathlib.Core.List.append-nil u)
    (subst (λ z. Agree (length u) (u ++ []) z) (sym (up_last x d)) (agree_front u [] (last_or x d ∷ [])))

module _ (t : List Node) (num : Numbered 0 t) (forest : Forest t) (pos : (x : Node) → Has x t → 0 < length x.dewey) (p k : ℕ) (ne : k ≡ p → ⊥)
    (level : (x y : Node) → Of t p x → Of t p y → length x.dewey ≡ length y.dewey)
    (above : (s : Node) → Of t k s → (r : Node) × Of t p r × (r.dewey ≡ up s.dewey)) where
  -- a parent stands before its child
  parent_before : (r s : Node) → Has r t → Has s t → up s.dewey ≡ r.dewey → r.place < s.place
  parent_before r s hr hs e = go (leb s.place r.place) refl
    where
      lt : Lt r.dewey s.dewey
      lt = subst (λ d. Lt d s.dewey) e (lt_up s.dewey (pos s hs))

      go : (c : Bool) → leb s.place r.place ≡ c → r.place < s.place
      go true q = absurd (two (leb r.place s.place) refl)
        where
          two : (c : Bool) → leb r.place s.place ≡ c → ⊥
          two true z =
              let same : r ≡ s = one_place 0 t num r s hr hs (omega (arith, leb-true s.place r.place q, leb-true r.place s.place z)) in
              lt_self s.dewey (subst (λ (x : Node). Lt x.dewey s.dewey) same lt)
          two false z = lt_self s.dewey (lt_trans s.dewey r.dewey s.dewey (in_order_lem 0 [] t num forest s r hs hr (leb-false r.place s.place z)) lt)
      go false q = leb-false s.place r.place q

  -- no row of type p stands between a parent of type p and its child
  parent_last : (r x s : Node) → Of t p r → Of t p x → Of t k s → up s.dewey ≡ r.dewey → r.place < x.place → x.place < s.place → ⊥
  parent_last r x s or ox os e rx xs =
      let l = length r.dewey in
      let a : Agree l r.dewey s.dewey = subst (λ d. Agree (length d) d s.dewey) e (up_agree s.dewey (pos s os.0)) in
      let b : Agree l r.dewey x.dewey = (run t num forest l r x s or.0 ox.0 os.0 rx xs a).0 in
      let same : r.dewey ≡ x.dewey = shared_eq r.dewey x.dewey (level r x or ox) b in
      lt_self x.dewey (subst (λ d. Lt d x.dewey) same (in_order_lem 0 [] t num forest r x or.0 ox.0 rx))

  -- the last row of type p before a row of type k is its parent
  last_parent : (u s : Node) → Of t p u → Of t k s → u.place < s.place → ((x : Node) → Of t p x → u.place < x.place → s.place ≤ x.place) → up s.dewey ≡ u.dewey
  last_parent u s ou os lt last =
      let (r, or, e) = above s os in
      let before = parent_before r s or.0 os.0 (sym e) in
      go r or e before (leb r.place u.place) (leb u.place r.place) refl refl
    where
      go : (r : Node) → Of t p r → r.dewey ≡ up s.dewey → r.place < s.place → (a b : Bool) → leb r.place u.place ≡ a → leb u.place r.place ≡ b
          → up s.dewey ≡ u.dewey
      go r or e rs true true q z =
          sym e ∙ ap (λ (x : Node). x.dewey) (one_place 0 t num r u or.0 ou.0 (omega (arith, leb-true r.place u.place q, leb-true u.place r.place z)))
      go r or e rs true false q z = absurd (parent_last r u s or ou os (sym e) (leb-false u.place r.place z) lt)
      go r or e rs false b q z = let w : ⊥ = omega (arith, last r or (leb-false r.place u.place q)) in absurd w

  -- ---- from u on: the children of u in the rest are those before the next of type p
  lead_children : (u : Node) → Of t p u → (j : ℕ) (rest : List Node) → Numbered j rest → ((x : Node) → Has x rest → Has x t) → u.place < j
      → ((x : Node) → Of t p x → u.place < x.place → j ≤ x.place) → lead p k (kinds_of rest) ≡ children_of rest k u
  lead_children u ou j [] nr inn lt last = sym (children_none [] k u (λ s o c. o.0))
  lead_children u ou j (x ∷ rest) nr inn lt last = go (eqb x.kind p) (eqb x.kind k) refl refl (λ np. lead_children u ou (suc j) rest nr.1 (λ y h. inn y (inr h)) (omega arith) (further np))
    where
      hx : Has x t
      hx = inn x (inl refl)

      -- past x, which is not of type p, the next of type p is later still
      further : (x.kind ≡ p → ⊥) → (y : Node) → Of t p y → u.place < y.place → suc j ≤ y.place
      further np y oy ly = step (leb (suc j) y.place) refl
        where
          step : (c : Bool) → leb (suc j) y.place ≡ c → suc j ≤ y.place
          step true e = leb-true (suc j) y.place e
          step false e =
              let q : x.place ≡ y.place = omega (arith, nr.0, leb-false (suc j) y.place e, last y oy ly) in
              absurd (np (ap (λ (z : Node). z.kind) (one_place 0 t num x y hx oy.0 q) ∙ oy.1))

      none-later : x.kind ≡ p → (s : Node) → Of (x ∷ rest) k s → up s.dewey ≡ u.dewey → ⊥
      none-later e s (inl q, ks) c = ne (sym ks ∙ ap (λ (z : Node). z.kind) q ∙ e)
      none-later e s (inr h, ks) c =
          parent_last u x s ou (hx, e) (inn s (inr h), ks) c (omega (arith, nr.0)) (omega (arith, nr.0, (place_bounds (suc j) rest nr.1 s h).0))

      go : (a b : Bool) → eqb x.kind p ≡ a → eqb x.kind k ≡ b → ((x.kind ≡ p → ⊥) → lead p k (kinds_of rest) ≡ children_of rest k u)
          → lead p k (kinds_of (x ∷ rest)) ≡ children_of (x ∷ rest) k u
      go true b e q ih = rw (e, lead) (sym (children_none (x ∷ rest) k u (none-later (eqb-true x.kind p e))))
      go false true e q ih =
          let np = eqb-false x.kind p e in
          let xk = eqb-true x.kind k q in
          let c = last_parent u x ou (hx, xk) (omega (arith, nr.0)) (λ y oy ly. omega (arith, last y oy ly, nr.0)) in
          rw (e, lead) (rw q (ap suc (ih np) ∙ sym (children_one x rest k u xk c)))
      go false false e q ih =
          let np = eqb-false x.kind p e in
          rw (e, lead) (rw q (ih np ∙ sym (children_other x rest k u (eqb-false x.kind k q))))

  -- ---- along the table: what stood before is pre
  runs_children : (pre rest : List Node) → pre ++ rest ≡ t → Numbered (length pre) rest → ((x : Node) → Has x pre → x.place < length pre)
      → runs p k (kinds_of rest) ≡ map (children_of t k) (of_kind rest p)
  runs_children pre [] e nr low = ap (map (children_of t k)) (sym (of_kind_nil p))
  runs_children pre (x ∷ rest) e nr low = go (eqb x.kind p) refl (runs_children (pre ++ (x ∷ [])) rest (append_assoc pre (x ∷ []) rest ∙ e) next lower)
    where
      len : length (pre ++ (x ∷ [])) ≡ suc (length pre)
      len = omega (arith, length-append pre (x ∷ []))

      next : Numbered (length (pre ++ (x ∷ []))) rest
      next = subst (λ n. Numbered n rest) (sym len) nr.1

      lower : (y : Node) → Has y (pre ++ (x ∷ [])) → y.place < length (pre ++ (x ∷ []))
      lower y h = ⊎_elim (λ i. omega (arith, low y i, len)) (λ i. last i) (has_append y pre (x ∷ []) h)
        where
          last : Has y (x ∷ []) → y.place < length (pre ++ (x ∷ []))
          last (inl q) = omega (arith, ap (λ (z : Node). z.place) q, nr.0, len)
          last (inr z) = absurd z

      inside : (y : Node) → Has y (x ∷ rest) → Has y t
      inside y h = subst (λ l. Has y l) e (has_right y pre (x ∷ rest) h)

      count : x.kind ≡ p → lead p k (kinds_of rest) ≡ children_of t k x
      count q =
          let ox : Of t p x = (inside x (inl refl), q) in
          let early : children_of pre k x ≡ 0 = children_none pre k x (λ s o c.
          omega (arith, parent_before x s ox.0 (subst (λ l. Has s l) e (has_left s pre (x ∷ rest) o.0)) c, low s o.0, nr.0)) in
          lead_children x ox (suc (length pre)) rest nr.1 (λ y h. inside y (inr h)) (omega (arith, nr.0)) (λ y oy ly. omega (arith, nr.0))
          ∙ sym (children_other x rest k x (λ z. ne (sym z ∙ q)))
          ∙ sym (ap (λ l. children_of l k x) (sym e) ∙ children_append pre (x ∷ rest) k x ∙ ap (λ n. n + children_of (x ∷ rest) k x) early ∙ zero-add (children_of (x ∷ rest) k x))

      go : (b : Bool) → eqb x.kind p ≡ b → runs p k (kinds_of rest) ≡ map (children_of t k) (of_kind rest p)
          → runs p k (kinds_of (x ∷ rest)) ≡ map (children_of t k) (of_kind (x ∷ rest) p)
      go true q ih =
          let xp = eqb-true x.kind p q in
          rw (q, runs) (ap₂ {C = List ℕ} (λ a l. a ∷ l) (count xp) ih ∙ ap (map (children_of t k)) (sym (of_kind-one x rest p xp)))
      go false q ih = rw (q, runs) (ih ∙ ap (map (children_of t k)) (sym (of_kind_other x rest p (eqb-false x.kind p q))))

  -- The children of type k of each row of type p, counted along the type numbers.
  pub runs_counts : runs p k (kinds_of t) ≡ map (children_of t k) (of_kind t p)
  runs_counts = runs_children [] t refl num (λ x h. absurd h)
