-- Chains of closest rows along a shape's entries, over any notion of agreement. Assumes nothing.
use Prim.Native.Nat.{ℕ, ◌≤◌, ◌<◌}
use mathlib.Core.Path.{◌≡◌, refl, sym, subst}
use mathlib.Core.Logic.{◌⊎◌, inl, inr}
use mathlib.Core.List.{List, [], ◌∷◌}
use Rattle.paper.specs.Lists.{last_or}

-- E: entries, R: rows, In e r: r is a row of e's type, L: the level at which two entries' types meet, ag k r s: r and s agree on k components
module _ {E R : Type 0} (In : E → R → Type 0) (L : E → E → ℕ) (ag : ℕ → R → R → Type 0) where
  abbrev pub Close : E → E → R → R → Type 0
  Close e f r s = (0 < L e f) × ag (L e f) r s

  -- a chain of closest rows from q, of g, along cs, to r
  abbrev pub Down : E → List E → R → R → Type 0
  Down g [] q r = q ≡ r
  Down g (c ∷ cs) q r = (p : R) × In c p × Close g c q p × Down c cs p r

  abbrev pub AtLeast : ℕ → E → List E → Type 0
  AtLeast m g [] = Unit
  AtLeast m g (c ∷ cs) = (m ≤ L g c) × AtLeast m c cs

  -- every row of a child's type has a partner
  abbrev pub Partnered : E → List E → Type 0
  Partnered g [] = Unit
  Partnered g (c ∷ cs) = ((s : R) → In c s → (r : R) × In g r × Close g c r s) × Partnered c cs

  abbrev pub Full : E → E → Type 0
  Full g c = (r : R) → In g r → (s : R) × In c s × Close g c r s

  abbrev pub Sure : ℕ → E → List E → Type 0
  Sure m g [] = ⊥
  Sure m g (c ∷ cs) = (L g c ≡ m) ⊎ (Full g c × Sure m c cs)

  -- up by partners
  pub climb : (g : E) (cs : List E) (r : R) → Partnered g cs → In (last_or g cs) r → (q : R) × In g q × Down g cs q r
  climb g [] r pt i = (r, i, refl)
  climb g (c ∷ cs) r pt i =
      let d = climb c cs r pt.1 i in
      let u = pt.0 d.0 d.1 in
      (u.0, u.1, (d.0, d.1, u.2, d.2))

  pub down_in : (g : E) (cs : List E) (q r : R) → In g q → Down g cs q r → In (last_or g cs) r
  down_in g [] q r i d = subst (λ x. In g x) d i
  down_in g (c ∷ cs) q r i d = down_in c cs d.0 r d.1 d.3

  module _ (ag_sym : (k : ℕ) (r s : R) → ag k r s → ag k s r)
      (ag_trans : (k : ℕ) (r s t : R) → ag k r s → ag k s t → ag k r t)
      (ag_le : (k l : ℕ) (r s : R) → l ≤ k → ag k r s → ag l r s) where
    -- the ends of a chain agree on the least level
    pub down_agree : (m : ℕ) (g : E) (cs : List E) (q r : R) → AtLeast m g cs → ag m q q → Down g cs q r → ag m q r
    down_agree m g [] q r al own d = subst (λ x. ag m q x) d own
    down_agree m g (c ∷ cs) q r al own d =
        let p = d.0 in
        let qp = ag_le (L g c) m q p al.0 d.2.1 in
        ag_trans m q p r qp (down_agree m c cs p r al.1 (ag_trans m p q p (ag_sym m q p qp) qp) d.3)

    -- the same, from the chain's end
    pub up_agree : (m : ℕ) (g : E) (cs : List E) (q r : R) → AtLeast m g cs → ag m r r → Down g cs q r → ag m q r
    up_agree m g [] q r al own d = subst (λ x. ag m x r) (sym d) own
    up_agree m g (c ∷ cs) q r al own d =
        ag_trans m q d.0 r (ag_le (L g c) m q d.0 al.0 d.2.1) (up_agree m c cs d.0 r al.1 own d.3)

    -- nothing is made up: what hangs under one row of the fork is closest
    pub nothing_made_up : (m : ℕ) (g : E) (es fs : List E) (q r s : R) → ag m q q → 0 < m → L (last_or g es) (last_or g fs) ≡ m
        → AtLeast m g es → AtLeast m g fs → Down g es q r → Down g fs q s → Close (last_or g es) (last_or g fs) r s
    nothing_made_up m g es fs q r s own pos lev ae af de df =
        rw lev (pos, ag_trans m r q s (ag_sym m q r (down_agree m g es q r ae own de)) (down_agree m g fs q s af own df))

    -- from a row of the fork down to a row that it agrees with
    pub reach : (m : ℕ) (g : E) (cs : List E) (q s : R) → 0 < m → Sure m g cs → AtLeast m g cs → Partnered g cs
        → In (last_or g cs) s → ag m q s → In g q → Down g cs q s
    reach m g [] q s pos su al pt i a iq = absurd su
    reach m g (c ∷ cs) q s pos (inl e) al pt i a iq =
        let u = climb c cs s pt.1 i in
        let own = ag_trans m s q s (ag_sym m q s a) a in
        let us = up_agree m c cs u.0 s al.1 own u.2 in
        (u.0, u.1, rw e (pos, ag_trans m q s u.0 a (ag_sym m u.0 s us)), u.2)
    reach m g (c ∷ cs) q s pos (inr (h, su)) al pt i a iq =
        let p = h q iq in
        let qp = ag_le (L g c) m q p.0 al.0 p.2.1 in
        (p.0, p.1, p.2, reach m c cs p.0 s pos su al.1 pt.1 i (ag_trans m p.0 q s (ag_sym m q p.0 qp) a) p.1)

    -- nothing is missing: two closest rows hang under one row of the fork, where the side of the second is sure
    pub nothing_missing : (m : ℕ) (g : E) (es fs : List E) (r s : R) → 0 < m → Sure m g fs
        → AtLeast m g es → AtLeast m g fs → Partnered g es → Partnered g fs
        → In (last_or g es) r → In (last_or g fs) s → ag m r s → (q : R) × In g q × Down g es q r × Down g fs q s
    nothing_missing m g es fs r s pos su ae af pe pf ir is a =
        let u = climb g es r pe ir in
        let own = ag_trans m r s r a (ag_sym m r s a) in
        let qr = up_agree m g es u.0 r ae own u.2 in
        (u.0, u.1, u.2, reach m g fs u.0 s pos su af pf is (ag_trans m u.0 r s qr a) u.1)
