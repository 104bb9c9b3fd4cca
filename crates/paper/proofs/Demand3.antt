-- Demand 3 for any faithful table: nothing made up, nothing missing, and the two together. Assumes nothing.
use Prim.Native.Nat.{ℕ, ◌-◌, ◌≤◌, ◌<◌}
use native.Mathlib.Nat.{le_antisymm, le_trans}
use native.Mathlib.Omega.{arith}
use mathlib.Core.Path.{◌≡◌, refl, sym, ◌∙◌, ap, ap₂, subst, subst₂}
use mathlib.Core.Logic.{◌⊎◌, inl, inr, ⊎_elim}
use mathlib.Core.Bool.{Bool, true}
use mathlib.Core.List.{List, [], ◌∷◌, ◌++◌, map}
use lib.Dec.{leb, eqb}
use lib.ListN.{length, take, drop, take-append-drop, length-take}
use borrow.Author.Tests.{eqb-true}
use Rattle.paper.specs.Lists.{Has, all, any, last_or}
use Rattle.paper.specs.Closeness.{Node, meet, shared, kinds_meet}
use Rattle.paper.specs.Shapes.{Shape, kind, way, fork, side, path}
use Rattle.paper.specs.Verdict.{meeting, edge_level, sure_down, meets_least, sure}
use Rattle.paper.specs.Faithful.{Faithful}
use Rattle.paper.proofs.Lists.{both, either, all-has, has_all, any_has, has_left, has_right, has_append, map-has, map_append, last_append}
use Rattle.paper.proofs.Agree.{Agree, agree_sym, agree_trans, agree_le, agree_take, take_agree, agree→shared, shared_agree, shared-sym, shared-length, drops_differ}
use Rattle.paper.proofs.Closeness.{Of, Near, near_from, meet_le, kinds_meet_le}
use Rattle.paper.proofs.Chains.{Down, AtLeast, nothing_made_up, nothing_missing}
use Rattle.paper.proofs.Shapes.{Ways}
use Rattle.paper.proofs.Verdict.{Inside, inside, In, L, ag, NoneAlone, at_least, sure_down_lem, partnered, last_way, way_one, edge_level_lem}
use Rattle.paper.proofs.Lines.{Shows, row_of_lem, line_entry, line_level, line_above, line_below, every_row, share, meet-ways}

-- ---- agreement of rows
ag_sym : (k : ℕ) (r s : Node) → Agree k r.dewey s.dewey → Agree k s.dewey r.dewey
ag_sym k r s = agree_sym k r.dewey s.dewey

ag_trans : (k : ℕ) (r s t : Node) → Agree k r.dewey s.dewey → Agree k s.dewey t.dewey → Agree k r.dewey t.dewey
ag_trans k r s t = agree_trans k r.dewey s.dewey t.dewey

ag_le : (k l : ℕ) (r s : Node) → l ≤ k → Agree k r.dewey s.dewey → Agree l r.dewey s.dewey
ag_le k l r s = agree_le k l r.dewey s.dewey

-- what agrees with another agrees with itself
ag_own : (m l : ℕ) (q p : Node) → m ≤ l → Agree l q.dewey p.dewey → Agree m q.dewey q.dewey
ag_own m l q p le a = let b = ag_le l m q p le a in ag_trans m q p q b (ag_sym m q p b)

-- ---- the fork of two entries
module _ (s : Shape) (w : Ways s) (e f : ℕ) (le : e < length s.ways) (lf : f < length s.ways) where
  -- how far their ways go together
  abbrev pub together : ℕ
  together = shared (way s e) (way s f)

  pub together-pos : 0 < together
  together-pos =
      let (v, ev) = w.root e le in
      let (u, eu) = w.root f lf in
      agree→shared 1 (way s e) (way s f) (subst₂ (λ a b. Agree 1 a b) (sym ev) (sym eu) (refl, tt))

  pub fork_entry_lem : (g : ℕ) × (g < length s.ways) × (way s g ≡ take together (way s e))
  fork_entry_lem = w.cut e le together together-pos (shared-length (way s e) (way s f))

  -- it is the fork
  pub fork_way : way s (fork s e f) ≡ take together (way s e)
  fork_way =
      let (g, lg, q) = fork_entry_lem in
      ap (way s) (ap (last_or 0) (sym q) ∙ last_way s w g lg) ∙ q

  pub fork_in : fork s e f < length s.ways
  fork_in = let (g, lg, q) = fork_entry_lem in subst (λ z. z < length s.ways) (sym (ap (last_or 0) (sym q) ∙ last_way s w g lg)) lg

  pub side_f : side s f e ≡ drop together (way s f)
  side_f = ap (λ n. drop n (way s f)) (shared-sym (way s f) (way s e))

  pub take_same : take together (way s e) ≡ take together (way s f)
  take_same = agree_take together (way s e) (way s f) (shared_agree (way s e) (way s f))

  -- for any entry g whose way is the part shared
  module _ (g : ℕ) (lg : g < length s.ways) (wg : way s g ≡ take together (way s e)) where
    way_e : way s e ≡ way s g ++ drop together (way s e)
    way_e = sym (take-append-drop together (way s e)) ∙ ap (λ z. z ++ drop together (way s e)) (sym wg)

    way_f : way s f ≡ way s g ++ drop together (way s f)
    way_f = sym (take-append-drop together (way s f)) ∙ ap (λ z. z ++ drop together (way s f)) (sym (wg ∙ take_same))

    pub inside_e : Inside s w g (drop together (way s e))
    inside_e = inside s w e le g (drop together (way s e)) way_e

    pub inside_f : Inside s w g (drop together (way s f))
    inside_f = inside s w f lf g (drop together (way s f)) way_f

    pub last_e : last_or g (drop together (way s e)) ≡ e
    last_e =
        ap (λ z. last_or z (drop together (way s e))) (sym (last_way s w g lg)) ∙ sym (last_append 0 (way s g) (drop together (way s e)))
        ∙ sym (ap (last_or 0) way_e) ∙ last_way s w e le

    pub last_f : last_or g (drop together (way s f)) ≡ f
    last_f =
        ap (λ z. last_or z (drop together (way s f))) (sym (last_way s w g lg)) ∙ sym (last_append 0 (way s g) (drop together (way s f)))
        ∙ sym (ap (last_or 0) way_f) ∙ last_way s w f lf

-- ---- what "meets at exactly the least level on the path" says of the two sides
all_append : {A : Type 0} (p : A → Bool) (xs ys : List A) → all p (xs ++ ys) ≡ true → (all p xs ≡ true) × (all p ys ≡ true)
all_append p xs ys h =
    (has_all p xs (λ x i. all-has p x (xs ++ ys) h (has_left x xs ys i)), has_all p ys (λ x i. all-has p x (xs ++ ys) h (has_right x xs ys i)))

module _ (t : List Node) (s : Shape) (w : Ways s) (e f : ℕ) (least : meets_least t s e f ≡ true) where
  pub least-all : (all (leb (L s w t e f)) (map (edge_level t s) (side s e f)) ≡ true) × (all (leb (L s w t e f)) (map (edge_level t s) (side s f e)) ≡ true)
  unfolding meets_least meeting
  least-all =
      let levels = map (edge_level t s) (path s e f) in
      let a = (both (any (eqb (L s w t e f)) levels) (all (leb (L s w t e f)) levels) least).1 in
      all_append (leb (L s w t e f)) (map (edge_level t s) (side s e f)) (map (edge_level t s) (side s f e))
      (subst (λ l. all (leb (L s w t e f)) l ≡ true) (map_append (edge_level t s) (side s e f) (side s f e)) a)

  pub least_edge : (c : ℕ) × (Has c (side s e f) ⊎ Has c (side s f e)) × (L s w t e f ≡ edge_level t s c)
  unfolding meets_least meeting
  least_edge =
      let levels = map (edge_level t s) (path s e f) in
      let a = (both (any (eqb (L s w t e f)) levels) (all (leb (L s w t e f)) levels) least).0 in
      let (l, hl, q) = any_has (eqb (L s w t e f)) levels a in
      let (c, hc, ec) = map-has (edge_level t s) l (path s e f) hl in
      (c, has_append c (side s e f) (side s f e) hc, eqb-true (L s w t e f) l q ∙ ec)

-- ---- the two halves
module _ (t : List Node) (place : (x y : Node) → Has x t → Has y t → x.place ≡ y.place → x ≡ y)
    (s : Shape) (w : Ways s) (new : List Node) (source : Node → ℕ) (fa : Faithful t s new source) where
  abbrev Chain' : ℕ → List ℕ → Node → Node → Type 0
  Chain' g cs q r = Down (In s w t) (L s w t) (ag s w t) g cs q r

  -- the edges of a chain have levels above 0
  chain-pos : (g : ℕ) (cs : List ℕ) (q r : Node) → g < length s.ways → Inside s w g cs → Chain' g cs q r → (c : ℕ) → Has c cs → 0 < edge_level t s c
  chain-pos g [] q r lg io d c h = absurd h
  chain-pos g (b ∷ cs) q r lg io (p, ip, cl, d) c (inl x) =
      subst (λ z. 0 < edge_level t s z) (sym x) (omega (arith, cl.0, edge_level_lem s w t g b lg io.1))
  chain-pos g (b ∷ cs) q r lg io (p, ip, cl, d) c (inr h) = chain-pos b cs p r io.0 io.2 d c h

  -- of two chains from one row along different entries, one has an edge, so the row agrees with itself to the least level
  chain_own : (m g : ℕ) (cs ds : List ℕ) (q r x : Node) → (cs ≡ ds → ⊥) → AtLeast (In s w t) (L s w t) (ag s w t) m g cs
      → AtLeast (In s w t) (L s w t) (ag s w t) m g ds → Chain' g cs q r → Chain' g ds q x → Agree m q.dewey q.dewey
  chain_own m g [] [] q r x no_eq ae af c d = absurd (no_eq refl)
  chain_own m g [] (b ∷ ds) q r x no_eq ae af c (p, ip, cl, d) = ag_own m (L s w t g b) q p af.0 cl.1
  chain_own m g (b ∷ cs) ds q r x no_eq ae af (p, ip, cl, c) d = ag_own m (L s w t g b) q p ae.0 cl.1

  module _ (e f : ℕ) (le : e < length s.ways) (lf : f < length s.ways) (ne : e ≡ f → ⊥) (least : meets_least t s e f ≡ true) where
    k : ℕ
    k = together s w e f le lf

    differ : drop k (way s e) ≡ drop k (way s f) → ⊥
    unfolding k
    differ = drops_differ (way s e) (way s f) (λ q. ne (way_one s w e f le lf q))

    -- the fork, the chains' sides, and the least level on them
    module _ (g : ℕ) (lg : g < length s.ways) (wg : way s g ≡ take (together s w e f le lf) (way s e)) where
      at_e : AtLeast (In s w t) (L s w t) (ag s w t) (L s w t e f) g (drop k (way s e))
      unfolding k
      at_e = at_least s w t (L s w t e f) g (drop k (way s e)) lg (inside_e s w e f le lf g lg wg) (least-all t s w e f least).0

      at_f : AtLeast (In s w t) (L s w t) (ag s w t) (L s w t e f) g (drop k (way s f))
      unfolding k
      at_f =
          at_least s w t (L s w t e f) g (drop k (way s f)) lg (inside_f s w e f le lf g lg wg)
          (subst (λ c. all (leb (L s w t e f)) (map (edge_level t s) c) ≡ true) (side_f s w e f le lf) (least-all t s w e f least).1)

      -- chains down both sides make the least level positive
      least-pos : (q p r x : Node) → Chain' g (drop k (way s e)) q r → Chain' g (drop k (way s f)) p x → 0 < L s w t e f
      unfolding k
      least-pos q p r x c d =
          let (b, hb, eb) = least_edge t s w e f least in
          let pos : 0 < edge_level t s b =
          ⊎_elim (λ h. chain-pos g (drop k (way s e)) q r lg (inside_e s w e f le lf g lg wg) c b h)
          (λ h. chain-pos g (drop k (way s f)) p x lg (inside_f s w e f le lf g lg wg) d b (subst (λ z. Has b z) (side_f s w e f le lf) h)) hb in
          omega (arith, eb, pos)

      rows_near : (q r x : Node) → Chain' g (drop k (way s e)) q r → Chain' g (drop k (way s f)) q x → Near t (kind s e) (kind s f) r x
      unfolding k
      rows_near q r x c d =
          let m = L s w t e f in
          let last : L s w t (last_or g (drop k (way s e))) (last_or g (drop k (way s f))) ≡ m =
          ap₂ (λ a b. L s w t a b) (last_e s w e f le lf g lg wg) (last_f s w e f le lf g lg wg) in
          subst₂ (λ a b. Near t (kind s a) (kind s b) r x) (last_e s w e f le lf g lg wg) (last_f s w e f le lf g lg wg)
          (nothing_made_up (In s w t) (L s w t) (ag s w t) ag_sym ag_trans ag_le m g (drop k (way s e)) (drop k (way s f)) q r x
          (chain_own m g (drop k (way s e)) (drop k (way s f)) q r x differ at_e at_f c d) (least-pos q q r x c d) last at_e at_f c d)

    -- NOTHING MADE UP. Where the pair of entries earns no 2, two lines of them that hang under, or are, one line of their fork
    -- entry have closest source rows.
    pub made_up_none : (x y r q : Node) → Has x new → Has y new → x.kind ≡ e → y.kind ≡ f → Shows t place s w new source fa x r → Shows t place s w new source fa y q
        → Agree (together s w e f le lf) x.dewey y.dewey → Near t (kind s e) (kind s f) r q
    unfolding k
    made_up_none x y r q hx hy kx ky sr sq a =
        let h = share t place s w new source fa k x y r q hx hy sr sq (together-pos s w e f le lf) a in
        let z = h.line in
        let wz : way s z.kind ≡ take k (way s e) = h.entries ∙ ap (λ c. take k (way s c)) kx in
        rows_near z.kind (line_entry t place s w new source fa z h.there) wz h.row r q
        (subst (λ c. Chain' z.kind (drop k (way s c)) h.row r) kx h.down)
        (subst (λ c. Chain' z.kind (drop k (way s c)) h.row q) ky h.down')

    module _ (no-alone : NoneAlone s w t) (certain : sure t s e f ≡ true) where
      -- two closest rows hang under one row of the fork
      forked : (r x : Node) → In s w t e r → In s w t f x → Near t (kind s e) (kind s f) r x
          → (q : Node) × In s w t (fork_entry_lem s w e f le lf).0 q × Chain' (fork_entry_lem s w e f le lf).0 (drop k (way s e)) q r
          × Chain' (fork_entry_lem s w e f le lf).0 (drop k (way s f)) q x
      unfolding sure meeting k
      forked r x ir ix (pos, a) =
          let (g, lg, wg) = fork_entry_lem s w e f le lf in
          let m = L s w t e f in
          let ie = inside_e s w e f le lf g lg wg in
          let jf = inside_f s w e f le lf g lg wg in
          let ir' = subst (λ c. In s w t c r) (sym (last_e s w e f le lf g lg wg)) ir in
          let ix' = subst (λ c. In s w t c x) (sym (last_f s w e f le lf g lg wg)) ix in
          let pe = partnered s w t no-alone g (drop k (way s e)) lg ie in
          let pf = partnered s w t no-alone g (drop k (way s f)) lg jf in
          ⊎_elim
          (λ b. let (q, iq, df, de) = nothing_missing (In s w t) (L s w t) (ag s w t) ag_sym ag_trans ag_le m g (drop k (way s f)) (drop k (way s e)) x r pos
          (sure_down_lem s w t m g (drop k (way s e)) lg ie b) (at_f g lg wg) (at_e g lg wg) pf pe ix' ir' (ag_sym m r x a) in (q, iq, de, df))
          (λ b. nothing_missing (In s w t) (L s w t) (ag s w t) ag_sym ag_trans ag_le m g (drop k (way s e)) (drop k (way s f)) r x pos
          (sure_down_lem s w t m g (drop k (way s f)) lg jf (subst (λ c. sure_down t s m c ≡ true) (side_f s w e f le lf) b)) (at_e g lg wg) (at_f g lg wg) pe pf ir' ix' a)
          (either (sure_down t s m (side s e f)) (sure_down t s m (side s f e)) certain)

      -- NOTHING MISSING. Where no row lacks a partner and the pair earns neither a 2 nor a 3, two closest rows of the entries'
      -- types stand in lines that hang under, or are, one line of their fork entry.
      pub missing_none : (r x : Node) → In s w t e r → In s w t f x → Near t (kind s e) (kind s f) r x
          → (a b : Node) × Has a new × Has b new × (a.kind ≡ e) × (b.kind ≡ f) × (source a ≡ r.place) × (source b ≡ x.place)
          × Agree (together s w e f le lf) a.dewey b.dewey
      unfolding k
      missing_none r x ir ix near =
          let (g, lg, wg) = fork_entry_lem s w e f le lf in
          let (q, iq, de, df) = forked r x ir ix near in
          let (z, hz, kz, sz) = every_row t place s w new source fa no-alone g lg q iq in
          let sq : Shows t place s w new source fa z q = (subst (λ c. In s w t c q) (sym kz) iq, sym sz) in
          let (a, ha, ka, sa, ta) = line_below t place s w new source fa (drop k (way s e)) z q r hz sq
          (subst (λ c. Inside s w c (drop k (way s e))) (sym kz) (inside_e s w e f le lf g lg wg)) (subst (λ c. Chain' c (drop k (way s e)) q r) (sym kz) de) in
          let (b, hb, kb, sb, tb) = line_below t place s w new source fa (drop k (way s f)) z q x hz sq
          (subst (λ c. Inside s w c (drop k (way s f))) (sym kz) (inside_f s w e f le lf g lg wg)) (subst (λ c. Chain' c (drop k (way s f)) q x) (sym kz) df) in
          let lz : length z.dewey ≡ k =
          line_level t place s w new source fa z hz ∙ ap (λ c. length (way s c)) kz ∙ ap length wg
          ∙ (omega (arith, length-take k (way s e), shared-length (way s e) (way s f))) in (
            a,
            b,
            ha,
            hb,
            ka ∙ ap (λ c. last_or c (drop k (way s e))) kz ∙ last_e s w e f le lf g lg wg,
            kb ∙ ap (λ c. last_or c (drop k (way s f))) kz ∙ last_f s w e f le lf g lg wg,
            sa,
            sb,
            subst (λ n. Agree n a.dewey b.dewey) lz (both_under z.dewey a.dewey b.dewey ta tb),
          )
        where
          under : (d a : List ℕ) → take (length d) a ≡ d → length d ≤ length a
          under d a q = omega (arith, ap length q, length-take (length d) a)

          both_under : (d a b : List ℕ) → take (length d) a ≡ d → take (length d) b ≡ d → Agree (length d) a b
          both_under d a b qa qb = take_agree (length d) a b (under d a qa) (qa ∙ sym qb) (under d b qb)

      -- ---- so the lines of the two entries meet just at the level of their fork
      meets_le : kinds_meet new e f ≤ together s w e f le lf
      meets_le = kinds_meet_le new e f (together s w e f le lf) (λ x y ox oy.
          subst₂ (λ a b. meet x y ≤ shared (way s a) (way s b)) ox.1 oy.1 (meet-ways t place s w new source fa x y ox.0 oy.0))

      meets_ge : (a b : Node) → Of new e a → Of new f b → Agree (together s w e f le lf) a.dewey b.dewey → together s w e f le lf ≤ kinds_meet new e f
      meets_ge a b oa ob g = le_trans (agree→shared (together s w e f le lf) a.dewey b.dewey g) (meet_le new e f a b oa ob)

      -- a line of an entry h below the fork hangs on a chain from a row of the fork
      fork_chain : (g h : ℕ) → g < length s.ways → way s g ≡ take (together s w e f le lf) (way s h) → together s w e f le lf ≤ length (way s h)
          → (x : Node) → Of new h x → (q r : Node) × Chain' g (drop (together s w e f le lf) (way s h)) q r
      fork_chain g h lg wg lk x (hx, kx) =
          let n = together s w e f le lf in
          let (r, sr) = row_of_lem t place s w new source fa x hx in
          let l : n ≤ length (way s x.kind) = subst (λ c. n ≤ length (way s c)) (sym kx) lk in
          let a = line_above t place s w new source fa (length (way s x.kind) - n) n x r hx sr (together-pos s w e f le lf) (omega arith) in
          let wz : way s a.line.kind ≡ way s g = a.entries ∙ ap (λ c. take n (way s c)) kx ∙ sym wg in
          let gz : a.line.kind ≡ g = way_one s w a.line.kind g (line_entry t place s w new source fa a.line a.there) lg wz in
          (a.row, r, subst₂ (λ c d. Chain' c (drop n (way s d)) a.row r) gz kx a.down)

      -- where both entries have a line, their types meet
      types_meet_lem : (x y : Node) → Of new e x → Of new f y → 0 < L s w t e f
      unfolding k
      types_meet_lem x y ox oy =
          let (g, lg, wg) = fork_entry_lem s w e f le lf in
          let (q, r, c) = fork_chain g e lg wg (shared-length (way s e) (way s f)) x ox in
          let (p, u, d) = fork_chain g f lg (wg ∙ take_same s w e f le lf)
          (omega (arith, shared-sym (way s e) (way s f), shared-length (way s f) (way s e))) y oy in
          least-pos g lg wg q p r u c d

      -- ---- demand 3 for the two entries
      pub lines_rows : (x y r q : Node) → Of new e x → Of new f y → Near new e f x y → Shows t place s w new source fa x r → Shows t place s w new source fa y q
          → Near t (kind s e) (kind s f) r q
      lines_rows x y r q ox oy n sr sq =
          let (r₁, r₂, o₁, o₂, near) = near_from t (kind s e) (kind s f) (types_meet_lem x y ox oy) in
          let (a, b, ha, hb, ka, kb, sa, sb, g) = missing_none r₁ r₂ o₁ o₂ near in
          made_up_none x y r q ox.0 oy.0 ox.1 oy.1 sr sq
          (agree_le (kinds_meet new e f) (together s w e f le lf) x.dewey y.dewey (meets_ge a b (ha, ka) (hb, kb) g) n.1)

      pub rows_lines : (r q : Node) → In s w t e r → In s w t f q → Near t (kind s e) (kind s f) r q
          → (x y : Node) × Of new e x × Of new f y × Near new e f x y × (source x ≡ r.place) × (source y ≡ q.place)
      rows_lines r q ir iq near =
          let (a, b, ha, hb, ka, kb, sa, sb, g) = missing_none r q ir iq near in
          let m : kinds_meet new e f ≡ together s w e f le lf = le_antisymm meets_le (meets_ge a b (ha, ka) (hb, kb) g) in
          (a, b, (ha, ka), (hb, kb), subst (λ n. (0 < n) × Agree n a.dewey b.dewey) (sym m) (together-pos s w e f le lf, g), sa, sb)
