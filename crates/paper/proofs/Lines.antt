-- The lines of a faithful table as chains of closest source rows. Assumes nothing.
use Prim.Native.Nat.{ℕ, zero, suc, ◌+◌, ◌-◌, ◌≤◌, ◌<◌, pred}
use native.Mathlib.Omega.{arith}
use mathlib.Core.Path.{◌≡◌, refl, sym, ◌∙◌, ap, subst, subst₂}
use mathlib.Core.Bool.{false≢true}
use mathlib.Core.List.{List, [], ◌∷◌, ◌++◌}
use lib.ListN.{length, get_or, take, drop, length-take, drop_of_length-le}
use lib.Seq.{take_all, take-take, take-length, take-suc, drop-cons}
use Rattle.paper.specs.Lists.{Has, last_or, up}
use Rattle.paper.specs.Closeness.{Node, closest_of, shared, meet}
use Rattle.paper.specs.Shapes.{Shape, kind, way, parent}
use Rattle.paper.specs.Verdict.{alone}
use Rattle.paper.specs.Faithful.{Faithful}
use Rattle.paper.proofs.Lists.{snoc_inj, in_some}
use Rattle.paper.proofs.Agree.{Agree, agree_take, agree_length, agree_sym, shared→agree, agree→shared, take_agree}
use Rattle.paper.proofs.Forest.{prefix, one-node}
use Rattle.paper.proofs.Closeness.{Near, of_kind_lem, closest_near, near_sym, near_closest_of}
use Rattle.paper.proofs.Chains.{Down, climb}
use Rattle.paper.proofs.Shapes.{Ways}
use Rattle.paper.proofs.Verdict.{Inside, inside, In, L, ag, NoneAlone, partnered, last_way, way_zero, child_parent, child_listed, listed_child, alone_of_lem}

module _ (t : List Node) (place : (x y : Node) → Has x t → Has y t → x.place ≡ y.place → x ≡ y)
    (s : Shape) (w : Ways s) (new : List Node) (source : Node → ℕ) (fa : Faithful t s new source) where
  -- a chain of closest rows from a row of g along cs
  abbrev pub D : ℕ → List ℕ → Node → Node → Type 0
  D g cs q r = Down (In s w t) (L s w t) (ag s w t) g cs q r

  -- r is the source row of line x
  abbrev pub Shows : Node → Node → Type 0
  Shows x r = In s w t x.kind r × (r.place ≡ source x)

  pub row_of_lem : (x : Node) → Has x new → (r : Node) × Shows x r
  row_of_lem x h = let f = fa.fits x h in (f.2, ((f.3, f.4), f.5))

  pub one_source : (x r q : Node) → Shows x r → Shows x q → r ≡ q
  one_source x r q a b = place r q a.0.0 b.0.0 (a.1 ∙ sym b.1)

  pub line_entry : (x : Node) → Has x new → x.kind < length s.ways
  line_entry x h = (fa.fits x h).0

  pub line_level : (x : Node) → Has x new → length x.dewey ≡ length (way s x.kind)
  line_level x h = (fa.fits x h).1

  -- The line right above a line that is no root has the parent entry, and a source row closest to its own.
  pub line_parent : (k : ℕ) (x q : Node) → Has x new → Shows x q → 0 < k → length x.dewey ≡ suc k
      → (z p : Node) × Has z new × Shows z p × (z.dewey ≡ take k x.dewey) × (way s x.kind ≡ way s z.kind ++ (x.kind ∷ []))
      × Near t (kind s z.kind) (kind s x.kind) p q
  line_parent k x q hx sq pos lx =
      let (z, hz, dz) = prefix new fa.forest x hx k pos (omega arith) in
      let under : up x.dewey ≡ z.dewey = ap (λ n. take n x.dewey) (ap pred lx) ∙ sym dz in
      let (child, close) = fa.only z x hz hx under in
      let (p, sp) = row_of_lem z hz in (
        z,
        p,
        hz,
        sp,
        dz,
        (listed_child s w z.kind x.kind child).1,
        closest_near t (kind s z.kind) (kind s x.kind) p q sp.0.1 sq.0.1 (close p q sp.0.0 sq.0.0 sp.1 sq.1),
      )

  -- a line above line y at level k, with the entry above y's, from whose source row closest rows lead down to r
  pub record Above (k : ℕ) (y r : Node) : Type 0 where
    pub line : Node
    pub row : Node
    pub there : Has line new
    pub shows : Shows line row
    pub number : line.dewey ≡ take k y.dewey
    pub entries : way s line.kind ≡ take k (way s y.kind)
    pub down : D line.kind (drop k (way s y.kind)) row r

  -- the entry of a line on the way, from the ways of the line and of the one above
  next_entry : (k c : ℕ) (v wy : List ℕ) → suc k ≤ length wy → v ++ (c ∷ []) ≡ take (suc k) wy → (v ≡ take k wy) × (drop k wy ≡ c ∷ drop (suc k) wy)
  next_entry k c v wy le e =
      let h = snoc_inj v (take k wy) c (get_or wy k 0) (e ∙ take-suc wy k 0 le) in
      (h.0, drop-cons wy k 0 le ∙ ap {B = List ℕ} (λ c. c ∷ drop (suc k) wy) (sym h.1))

  one_up : (k : ℕ) (y r : Node) → Has y new → 0 < k → suc k ≤ length (way s y.kind) → Above (suc k) y r → Above k y r
  one_up k y r hy pos le a =
      let x = a.line in
      let lx : length x.dewey ≡ suc k = omega (arith, ap length a.number, length-take (suc k) y.dewey, line_level y hy) in
      let (z, p, hz, sp, dz, wx, near) = line_parent k x a.row a.there a.shows pos lx in
      let h = next_entry k x.kind (way s z.kind) (way s y.kind) le (sym wx ∙ a.entries) in
      record {
        line = z;
        row = p;
        there = hz;
        shows = sp;
        number = dz ∙ ap (take k) a.number ∙ take-take k (suc k) y.dewey (omega arith);
        entries = h.0;
        down = subst (λ c. D z.kind c p r) (sym h.1) (a.row, a.shows.0, near, a.down);
      }

  -- The line above line y at level k has the entry above y's, and closest rows lead from its source row down to y's.
  pub line_above : (m k : ℕ) (y r : Node) → Has y new → Shows y r → 0 < k → k + m ≡ length (way s y.kind) → Above k y r
  line_above zero k y r hy sy pos e = record {
    line = y;
    row = r;
    there = hy;
    shows = sy;
    number = sym (take_all k y.dewey (omega (arith, line_level y hy)));
    entries = sym (take_all k (way s y.kind) (omega arith));
    down = subst (λ c. D y.kind c r r) (sym (drop_of_length-le (way s y.kind) {i = k} (omega arith))) refl;
  }
  line_above (suc m) k y r hy sy pos e = one_up k y r hy pos (omega arith) (line_above m (suc k) y r hy sy (omega arith) (omega arith))

  -- From a line down along a chain of closest rows there is a line.
  pub line_below : (cs : List ℕ) (x q r : Node) → Has x new → Shows x q → Inside s w x.kind cs → D x.kind cs q r
      → (y : Node) × Has y new × (y.kind ≡ last_or x.kind cs) × (source y ≡ r.place) × (take (length x.dewey) y.dewey ≡ x.dewey)
  line_below [] x q r hx sq io d = (x, hx, refl, sym sq.1 ∙ ap (λ (z : Node). z.place) d, take-length x.dewey)
  line_below (c ∷ cs) x q r hx sq io (p, ip, cl, d) =
      let (y, hy, uy, ky, sy) =
      fa.every x hx q sq.0.0 sq.1 c (child_listed s w x.kind c io.0 io.1) p (near_closest_of t (kind s x.kind) (kind s c) q p sq.0 ip cl) in
      let sp : Shows y p = (subst (λ z. In s w t z p) (sym ky) ip, sym sy) in
      let (z, hz, kz, sz, tz) = line_below cs y p r hy sp (subst (λ z. Inside s w z cs) (sym ky) io.2) (subst (λ z. D z cs p r) (sym ky) d) in
      let l : length x.dewey ≡ pred (length y.dewey) = sym (ap length uy) ∙ (omega (arith, length-take (pred (length y.dewey)) y.dewey)) in
      let n = length x.dewey in (
        z,
        hz,
        kz ∙ ap (λ c. last_or c cs) ky,
        sz,
        sym (take-take n (length y.dewey) z.dewey (omega arith)) ∙ ap (take n) tz ∙ ap (λ m. take m y.dewey) l ∙ uy,
      )

  -- Where no row lacks a partner, every row of an entry's type is shown.
  pub every_row : NoneAlone s w t → (e : ℕ) → e < length s.ways → (r : Node) → In s w t e r
      → (y : Node) × Has y new × (y.kind ≡ e) × (source y ≡ r.place)
  every_row no-alone e le r ir =
      let (cs, q) = w.root e le in
      let first : 0 < length s.ways = omega arith in
      let io = inside s w e le 0 cs (q ∙ ap (λ z. z ++ cs) (sym (way_zero s w first))) in
      let last : last_or 0 cs ≡ e = sym (ap (last_or 0) q) ∙ last_way s w e le in
      let (p, ip, d) = climb (In s w t) (L s w t) (ag s w t) 0 cs r (partnered s w t no-alone 0 cs first io) (subst (λ z. In s w t z r) (sym last) ir) in
      let (x, hx, kx, sx) = fa.roots p (of_kind_lem t (kind s 0) p ip) in
      let sp : Shows x p = (subst (λ z. In s w t z p) (sym kx) ip, sym sx) in
      let (y, hy, ky, sy, ty) = line_below cs x p r hx sp (subst (λ z. Inside s w z cs) (sym kx) io) (subst (λ z. D z cs p r) (sym kx) d) in
      (y, hy, ky ∙ ap (λ c. last_or c cs) kx ∙ last, sy)

  -- two lines hang under one line, from whose source row closest rows lead down to theirs
  pub record Share (k : ℕ) (x y r q : Node) : Type 0 where
    pub line : Node
    pub row : Node
    pub there : Has line new
    pub shows : Shows line row
    pub entries : way s line.kind ≡ take k (way s x.kind)
    pub entries' : way s line.kind ≡ take k (way s y.kind)
    pub down : D line.kind (drop k (way s x.kind)) row r
    pub down' : D line.kind (drop k (way s y.kind)) row q

  -- Two lines that agree to level k hang under one line of that level.
  pub share : (k : ℕ) (x y r q : Node) → Has x new → Has y new → Shows x r → Shows y q → 0 < k → Agree k x.dewey y.dewey → Share k x y r q
  share k x y r q hx hy sr sq pos a =
      let nx = agree_length k x.dewey y.dewey a in
      let ny = agree_length k y.dewey x.dewey (agree_sym k x.dewey y.dewey a) in
      let u = line_above (length (way s x.kind) - k) k x r hx sr pos (omega (arith, line_level x hx)) in
      let v = line_above (length (way s y.kind) - k) k y q hy sq pos (omega (arith, line_level y hy)) in
      let one : v.line ≡ u.line =
      one-node [] new fa.forest v.line u.line v.there u.there (v.number ∙ sym (agree_take k x.dewey y.dewey a) ∙ sym u.number) in
      let same : v.row ≡ u.row = one_source u.line v.row u.row (subst (λ l. Shows l v.row) one v.shows) u.shows in
      record {
        line = u.line;
        row = u.row;
        there = u.there;
        shows = u.shows;
        entries = u.entries;
        entries' = sym (ap (λ (l : Node). way s l.kind) one) ∙ v.entries;
        down = u.down;
        down' = subst₂ (λ (l c : Node). D l.kind (drop k (way s y.kind)) c q) one same v.down;
      }

  -- Lines meet no deeper than the ways of their entries.
  pub meet-ways : (x y : Node) → Has x new → Has y new → meet x y ≤ shared (way s x.kind) (way s y.kind)
  meet-ways x y hx hy = go (meet x y) refl
    where
      go : (k : ℕ) → meet x y ≡ k → k ≤ shared (way s x.kind) (way s y.kind)
      go zero q = omega arith
      go (suc k) q =
          let a : Agree (suc k) x.dewey y.dewey = shared→agree (suc k) x.dewey y.dewey (omega arith) in
          let (r, sr) = row_of_lem x hx in
          let (p, sp) = row_of_lem y hy in
          let sh = share (suc k) x y r p hx hy sr sp (omega arith) a in
          let nx = agree_length (suc k) x.dewey y.dewey a in
          let ny = agree_length (suc k) y.dewey x.dewey (agree_sym (suc k) x.dewey y.dewey a) in
          agree→shared (suc k) (way s x.kind) (way s y.kind)
          (take_agree (suc k) (way s x.kind) (way s y.kind) (omega (arith, line_level x hx)) (sym sh.entries ∙ sh.entries') (omega (arith, line_level y hy)))

  -- A row of an entry's type that has no partner stands in no line of that entry.
  pub alone-unshown : (e : ℕ) (r : Node) → 0 < e → Has r (alone t s e) → (x : Node) → Has x new → x.kind ≡ e → source x ≡ r.place → ⊥
  alone-unshown e r pos h x hx ke sx =
      let (ir, empty) = alone_of_lem s t e r h in
      let le : e < length s.ways = subst (λ z. z < length s.ways) ke (line_entry x hx) in
      let sr : Shows x r = (subst (λ z. In s w t z r) (sym ke) ir, sym sx) in
      let (z, p, hz, sp, dz, wx, near) = line_parent (pred (length x.dewey)) x r hx sr (omega (arith, long le)) (omega (arith, long le)) in
      let q : parent s e ≡ z.kind = subst (λ c. parent s c ≡ z.kind) ke (child_parent s w z.kind x.kind (line_entry z hz) wx) in
      let near' : Near t (kind s e) (kind s (parent s e)) r p =
      subst₂ (λ a b. Near t (kind s a) (kind s b) r p) ke (sym q) (near_sym t (kind s z.kind) (kind s x.kind) p r near) in
      let ip : In s w t (parent s e) p = subst (λ c. In s w t c p) (sym q) sp.0 in
      let some = in_some p (closest_of t r (kind s (parent s e))) (near_closest_of t (kind s e) (kind s (parent s e)) r p ir ip near') in
      false≢true (sym some ∙ empty)
    where
      -- a line of an entry but the first is no root
      long : e < length s.ways → 1 < length x.dewey
      long le =
          let (v, q) = w.root e le in
          let l : length x.dewey ≡ length (way s e) = line_level x hx ∙ ap (λ c. length (way s c)) ke in
          two v q l
        where
          two : (v : List ℕ) → way s e ≡ 0 ∷ v → length x.dewey ≡ length (way s e) → 1 < length x.dewey
          two [] q l =
              let z : ⊥ = omega (arith, sym (last_way s w e le) ∙ ap (last_or 0) q) in absurd z
          two (c ∷ v) q l = omega (arith, ap length q)
