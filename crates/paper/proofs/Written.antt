-- The new table that the reshape's definition writes is faithful. Assumes nothing.
use Prim.Native.Nat.{ℕ, suc, ◌+◌, ◌≤◌, ◌<◌, pred}
use native.Mathlib.Nat.{not-suc-le-zero}
use native.Mathlib.Omega.{arith}
use mathlib.Core.Path.{◌≡◌, refl, sym, ◌∙◌, ap, subst, subst₂}
use mathlib.Core.Logic.{inl, inr}
use mathlib.Core.Bool.{true}
use mathlib.Core.List.{List, [], ◌∷◌, ◌++◌, map}
use lib.ListN.{length, get_or, length-append, length-map}
use Rattle.paper.specs.Lists.{Has, joined, last_or, up}
use Rattle.paper.specs.Closeness.{Node, nodes_from, of_kind, closest, closest_of}
use Rattle.paper.specs.Shapes.{Shape, kind, way, children}
use Rattle.paper.specs.NewTable.{Line, forest, tree, beneath, tops, lines}
use Rattle.paper.specs.Faithful.{Chain, Faithful}
use Rattle.paper.proofs.Lists.{has-map, map-has, has_join, join-has, joined_map, up_last, up_snoc}
use Rattle.paper.proofs.Closeness.{Of, kind_of, closest_of_near, closest_of-closest}
use Rattle.paper.proofs.Tables.{nodes_from_deweys}
use Rattle.paper.proofs.Shapes.{Ways}
use Rattle.paper.proofs.Verdict.{In, NoneAlone, listed_child, way_zero, way_pos}
use Rattle.paper.proofs.Lines.{every_row}
use Rattle.paper.proofs.Trees.{Nth, nth_has, has_nth, Hang, Stands, grown_chain, grown_within, grown_stands, stands_grown, stands_same, stands_up, up_stands}

-- ---- the nodes of lines
abbrev pub line_nodes : ℕ → List Line → List Node
line_nodes i ls = nodes_from i (map (λ (l : Line). l.entry) ls) (map (λ (l : Line). l.dewey) ls)

-- node x is line l, the j-th from i, in a list with a figure g for each line
abbrev Is : (Line → ℕ) → ℕ → List Line → Node → Line → Type 0
Is g i ls x l =
    Has l ls × (x.kind ≡ l.entry) × (x.dewey ≡ l.dewey) × (j : ℕ) × (x.place ≡ i + j) × (get_or (map g ls) j 0 ≡ g l)

node_line : (g : Line → ℕ) (i : ℕ) (ls : List Line) (x : Node) → Has x (line_nodes i ls) → (l : Line) × Is g i ls x l
node_line g i [] x h = absurd h
node_line g i (l ∷ ls) x (inl e) =
    (l, (inl refl, ap (λ (x : Node). x.kind) e, ap (λ (x : Node). x.dewey) e, 0, ap (λ (x : Node). x.place) e ∙ (omega arith), refl))
node_line g i (l ∷ ls) x (inr h) =
    let (m, (hm, k, d, j, p, q)) = node_line g (suc i) ls x h in
    (m, (inr hm, k, d, suc j, p ∙ (omega arith), q))

line_node : (g : Line → ℕ) (i : ℕ) (ls : List Line) (l : Line) → Has l ls → (x : Node) × Has x (line_nodes i ls) × Is g i ls x l
line_node g i [] l h = absurd h
line_node g i (m ∷ ls) l (inl e) = (
  record { place = i; kind = m.entry; dewey = m.dewey },
  inl refl,
  (inl e, ap (λ (l : Line). l.entry) (sym e), ap (λ (l : Line). l.dewey) (sym e), 0, (omega arith), ap g (sym e)),
)
line_node g i (m ∷ ls) l (inr h) =
    let (x, hx, (hl, k, d, j, p, q)) = line_node g (suc i) ls l h in
    (x, inr hx, (inr hl, k, d, suc j, p ∙ (omega arith), q))

abbrev Pair : Type 0
Pair = ℕ × Node

module _ (t : List Node) (s : Shape) where
  -- ---- what stands beneath a line
  kids_has : (x : Pair) (c : ℕ) (r : Node) → Has (c, r) (joined (beneath t s x)) → Has c (children s x.0) × Has r (closest_of t x.1 (kind s c))
  unfolding beneath
  kids_has x c r h =
      let group : ℕ → List Pair = λ c. map (λ (r : Node). (c, r)) (closest_of t x.1 (kind s c)) in
      let (d, hd, i) = join-has group (c, r) (children s x.0) (subst (λ l. Has (c, r) l) (joined_map group (children s x.0)) h) in
      let (q, hq, e) = map-has {B = Pair} (λ (r : Node). (d, r)) (c, r) (closest_of t x.1 (kind s d)) i in
      let ec : d ≡ c = sym (ap (λ (y : Pair). y.0) e) in
      let er : q ≡ r = sym (ap (λ (y : Pair). y.1) e) in
      (subst (λ z. Has z (children s x.0)) ec hd, subst₂ (λ a b. Has a (closest_of t x.1 (kind s b))) er ec hq)

  has_kids : (x : Pair) (c : ℕ) (r : Node) → Has c (children s x.0) → Has r (closest_of t x.1 (kind s c)) → Has (c, r) (joined (beneath t s x))
  unfolding beneath
  has_kids x c r hc hr =
      let group : ℕ → List Pair = λ c. map (λ (r : Node). (c, r)) (closest_of t x.1 (kind s c)) in
      subst (λ l. Has (c, r) l) (sym (joined_map group (children s x.0)))
      (has_join group c (c, r) (children s x.0) hc (has-map {B = Pair} (λ (r : Node). (c, r)) r (closest_of t x.1 (kind s c)) hr))

  line_stands : (n : ℕ) (l : Line) → Has l (lines t s n) → Stands (beneath t s) (pred n) (tops t s) l.dewey (l.entry, l.source)
  unfolding lines
  line_stands n l h =
      let all = forest (tree (beneath t s) (pred n)) [] 1 (tops t s) in
      let (x, hx, e) = map-has (λ (x : Pair × List ℕ). record { entry = x.0.0; source = x.0.1; dewey = x.1 }) l all h in
      subst (λ (l : Line). Stands (beneath t s) (pred n) (tops t s) l.dewey (l.entry, l.source)) (sym e)
      (grown_stands (beneath t s) (pred n) (tops t s) x.0 x.1 hx)

  -- ---- each line's source row is one of its entry's type
  hang_type : (x y : Pair) (e : List ℕ) → Of t (kind s x.0) x.1 → Hang (beneath t s) x e y → Of t (kind s y.0) y.1
  hang_type x y [] o h = subst (λ (z : Pair). Of t (kind s z.0) z.1) h o
  hang_type x y (j ∷ e) o (z, nth, h) =
      let (hc, hr) = kids_has x z.0 z.1 (nth_has 1 (joined (beneath t s x)) j z nth) in
      hang_type z y e (closest_of_near t (kind s x.0) (kind s z.0) x.1 z.1 o.1 hr).0 h

  stands_type : (n : ℕ) (d : List ℕ) (y : Pair) → Stands (beneath t s) n (tops t s) d y → Of t (kind s y.0) y.1
  unfolding tops
  stands_type n [] y h = absurd h
  stands_type n (j ∷ e) y (x, nth, h) =
      let (r, hr, q) = map-has {B = Pair} (λ (r : Node). (0, r)) x (of_kind t (kind s 0)) (nth_has 1 (tops t s) j x nth) in
      hang_type x y e (subst (λ (z : Pair). Of t (kind s z.0) z.1) (sym q) (kind_of t (kind s 0) r hr)) h

  pub line_type : (n : ℕ) (l : Line) → Has l (lines t s n) → Of t (kind s l.entry) l.source
  line_type n l h = stands_type (pred n) l.dewey (l.entry, l.source) (line_stands n l h)

module _ (t : List Node) (place : (x y : Node) → Has x t → Has y t → x.place ≡ y.place → x ≡ y) (s : Shape) (w : Ways s)
    (some : 0 < length s.ways) (n : ℕ) (deep : (e : ℕ) → e < length s.ways → length (way s e) ≤ n) where
  -- ---- what stands at a number has an entry and the entry's level
  hang_fits : (x y : Pair) (e : List ℕ) → x.0 < length s.ways → Hang (beneath t s) x e y
      → (y.0 < length s.ways) × (length (way s y.0) ≡ length (way s x.0) + length e)
  hang_fits x y [] lx h = (subst (λ (z : Pair). z.0 < length s.ways) h lx, ap (λ (z : Pair). length (way s z.0)) (sym h) ∙ (omega arith))
  hang_fits x y (j ∷ e) lx (z, nth, h) =
      let (hc, hr) = kids_has t s x z.0 z.1 (nth_has 1 (joined (beneath t s x)) j z nth) in
      let (lc, wc) = listed_child s w x.0 z.0 hc in
      let (fy, ly) = hang_fits z y e lc h in
      (fy, omega (arith, ly, ap length wc, length-append (way s x.0) (z.0 ∷ [])))

  stands_fits : (d : List ℕ) (y : Pair) → Stands (beneath t s) (pred n) (tops t s) d y → (y.0 < length s.ways) × (length d ≡ length (way s y.0))
  unfolding tops
  stands_fits [] y h = absurd h
  stands_fits (j ∷ e) y (x, nth, h) =
      let (r, hr, q) = map-has {B = Pair} (λ (r : Node). (0, r)) x (of_kind t (kind s 0)) (nth_has 1 (tops t s) j x nth) in
      let (fy, ly) = hang_fits x y e (subst (λ (z : Pair). z.0 < length s.ways) (sym q) some) h in
      (fy, omega (arith, ly, ap (λ (z : Pair). length (way s z.0)) q, ap length (way_zero s w some)))

  -- ---- lines
  abbrev ls : List Line
  ls = lines t s n

  stands_line : (e : ℕ) (r : Node) (d : List ℕ) → Stands (beneath t s) (pred n) (tops t s) d (e, r) → Has (record { entry = e; source = r; dewey = d }) ls
  unfolding lines
  stands_line e r d h =
      let all = forest (tree (beneath t s) (pred n)) [] 1 (tops t s) in
      let (fy, ld) = stands_fits d (e, r) h in
      let le : length d ≤ suc (pred n) = omega (arith, deep e fy) in
      has-map (λ (x : Pair × List ℕ). record { entry = x.0.0; source = x.0.1; dewey = x.1 }) ((e, r), d) all
      (stands_grown (beneath t s) (pred n) (tops t s) (e, r) d le h)

  pub lines_chain : Chain [] (map (λ (l : Line). l.dewey) ls)
  unfolding lines
  lines_chain = subst (λ l. Chain [] l) (sym (numbers (forest (tree (beneath t s) (pred n)) [] 1 (tops t s)))) (grown_chain (beneath t s) (pred n) (tops t s))
    where
      numbers : (l : List (Pair × List ℕ))
          → map (λ (l : Line). l.dewey) (map (λ (x : Pair × List ℕ). record { entry = x.0.0; source = x.0.1; dewey = x.1 }) l)
          ≡ map (λ (x : Pair × List ℕ). x.1) l
      numbers [] = refl
      numbers (x ∷ l) = ap {B = List (List ℕ)} (λ z. x.1 ∷ z) (numbers l)

  -- no component of a line's number is above the number of lines
  pub line_within : (l : Line) → Has l ls → (c : ℕ) → Has c l.dewey → c ≤ length ls
  unfolding lines
  line_within l h c hc =
      let all = forest (tree (beneath t s) (pred n)) [] 1 (tops t s) in
      let to_line : Pair × List ℕ → Line = λ x. record { entry = x.0.0; source = x.0.1; dewey = x.1 } in
      let (x, hx, e) = map-has to_line l all h in
      let le = grown_within (beneath t s) (pred n) (tops t s) x hx c (subst (λ d. Has c d) (ap (λ (l : Line). l.dewey) e) hc) in
      omega (arith, le, length-map all to_line)

  pub line_fits : (l : Line) → Has l ls → (l.entry < length s.ways) × In s w t l.entry l.source × (length l.dewey ≡ length (way s l.entry))
  line_fits l h = let (f, q) = stands_fits l.dewey (l.entry, l.source) (line_stands t s n l h) in (f, line_type t s n l h, q)

  -- a figure for each line tells its source row
  module _ (g : Line → ℕ) (row : ℕ → ℕ) (tells : (l : Line) → Has l ls → row (g l) ≡ l.source.place) where
    abbrev pub new : List Node
    new = line_nodes 0 ls

    abbrev pub source : Node → ℕ
    source x = row (get_or (map g ls) x.place 0)

    -- the line of a node
    line_of_lem : (x : Node) → Has x new → (l : Line) × Has l ls × (x.kind ≡ l.entry) × (x.dewey ≡ l.dewey) × (source x ≡ l.source.place)
    line_of_lem x h =
        let (l, (hl, k, d, j, p, q)) = node_line g 0 ls x h in
        let pj : x.place ≡ j = p ∙ (omega arith) in
        (l, hl, k, d, ap (λ i. row (get_or (map g ls) i 0)) pj ∙ ap row q ∙ tells l hl)

    node_of : (e : ℕ) (r : Node) (d : List ℕ) → Stands (beneath t s) (pred n) (tops t s) d (e, r)
        → (x : Node) × Has x new × (x.kind ≡ e) × (x.dewey ≡ d) × (source x ≡ r.place)
    node_of e r d h =
        let l : Line = record { entry = e; source = r; dewey = d } in
        let hl = stands_line e r d h in
        let (x, hx, (hm, k, q, j, p, z)) = line_node g 0 ls l hl in
        let pj : x.place ≡ j = p ∙ (omega arith) in
        (x, hx, k, q, ap (λ i. row (get_or (map g ls) i 0)) pj ∙ ap row z ∙ tells l hl)

    -- a number beneath another, by its last component
    beneath_number : (a b : List ℕ) → 0 < length b → up b ≡ a → (j : ℕ) × (b ≡ a ++ (j ∷ []))
    beneath_number a [] pos e = absurd (not-suc-le-zero pos)
    beneath_number a (x ∷ b) pos e = (last_or x b, up_last x b ∙ ap (λ z. z ++ (last_or x b ∷ [])) e)

    above_line : (d : List ℕ) (j : ℕ) (x y : Pair) → Stands (beneath t s) (pred n) (tops t s) d x → Stands (beneath t s) (pred n) (tops t s) (d ++ (j ∷ [])) y
        → Nth 1 (joined (beneath t s x)) j y
    above_line [] j x y hx hy = absurd hx
    above_line (i ∷ e) j x y hx hy =
        let (z, hz, nth) = stands_up (beneath t s) (pred n) (tops t s) i e j y hy in
        subst (λ (p : Pair). Nth 1 (joined (beneath t s p)) j y) (stands_same (beneath t s) (pred n) (tops t s) (i ∷ e) z x hz hx) nth

    only_kids : (x y : Node) → Has x new → Has y new → up y.dewey ≡ x.dewey
        → Has y.kind (children s x.kind) × ((r q : Node) → Has r t → Has q t → r.place ≡ source x → q.place ≡ source y → closest t r q ≡ true)
    only_kids x y hx hy e =
        let (l, hl, kl, dl, sl) = line_of_lem x hx in
        let (m, hm, km, dm, sm) = line_of_lem y hy in
        let (fl, il, ll) = line_fits l hl in
        let (fm, im, lm) = line_fits m hm in
        let (j, q) = beneath_number l.dewey m.dewey (omega (arith, lm, way_pos s w m.entry fm)) (ap up (sym dm) ∙ e ∙ dl) in
        let nth = above_line l.dewey j (l.entry, l.source) (m.entry, m.source) (line_stands t s n l hl)
        (subst (λ d. Stands (beneath t s) (pred n) (tops t s) d (m.entry, m.source)) q (line_stands t s n m hm)) in
        let (hc, hr) = kids_has t s (l.entry, l.source) m.entry m.source
        (nth_has 1 (joined (beneath t s (l.entry, l.source))) j (m.entry, m.source) nth) in (
          subst₂ (λ a b. Has a (children s b)) (sym km) (sym kl) hc,
          λ r p hr₁ hp er ep. subst₂ (λ a b. closest t a b ≡ true)
              (place l.source r il.0 hr₁ (sym sl ∙ sym er)) (place m.source p im.0 hp (sym sm ∙ sym ep))
              (closest_of-closest t (kind s m.entry) l.source m.source il.0 hr),
        )

    every_kid : (x : Node) → Has x new → (r : Node) → Has r t → r.place ≡ source x → (c : ℕ) → Has c (children s x.kind)
        → (q : Node) → Has q (closest_of t r (kind s c)) → (y : Node) × Has y new × (up y.dewey ≡ x.dewey) × (y.kind ≡ c) × (source y ≡ q.place)
    every_kid x hx r hr er c hc q hq =
        let (l, hl, kl, dl, sl) = line_of_lem x hx in
        let (fl, il, ll) = line_fits l hl in
        let e : r ≡ l.source = place r l.source hr il.0 (er ∙ sl) in
        let kid = has_kids t s (l.entry, l.source) c q (subst (λ z. Has c (children s z)) kl hc) (subst (λ z. Has q (closest_of t z (kind s c))) e hq) in
        let (j, nth) = has_nth 1 (joined (beneath t s (l.entry, l.source))) (c, q) kid in
        let (y, hy, ky, dy, sy) = node_of c q (l.dewey ++ (j ∷ []))
        (up_stands (beneath t s) (pred n) (tops t s) l.dewey j (l.entry, l.source) (c, q) (line_stands t s n l hl) nth) in
        (y, hy, ap up dy ∙ up_snoc l.dewey j ∙ sym dl, ky, sy)

    root_line : (r : Node) → Has r (of_kind t (kind s 0)) → (x : Node) × Has x new × (x.kind ≡ 0) × (source x ≡ r.place)
    unfolding tops
    root_line r hr =
        let (j, nth) = has_nth {A = Pair} 1 (tops t s) (0, r) (has-map {B = Pair} (λ (r : Node). (0, r)) r (of_kind t (kind s 0)) hr) in
        let (x, hx, kx, dx, sx) = node_of 0 r (j ∷ []) ((0, r), nth, refl) in
        (x, hx, kx, sx)

    -- What the definition writes is faithful.
    pub lines_faithful : Faithful t s new source
    lines_faithful = record {
      forest = subst (λ d. Chain [] d) (sym (nodes_from_deweys 0 (map (λ (l : Line). l.entry) ls) (map (λ (l : Line). l.dewey) ls)
          (length-map ls (λ (l : Line). l.entry) ∙ sym (length-map ls (λ (l : Line). l.dewey))))) lines_chain;
      fits = λ x hx.
          let (l, hl, kl, dl, sl) = line_of_lem x hx in
          let (fl, il, ll) = line_fits l hl in
          (subst (λ z. z < length s.ways) (sym kl) fl, ap length dl ∙ ll ∙ ap (λ z. length (way s z)) (sym kl), l.source, il.0, il.1 ∙ ap (kind s) (sym kl), sym sl);
      roots = root_line;
      only = only_kids;
      every = every_kid;
    }

  -- Where no row lacks a partner, every row of an entry's type stands in a line of that entry.
  pub row_stands : NoneAlone s w t → (e : ℕ) → e < length s.ways → (r : Node) → In s w t e r
      → (l : Line) × Has l ls × (l.entry ≡ e) × (l.source.place ≡ r.place)
  row_stands no-alone e le r ir =
      let own : Line → ℕ = λ l. l.source.place in
      let same : ℕ → ℕ = λ i. i in
      let tells : (l : Line) → Has l ls → same (own l) ≡ l.source.place = λ l h. refl in
      let (x, hx, kx, sx) = every_row t place s w (new own same tells) (source own same tells) (lines_faithful own same tells) no-alone e le r ir in
      let (l, hl, kl, dl, sl) = line_of_lem own same tells x hx in
      (l, hl, sym kl ∙ kx, sym sl ∙ sx)
