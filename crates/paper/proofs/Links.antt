-- Demand 3 for any faithful table and any two entries: an entry beside itself, either order, two entries of one type.
-- Assumes nothing.
use Prim.Native.Nat.{ℕ, ◌<◌}
use native.Mathlib.Omega.{arith}
use mathlib.Core.Path.{◌≡◌, refl, sym, ◌∙◌, ap, ap₂, subst}
use mathlib.Core.Logic.{◌↔◌}
use mathlib.Core.Bool.{Bool, true, false}
use mathlib.Core.List.{List, [], map}
use lib.Dec.{leb}
use lib.ListN.{length}
use borrow.Author.Tests.{leb-true, leb-false}
use Rattle.paper.specs.Lists.{Has}
use Rattle.paper.specs.Closeness.{Node, closest_pairs}
use Rattle.paper.specs.Shapes.{Shape, kind, way}
use Rattle.paper.specs.Verdict.{kept, verdict}
use Rattle.paper.specs.Faithful.{Faithful}
use Rattle.paper.proofs.Lists.{has-map, map-has}
use Rattle.paper.proofs.Closeness.{Of, Near, near_sym, pairs_near, near_pairs, own_near, own_only}
use Rattle.paper.proofs.Forest.{one-node}
use Rattle.paper.proofs.Shapes.{Ways}
use Rattle.paper.proofs.Verdict.{In, kept_alone, kept_pairs, way_pos}
use Rattle.paper.proofs.Lines.{Shows, row_of_lem, one_source, line_level, every_row}
use Rattle.paper.proofs.Demand3.{lines_rows, rows_lines}

-- what the theorem uses of a source table
pub record Source (t : List Node) : Type 0 where
  pub one_place : (x y : Node) → Has x t → Has y t → x.place ≡ y.place → x ≡ y
  pub one_number : (x y : Node) → Has x t → Has y t → x.dewey ≡ y.dewey → x ≡ y
  pub one-level : (x y : Node) → Has x t → Has y t → x.kind ≡ y.kind → length x.dewey ≡ length y.dewey
  pub some_level : (x : Node) → Has x t → 0 < length x.dewey

abbrev pub places : Node × Node → ℕ × ℕ
places p = (p.0.place, p.1.place)

-- closest nodes at two places are a closest pair of places
pub near_places : (t : List Node) (j k : ℕ) (r q : Node) (a b : ℕ) → Of t j r → Of t k q → r.place ≡ a → q.place ≡ b → Near t j k r q
    → Has (a, b) (map places (closest_pairs t j k))
near_places t j k r q a b or oq ea eb n =
    subst (λ z. Has z (map places (closest_pairs t j k))) (ap₂ {C = ℕ × ℕ} (λ c d. (c, d)) ea eb)
    (has-map places (r, q) (closest_pairs t j k) (near_pairs t j k r q or oq n))

-- what holds of one number before another, of the two turned round, and of a number beside itself, holds of any two
pub any_order : (P : ℕ → ℕ → Type 0) (n : ℕ) → ((e f : ℕ) → e < f → f < n → P e f) → ((e f : ℕ) → P e f → P f e) → ((e : ℕ) → e < n → P e e)
    → (e f : ℕ) → e < n → f < n → P e f
any_order P n before flip beside e f le lf = go (leb e f) (leb f e) refl refl
  where
    go : (a b : Bool) → leb e f ≡ a → leb f e ≡ b → P e f
    go true true p q = let z : e ≡ f = omega (arith, leb-true e f p, leb-true f e q) in subst (λ c. P e c) z (beside e le)
    go a false p q = before e f (leb-false f e q) lf
    go false true p q = flip f e (before f e (leb-false e f p) le)

module _ (t : List Node) (so : Source t) (s : Shape) (w : Ways s) (new : List Node) (source : Node → ℕ) (fa : Faithful t s new source)
    (ok : verdict t s ≡ kept) where
  abbrev Shown : Node → Node → Type 0
  Shown x r = Shows t so.one_place s w new source fa x r

  -- closest lines of e and f have closest source rows
  abbrev LinesRows : ℕ → ℕ → Type 0
  LinesRows e f = (x y r q : Node) → Of new e x → Of new f y → Near new e f x y → Shown x r → Shown y q → Near t (kind s e) (kind s f) r q

  -- closest rows of the types of e and f stand in closest lines
  abbrev RowsLines : ℕ → ℕ → Type 0
  RowsLines e f = (r q : Node) → In s w t e r → In s w t f q → Near t (kind s e) (kind s f) r q
      → (x y : Node) × Of new e x × Of new f y × Near new e f x y × (source x ≡ r.place) × (source y ≡ q.place)

  abbrev Both : ℕ → ℕ → Type 0
  Both e f = LinesRows e f × RowsLines e f

  -- one entry before another
  before : (e f : ℕ) → e < f → f < length s.ways → Both e f
  before e f ef lf =
      let (least, sure) = kept_pairs s t ok e f ef lf in
      let le : e < length s.ways = omega arith in
      let ne : e ≡ f → ⊥ = λ q. omega (arith, q) in (
        lines_rows t so.one_place s w new source fa e f le lf ne least (kept_alone s t ok) sure,
        rows_lines t so.one_place s w new source fa e f le lf ne least (kept_alone s t ok) sure,
      )

  -- the other way round
  flip : (e f : ℕ) → Both e f → Both f e
  flip e f (to, from) = (
    λ y x q r oy ox n sq sr. near_sym t (kind s e) (kind s f) r q (to x y r q ox oy (near_sym new f e y x n) sr sq),
    λ q r iq ir n. let (x, y, ox, oy, m, sx, sy) = from r q ir iq (near_sym t (kind s f) (kind s e) q r n) in
        (y, x, oy, ox, near_sym new e f x y m, sy, sx),
  )

  -- an entry beside itself
  beside : (e : ℕ) → e < length s.ways → Both e e
  beside e le = (to, from)
    where
      l : ℕ
      l = length (way s e)

      lines_level : (x : Node) → Of new e x → length x.dewey ≡ l
      lines_level x o = line_level t so.one_place s w new source fa x o.0 ∙ ap (λ c. length (way s c)) o.1

      to : LinesRows e e
      to x y r q ox oy n sr sq =
          let xy : x ≡ y = own_only new (one-node [] new fa.forest) e l lines_level (way_pos s w e le) x y ox oy n in
          let rq : r ≡ q = one_source t so.one_place s w new source fa y r q (subst (λ z. Shown z r) xy sr) sq in
          let o : In s w t e r = subst (λ c. In s w t c r) ox.1 sr.0 in
          subst (λ z. Near t (kind s e) (kind s e) r z) rq
          (own_near t so.one_number (kind s e) (length r.dewey) (λ z oz. so.one-level z r oz.0 o.0 (oz.1 ∙ sym o.1))
          (so.some_level r o.0) r o)

      from : RowsLines e e
      from r q ir iq n =
          let rq : r ≡ q = own_only t so.one_number (kind s e) (length r.dewey) (λ z oz. so.one-level z r oz.0 ir.0 (oz.1 ∙ sym ir.1))
          (so.some_level r ir.0) r q ir iq n in
          let (x, hx, kx, sx) = every_row t so.one_place s w new source fa (kept_alone s t ok) e le r ir in (
            x,
            x,
            (hx, kx),
            (hx, kx),
            own_near new (one-node [] new fa.forest) e l lines_level (way_pos s w e le) x (hx, kx),
            sx,
            sx ∙ ap (λ (z : Node). z.place) rq,
          )

  any_two : (e f : ℕ) → e < length s.ways → f < length s.ways → Both e f
  any_two = any_order Both (length s.ways) before flip beside

  abbrev pub shown : Node × Node → ℕ × ℕ
  shown p = (source p.0, source p.1)

  -- DEMAND 3. For any two entries of the shape, the pairs of source rows read off the closest pairs of new lines are exactly
  -- the closest pairs of source rows of those two types.
  pub links : (e f : ℕ) → e < length s.ways → f < length s.ways → (a b : ℕ)
      → Has (a, b) (map shown (closest_pairs new e f)) ↔ Has (a, b) (map places (closest_pairs t (kind s e) (kind s f)))
  links e f le lf a b = (to, from)
    where
      to : Has (a, b) (map shown (closest_pairs new e f)) → Has (a, b) (map places (closest_pairs t (kind s e) (kind s f)))
      to h =
          let ((x, y), hp, q) = map-has shown (a, b) (closest_pairs new e f) h in
          let (ox, oy, n) = pairs_near new e f x y hp in
          let (r, sr) = row_of_lem t so.one_place s w new source fa x ox.0 in
          let (p, sp) = row_of_lem t so.one_place s w new source fa y oy.0 in
          let near = (any_two e f le lf).0 x y r p ox oy n sr sp in
          let ir : In s w t e r = subst (λ c. In s w t c r) ox.1 sr.0 in
          let ip : In s w t f p = subst (λ c. In s w t c p) oy.1 sp.0 in
          subst (λ z. Has z (map places (closest_pairs t (kind s e) (kind s f)))) (sym q)
          (near_places t (kind s e) (kind s f) r p (source x) (source y) ir ip sr.1 sp.1 near)

      from : Has (a, b) (map places (closest_pairs t (kind s e) (kind s f))) → Has (a, b) (map shown (closest_pairs new e f))
      from h =
          let ((r, p), hp, q) = map-has places (a, b) (closest_pairs t (kind s e) (kind s f)) h in
          let (ir, ip, n) = pairs_near t (kind s e) (kind s f) r p hp in
          let (x, y, ox, oy, near, sx, sy) = (any_two e f le lf).1 r p ir ip n in
          subst (λ z. Has z (map shown (closest_pairs new e f))) (ap₂ {C = ℕ × ℕ} (λ c d. (c, d)) sx sy ∙ sym q)
          (has-map shown (x, y) (closest_pairs new e f) (near_pairs new e f x y ox oy near))
