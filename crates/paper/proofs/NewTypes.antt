-- The lines of one entry have one type, so that a new table has at most one type for each entry of its shape. Assumes nothing.
use Prim.Native.Nat.{ℕ, suc, ◌≤◌, ◌<◌, pred, zero-le}
use native.Mathlib.Omega.{arith}
use mathlib.Core.Path.{◌≡◌, refl, sym, ◌∙◌, ap, ap₂, subst}
use mathlib.Core.Logic.{inl, inr}
use mathlib.Core.Bool.{Bool, true, false, not, false≢true}
use mathlib.Core.List.{List, [], ◌∷◌, ◌++◌, map}
use lib.ListN.{length, get_or, take, length-append, length-map}
use lib.Seq.{take_at}
use Rattle.paper.specs.Lists.{Has, keep, same, distinct, ways}
use Rattle.paper.specs.Format.{Format}
use Rattle.paper.specs.Tables.{Row, row_types, types}
use Rattle.paper.specs.Closeness.{Node, shared}
use Rattle.paper.specs.Shapes.{Shape, way}
use Rattle.paper.specs.NewTable.{Line, line_row}
use Rattle.paper.specs.Faithful.{Chain, Faithful}
use Rattle.paper.proofs.Lists.{same_self, same_eq, keep-has, has-keep, get_d_has, has-map, map-has, map_append, map-take}
use Rattle.paper.proofs.Agree.{agree_take, shared→agree}
use Rattle.paper.proofs.Forest.{Kin, deweys, follows_lt, follows-meet}
use Rattle.paper.proofs.Tables.{step, distinct-has}
use Rattle.paper.proofs.Shapes.{Ways}
use Rattle.paper.proofs.Lines.{line_level, meet-ways}
use Rattle.paper.proofs.Written.{line_nodes}

-- ---- lists of which none stands twice
abbrev pub Once : List (List ℕ) → Type 0
Once [] = Unit
Once (x ∷ xs) = (Has x xs → ⊥) × Once xs

abbrev other : List ℕ → List ℕ → Bool
other x y = not (same x y)

keep_once : (p : List ℕ → Bool) (xs : List (List ℕ)) → Once xs → Once (keep p xs)
keep_once p [] o = tt
keep_once p (x ∷ xs) o = go (p x) refl (keep_once p xs o.1)
  where
    go : (b : Bool) → p x ≡ b → Once (keep p xs) → Once (keep p (x ∷ xs))
    go true e ih = rw (e, keep) ((λ h. o.0 (keep-has p x xs h).0), ih)
    go false e ih = rw (e, keep) ih

distinct_once : (xs : List (List ℕ)) → Once (distinct xs)
distinct_once [] = tt
distinct_once (x ∷ xs) = (
  (λ h. false≢true (sym (ap not (same_self x)) ∙ (keep-has (other x) x (distinct xs) h).1)),
  keep_once (other x) (distinct xs) (distinct_once xs),
)

keep_le : (p : List ℕ → Bool) (xs : List (List ℕ)) → length (keep p xs) ≤ length xs
keep_le p [] = zero-le
keep_le p (x ∷ xs) = go (p x) refl (keep_le p xs)
  where
    go : (b : Bool) → p x ≡ b → length (keep p xs) ≤ length xs → length (keep p (x ∷ xs)) ≤ length (x ∷ xs)
    go true e ih = rw (e, keep) (omega arith)
    go false e ih = rw (e, keep) (omega arith)

-- a list is shorter without one that stands in it
keep_shorter : (x : List ℕ) (xs : List (List ℕ)) → Has x xs → length (keep (other x) xs) < length xs
keep_shorter x [] h = absurd h
keep_shorter x (y ∷ xs) h = go (same x y) refl h (keep_le (other x) xs) (keep_shorter x xs)
  where
    go : (b : Bool) → same x y ≡ b → Has x (y ∷ xs) → length (keep (other x) xs) ≤ length xs → (Has x xs → length (keep (other x) xs) < length xs)
        → length (keep (other x) (y ∷ xs)) < length (y ∷ xs)
    go true e h le ih = rw (e, keep) (omega arith)
    go false e (inl q) le ih = absurd (false≢true (sym e ∙ ap (same x) (sym q) ∙ same_self x))
    go false e (inr h) le ih = let lt = ih h in rw (e, keep) (omega arith)

pub once_few : (xs ts : List (List ℕ)) → Once xs → ((x : List ℕ) → Has x xs → Has x ts) → length xs ≤ length ts
once_few [] ts o within = zero-le
once_few (x ∷ xs) ts o within =
    let ih = once_few xs (keep (other x) ts) o.1 (λ y h. has-keep (other x) y ts (within y (inr h)) (differs y h (same x y) refl)) in
    omega (arith, ih, keep_shorter x ts (within x (inl refl)))
  where
    differs : (y : List ℕ) → Has y xs → (b : Bool) → same x y ≡ b → other x y ≡ true
    differs y h true e = absurd (o.0 (subst (λ z. Has z xs) (sym (same_eq x y e)) h))
    differs y h false e = ap not e

-- what stands in a list of n has at most n different lists
pub distinct_few : (xs ts : List (List ℕ)) → ((x : List ℕ) → Has x xs → Has x ts) → length (distinct xs) ≤ length ts
distinct_few xs ts within = once_few (distinct xs) ts (distinct_once xs) (λ x h. within x (distinct-has x xs h))

-- ---- each line of a faithful table takes over the way of the line before it, but for its own entry
module _ (t : List Node) (place : (x y : Node) → Has x t → Has y t → x.place ≡ y.place → x ≡ y)
    (s : Shape) (w : Ways s) (new : List Node) (source : Node → ℕ) (fa : Faithful t s new source) where
  abbrev number : Node → List ℕ
  number x = x.dewey

  abbrev entries : Node → List ℕ
  entries x = way s x.kind

  from_line : (x : Node) (ys : List Node) → Has x new → ((y : Node) → Has y ys → Has y new) → Chain x.dewey (deweys ys)
      → Kin number entries x.dewey (way s x.kind) ys
  from_line x [] hx within c = tt
  from_line x (y ∷ ys) hx within c =
      let hy = within y (inl refl) in
      let meets = follows-meet x.dewey y.dewey c.0 in
      let deep : pred (length y.dewey) ≤ shared (entries x) (entries y) = omega (arith, meets, meet-ways t place s w new source fa x y hx hy) in (
        sym (line_level t place s w new source fa y hy),
        (follows_lt x.dewey y.dewey c.0).2,
        sym (agree_take (pred (length y.dewey)) (entries x) (entries y) (shared→agree (pred (length y.dewey)) (entries x) (entries y) deep)),
        from_line y ys hy (λ z h. within z (inr h)) c.1,
      )

  from_first : (ys : List Node) → ((y : Node) → Has y ys → Has y new) → Chain [] (deweys ys) → Kin number entries [] [] ys
  from_first [] within c = tt
  from_first (y ∷ ys) within c =
      let hy = within y (inl refl) in
      let (lt, le, e) = follows_lt [] y.dewey c.0 in
      let top : pred (length y.dewey) ≡ 0 = omega arith in (
        sym (line_level t place s w new source fa y hy),
        e,
        subst (λ n. take n (entries y) ≡ take n []) (sym top) refl,
        from_line y ys hy (λ z h. within z (inr h)) c.1,
      )

  pub ways-taken-over : Kin (λ (x : Node). x.dewey) (λ (x : Node). way s x.kind) [] [] new
  ways-taken-over = from_first new (λ y h. h) fa.forest

-- ---- the type of a line is the labels on its entry's way
module _ (f : Format) (rs : List Row) (s : Shape) (w : Ways s)
    (level : (e : ℕ) → e < length s.ways → length (way s e) ≡ get_or s.levels e 0) where
  abbrev label : ℕ → ℕ
  label e = get_or s.labels e 0

  abbrev entry_type : ℕ → List ℕ
  entry_type e = map label (way s e)

  -- the type of a line of entry e after a line whose entry has the way u
  next_type : (e : ℕ) (u : List ℕ) → e < length s.ways → take (pred (length (way s e))) (way s e) ≡ take (pred (length (way s e))) u
      → take (pred (get_or s.levels e 0)) (map label u) ++ (label e ∷ []) ≡ entry_type e
  next_type e u le same_above =
      let (v, own) = w.own e le in
      let n = pred (length (way s e)) in
      let long : length v ≡ n = omega (arith, ap length own, length-append v (e ∷ [])) in
      let above : take n u ≡ v = sym same_above ∙ ap (take n) own ∙ take_at v (e ∷ []) n long in
      ap (λ k. take (pred k) (map label u) ++ (label e ∷ [])) (sym (level e le))
      ∙ ap (λ z. z ++ (label e ∷ [])) (sym (map-take label n u) ∙ ap (map label) above)
      ∙ sym (map_append label v (e ∷ [])) ∙ ap (map label) (sym own)

  line_types : (i : ℕ) (p u : List ℕ) (ls : List Line) → ((l : Line) → Has l ls → l.entry < length s.ways)
      → Kin (λ (x : Node). x.dewey) (λ (x : Node). way s x.kind) p u (line_nodes i ls)
      → ways (map label u) (map step (map (line_row f s rs) ls)) ≡ map (λ (l : Line). entry_type l.entry) ls
  unfolding line_row
  line_types i p u [] entry k = refl
  line_types i p u (l ∷ ls) entry k =
      let e = next_type l.entry u (entry l (inl refl)) (subst (λ n. take (pred n) (way s l.entry) ≡ take (pred n) u) (sym k.0) k.2) in
      ap₂ {C = List (List ℕ)} (λ x xs. x ∷ xs) e
      (ap (λ z. ways z (map step (map (line_row f s rs) ls))) e
      ∙ line_types (suc i) l.dewey (way s l.entry) ls (λ m h. entry m (inr h)) k.3)

  -- There is at most one type for each entry.
  pub one_each : (ls : List Line) → ((l : Line) → Has l ls → l.entry < length s.ways)
      → Kin (λ (x : Node). x.dewey) (λ (x : Node). way s x.kind) [] [] (line_nodes 0 ls)
      → length (types (map (line_row f s rs) ls)) ≤ length s.ways
  unfolding types row_types
  one_each ls entry k =
      let all = map (map label) s.ways in
      let e = line_types 0 [] [] ls entry k in
      let few = distinct_few (ways [] (map step (map (line_row f s rs) ls))) all (λ x h.
      let (l, hl, q) = map-has (λ (l : Line). entry_type l.entry) x ls (subst (λ z. Has x z) e h) in
      subst (λ z. Has z all) (sym q) (has-map (map label) (way s l.entry) s.ways (get_d_has [] s.ways l.entry (entry l hl)))) in
      omega (arith, few, length-map s.ways (map label))
