-- A sound forest: Dewey numbers each of which follows the one before. Assumes nothing.
use Prim.Native.Nat.{ℕ, zero, suc, ◌+◌, ◌≤◌, ◌<◌, pred}
use native.Mathlib.Nat.{le_antisymm, not-suc-le-zero, le_of_suc-le-suc, lt_irrefl}
use native.Mathlib.Omega.{arith}
use mathlib.Core.Path.{◌≡◌, refl, sym, ◌∙◌, ap, subst, subst₂}
use mathlib.Core.Logic.{◌⊎◌, inl, inr, ⊎_elim}
use mathlib.Core.Bool.{Bool, true, false}
use mathlib.Core.List.{List, [], ◌∷◌, ◌++◌, map}
use lib.Dec.{leb}
use lib.ListN.{length, length-append, length-take, take}
use lib.Seq.{take_all, take-take, take-append-le}
use borrow.Author.Tests.{leb-true, leb-false}
use Rattle.paper.specs.Lists.{Has, same, last_or}
use Rattle.paper.specs.Tables.{raised, follows}
use Rattle.paper.specs.Closeness.{Node, nodes_from, shared}
use Rattle.paper.specs.Faithful.{Chain}
use Rattle.paper.proofs.Lists.{either, same_eq, has-map}
use Rattle.paper.proofs.Agree.{Agree, agree_trans, agree_sym, take_agree, shared→agree, agree→shared}

-- ---- document order
abbrev pub Lt : List ℕ → List ℕ → Type 0
Lt a [] = ⊥
Lt [] (y ∷ b) = Unit
Lt (x ∷ a) (y ∷ b) = (x < y) ⊎ ((x ≡ y) × Lt a b)

pub lt_trans : (a b c : List ℕ) → Lt a b → Lt b c → Lt a c
lt_trans a b [] h k = k
lt_trans a [] (z ∷ c) h k = absurd h
lt_trans [] (y ∷ b) (z ∷ c) h k = tt
lt_trans (x ∷ a) (y ∷ b) (z ∷ c) (inl h) (inl k) = inl (omega arith)
lt_trans (x ∷ a) (y ∷ b) (z ∷ c) (inl h) (inr k) = inl (omega (arith, k.0))
lt_trans (x ∷ a) (y ∷ b) (z ∷ c) (inr h) (inl k) = inl (omega (arith, h.0))
lt_trans (x ∷ a) (y ∷ b) (z ∷ c) (inr h) (inr k) = inr (h.0 ∙ k.0, lt_trans a b c h.1 k.1)

pub lt_self : (a : List ℕ) → Lt a a → ⊥
lt_self [] h = h
lt_self (x ∷ a) (inl h) = lt_irrefl x h
lt_self (x ∷ a) (inr h) = lt_self a h.1

-- what stands between two numbers that agree to k agrees with them to k
pub lt_between : (k : ℕ) (a b c : List ℕ) → Lt a b → Lt b c → Agree k a c → Agree k a b
lt_between zero a b c h i g = tt
lt_between (suc k) [] b c h i g = absurd g
lt_between (suc k) (x ∷ a) b [] h i g = absurd g
lt_between (suc k) (x ∷ a) [] (z ∷ c) h i g = absurd h
lt_between (suc k) (x ∷ a) (y ∷ b) (z ∷ c) (inl h) (inl i) g = let w : ⊥ = omega (arith, g.0) in absurd w
lt_between (suc k) (x ∷ a) (y ∷ b) (z ∷ c) (inl h) (inr i) g = let w : ⊥ = omega (arith, g.0, i.0) in absurd w
lt_between (suc k) (x ∷ a) (y ∷ b) (z ∷ c) (inr h) (inl i) g = let w : ⊥ = omega (arith, g.0, h.0) in absurd w
lt_between (suc k) (x ∷ a) (y ∷ b) (z ∷ c) (inr h) (inr i) g = (h.0, lt_between k a b c h.1 i.1 g.1)

-- ---- a number that follows another
pub length-raised : (l : List ℕ) → length (raised l) ≡ length l
length-raised [] = refl
length-raised (x ∷ []) = refl
length-raised (x ∷ y ∷ l) = ap suc (length-raised (y ∷ l))

lt_longer : (p : List ℕ) → Lt p (p ++ (1 ∷ []))
lt_longer [] = tt
lt_longer (x ∷ p) = inr (refl, lt_longer p)

lt_raised : (j : ℕ) (p : List ℕ) → 0 < length (raised (take j p)) → Lt p (raised (take j p))
lt_raised zero p h = absurd (not-suc-le-zero h)
lt_raised (suc j) [] h = absurd (not-suc-le-zero h)
lt_raised (suc zero) (x ∷ p) h = inl (omega arith)
lt_raised (suc (suc j)) (x ∷ []) h = inl (omega arith)
lt_raised (suc (suc j)) (x ∷ y ∷ p) h = inr (refl, lt_raised (suc j) (y ∷ p) (omega (arith, length-raised (y ∷ take j p))))

-- a raised number keeps all components but its last
take-raised : (k : ℕ) (l : List ℕ) → k < length l → take k (raised l) ≡ take k l
take-raised zero l h = refl
take-raised (suc k) [] h = absurd (not-suc-le-zero h)
take-raised (suc k) (x ∷ []) h = absurd (not-suc-le-zero (le_of_suc-le-suc h))
take-raised (suc k) (x ∷ y ∷ l) h = ap {B = List ℕ} (λ z. x ∷ z) (take-raised k (y ∷ l) (le_of_suc-le-suc h))

-- d follows p: it comes later, is longer by at most one, and all its components but the last are p's
abbrev pub Follows : List ℕ → List ℕ → Type 0
Follows p d = (0 < length d) × (follows p d ≡ true)

pub follows_lt : (p d : List ℕ) → Follows p d → Lt p d × (length d ≤ suc (length p)) × (take (pred (length d)) d ≡ take (pred (length d)) p)
unfolding follows
follows_lt p d (pos, h) =
    ⊎_elim
    (λ a. let e = same_eq d (p ++ (1 ∷ [])) a in
    let l : length d ≡ suc (length p) = omega (arith, ap length e, length-append p (1 ∷ [])) in (
      subst (λ z. Lt p z) (sym e) (lt_longer p),
      omega arith,
      ap (take (pred (length d))) e ∙ take-append-le (pred (length d)) p (1 ∷ []) (omega arith),
    ))
    (λ a. let e = same_eq d (raised (take (length d) p)) a in
    let l : length d ≤ length p = omega (arith, ap length e, length-raised (take (length d) p), length-take (length d) p) in (
      subst (λ z. Lt p z) (sym e) (lt_raised (length d) p (subst (λ z. 0 < length z) e pos)),
      omega arith,
      ap (take (pred (length d))) e ∙ take-raised (pred (length d)) (take (length d) p) (omega (arith, length-take (length d) p))
          ∙ take-take (pred (length d)) (length d) p (omega arith),
    ))
    (either (same d (p ++ (1 ∷ []))) (same d (raised (take (length d) p))) h)

-- what comes later is no beginning of what it comes after
lt_beyond : (a b : List ℕ) → Lt a b → Agree (length b) a b → ⊥
lt_beyond [] [] h g = h
lt_beyond [] (y ∷ b) h g = g
lt_beyond (x ∷ a) [] h g = h
lt_beyond (x ∷ a) (y ∷ b) (inl h) g = omega (arith, g.0)
lt_beyond (x ∷ a) (y ∷ b) (inr h) g = lt_beyond a b h.1 g.1

-- a number meets the one that follows it just above the last component of the latter
pub follows-meet : (p d : List ℕ) → Follows p d → shared p d ≡ pred (length d)
follows-meet p d h =
    let (lt, le, e) = follows_lt p d h in
    le_antisymm (most (leb (length d) (shared p d)) refl lt) (agree→shared (pred (length d)) p d (take_agree (pred (length d)) p d (omega arith) (sym e) (omega arith)))
  where
    most : (b : Bool) → leb (length d) (shared p d) ≡ b → Lt p d → shared p d ≤ pred (length d)
    most true e lt = absurd (lt_beyond p d lt (shared→agree (length d) p d (leb-true (length d) (shared p d) e)))
    most false e lt = omega (arith, leb-false (length d) (shared p d) e)

-- ---- a chain of numbers, each following the one before; p is the number before the first
pub chain_append : (p : List ℕ) (ds es : List (List ℕ)) → Chain p ds → Chain (last_or p ds) es → Chain p (ds ++ es)
chain_append p [] es h k = k
chain_append p (d ∷ ds) es h k = (h.0, chain_append d ds es h.1 k)

pub chain-pos : (p : List ℕ) (ds : List (List ℕ)) (d : List ℕ) → Chain p ds → Has d ds → 0 < length d
chain-pos p [] d o h = absurd h
chain-pos p (x ∷ ds) d o (inl e) = subst (λ z. 0 < length z) (sym e) o.0.0
chain-pos p (x ∷ ds) d o (inr h) = chain-pos x ds d o.1 h

chain-later : (p : List ℕ) (ds : List (List ℕ)) (d : List ℕ) → Chain p ds → Has d ds → Lt p d
chain-later p [] d o h = absurd h
chain-later p (x ∷ ds) d o (inl e) = subst (λ z. Lt p z) (sym e) (follows_lt p x o.0).0
chain-later p (x ∷ ds) d o (inr h) = lt_trans p x d (follows_lt p x o.0).0 (chain-later x ds d o.1 h)

-- ---- prefixes: what each element takes over from the one before
module _ {A : Type 0} (d v : A → List ℕ) where
  -- an element's number d and its list v are as long as each other, and all but their last components are those before
  abbrev pub Kin : List ℕ → List ℕ → List A → Type 0
  Kin p w [] = Unit
  Kin p w (x ∷ xs) =
      (length (v x) ≡ length (d x)) × (take (pred (length (d x))) (d x) ≡ take (pred (length (d x))) p)
      × (take (pred (length (d x))) (v x) ≡ take (pred (length (d x))) w) × Kin (d x) (v x) xs

  -- an element whose number and list are the first k components of x's
  abbrev pub Above : ℕ → A → List A → Type 0
  Above k x xs = (y : A) × Has y xs × (d y ≡ take k (d x)) × (v y ≡ take k (v x))

  shorter : (k n : ℕ) (a b : List ℕ) → k ≤ n → take n a ≡ take n b → take k a ≡ take k b
  shorter k n a b le e = sym (take-take k n a le) ∙ ap (take k) e ∙ take-take k n b le

  one_above : (p w : List ℕ) (x : A) (xs : List A) (k : ℕ) → Kin p w (x ∷ xs)
      → Above k x (x ∷ xs) ⊎ ((take k (d x) ≡ take k p) × (take k (v x) ≡ take k w))
  one_above p w x xs k o = go (leb (length (d x)) k) refl
    where
      go : (b : Bool) → leb (length (d x)) k ≡ b → Above k x (x ∷ xs) ⊎ ((take k (d x) ≡ take k p) × (take k (v x) ≡ take k w))
      go true e =
          let le : length (d x) ≤ k = leb-true (length (d x)) k e in
          inl (x, inl refl, sym (take_all k (d x) le), sym (take_all k (v x) (omega (arith, o.0))))
      go false e =
          let lt : k < length (d x) = leb-false (length (d x)) k e in
          inr (shorter k (pred (length (d x))) (d x) p (omega arith) o.1, shorter k (pred (length (d x))) (v x) w (omega arith) o.2)

  pub above : (p w : List ℕ) (x : A) (xs : List A) (k : ℕ) → Kin p w xs → Has x xs
      → Above k x xs ⊎ ((take k (d x) ≡ take k p) × (take k (v x) ≡ take k w))
  above p w x [] k o h = absurd h
  above p w x (z ∷ zs) k o (inl e) =
      subst (λ y. Above k y (z ∷ zs) ⊎ ((take k (d y) ≡ take k p) × (take k (v y) ≡ take k w))) (sym e) (one_above p w z zs k o)
  above p w x (z ∷ zs) k o (inr h) =
      ⊎_elim (λ a. inl (a.0, inr a.1, a.2, a.3))
      (λ e. ⊎_elim (λ a. inl (a.0, a.1, a.2 ∙ sym e.0, a.3 ∙ sym e.1)) (λ q. inr (e.0 ∙ q.0, e.1 ∙ q.1)) (one_above p w z zs k o))
      (above (d z) (v z) x zs k o.3 h)

-- ---- nodes whose numbers make a chain
abbrev pub deweys : List Node → List (List ℕ)
deweys t = map (λ (x : Node). x.dewey) t

-- a sound forest
abbrev pub Forest : List Node → Type 0
Forest t = Chain [] (deweys t)

chain_kin : (p : List ℕ) (t : List Node) → Chain p (deweys t) → Kin (λ (x : Node). x.dewey) (λ (x : Node). x.dewey) p p t
chain_kin p [] o = tt
chain_kin p (x ∷ t) o = let e = (follows_lt p x.dewey o.0).2 in (refl, e, e, chain_kin x.dewey t o.1)

-- each prefix of a node's Dewey number is some node's
pub prefix : (t : List Node) → Forest t → (x : Node) → Has x t → (k : ℕ) → 0 < k → k ≤ length x.dewey
    → (y : Node) × Has y t × (y.dewey ≡ take k x.dewey)
prefix t o x h k pos le =
    ⊎_elim (λ a. (a.0, a.1, a.2)) (λ e. none e.0) (above (λ (x : Node). x.dewey) (λ (x : Node). x.dewey) [] [] x t k (chain_kin [] t o) h)
  where
    none : take k x.dewey ≡ take k [] → (y : Node) × Has y t × (y.dewey ≡ take k x.dewey)
    none e = let z : ⊥ = omega (arith, ap length e, length-take k x.dewey, length-take {A = ℕ} k []) in absurd z

later : (p : List ℕ) (t : List Node) → Chain p (deweys t) → (x : Node) → Has x t → Lt p x.dewey
later p t o x h = chain-later p (deweys t) x.dewey o (has-map (λ (x : Node). x.dewey) x t h)

-- no two nodes have one Dewey number
pub one-node : (p : List ℕ) (t : List Node) → Chain p (deweys t) → (x y : Node) → Has x t → Has y t → x.dewey ≡ y.dewey → x ≡ y
one-node p [] o x y h k e = absurd h
one-node p (r ∷ t) o x y (inl h) (inl k) e = h ∙ sym k
one-node p (r ∷ t) o x y (inl h) (inr k) e =
    absurd (lt_self y.dewey (subst (λ z. Lt z y.dewey) (sym (ap (λ (z : Node). z.dewey) h) ∙ e) (later r.dewey t o.1 y k)))
one-node p (r ∷ t) o x y (inr h) (inl k) e =
    absurd (lt_self x.dewey (subst (λ z. Lt z x.dewey) (sym (ap (λ (z : Node). z.dewey) k) ∙ sym e) (later r.dewey t o.1 x h)))
one-node p (r ∷ t) o x y (inr h) (inr k) e = one-node r.dewey t o.1 x y h k e

-- ---- places: nodes are numbered in document order
abbrev pub Numbered : ℕ → List Node → Type 0
Numbered i [] = Unit
Numbered i (x ∷ t) = (x.place ≡ i) × Numbered (suc i) t

pub nodes_from_numbered : (i : ℕ) (ks : List ℕ) (ds : List (List ℕ)) → Numbered i (nodes_from i ks ds)
nodes_from_numbered i [] ds = tt
nodes_from_numbered i (k ∷ ks) [] = tt
nodes_from_numbered i (k ∷ ks) (d ∷ ds) = (refl, nodes_from_numbered (suc i) ks ds)

pub nodes_from-length : (i : ℕ) (ks : List ℕ) (ds : List (List ℕ)) → length (nodes_from i ks ds) ≤ length ds
nodes_from-length i [] ds = omega arith
nodes_from-length i (k ∷ ks) [] = omega arith
nodes_from-length i (k ∷ ks) (d ∷ ds) = omega (arith, nodes_from-length (suc i) ks ds)

pub place_bounds : (i : ℕ) (t : List Node) → Numbered i t → (x : Node) → Has x t → (i ≤ x.place) × (x.place < i + length t)
place_bounds i [] o x h = absurd h
place_bounds i (y ∷ t) o x (inl e) = let q = ap (λ (z : Node). z.place) e in (omega (arith, o.0), omega (arith, o.0))
place_bounds i (y ∷ t) o x (inr h) = let r = place_bounds (suc i) t o.1 x h in (omega (arith, r.0), omega (arith, r.1))

-- one place, one node
pub one_place : (i : ℕ) (t : List Node) → Numbered i t → (x y : Node) → Has x t → Has y t → x.place ≡ y.place → x ≡ y
one_place i [] o x y h k e = absurd h
one_place i (z ∷ t) o x y (inl h) (inl k) e = h ∙ sym k
one_place i (z ∷ t) o x y (inl h) (inr k) e =
    let w : ⊥ = omega (arith, ap (λ (z : Node). z.place) h, o.0, (place_bounds (suc i) t o.1 y k).0) in absurd w
one_place i (z ∷ t) o x y (inr h) (inl k) e =
    let w : ⊥ = omega (arith, ap (λ (z : Node). z.place) k, o.0, (place_bounds (suc i) t o.1 x h).0) in absurd w
one_place i (z ∷ t) o x y (inr h) (inr k) e = one_place (suc i) t o.1 x y h k e

-- an earlier place has the smaller number
pub in_order_lem : (i : ℕ) (p : List ℕ) (t : List Node) → Numbered i t → Chain p (deweys t) → (x y : Node) → Has x t → Has y t
    → x.place < y.place → Lt x.dewey y.dewey
in_order_lem i p [] o c x y h k lt = absurd h
in_order_lem i p (z ∷ t) o c x y (inl h) (inl k) lt =
    let w : ⊥ = omega (arith, ap (λ (z : Node). z.place) h, ap (λ (z : Node). z.place) k) in absurd w
in_order_lem i p (z ∷ t) o c x y (inl h) (inr k) lt = subst (λ d. Lt d y.dewey) (sym (ap (λ (z : Node). z.dewey) h)) (later z.dewey t c.1 y k)
in_order_lem i p (z ∷ t) o c x y (inr h) (inl k) lt =
    let w : ⊥ = omega (arith, ap (λ (z : Node). z.place) k, o.0, (place_bounds (suc i) t o.1 x h).0) in absurd w
in_order_lem i p (z ∷ t) o c x y (inr h) (inr k) lt = in_order_lem (suc i) z.dewey t o.1 c.1 x y h k lt

-- the node at the next place follows
pub next_follows : (i : ℕ) (p : List ℕ) (t : List Node) → Numbered i t → Chain p (deweys t) → (x y : Node) → Has x t → Has y t
    → y.place ≡ suc x.place → Follows x.dewey y.dewey
next_follows i p [] o c x y h k e = absurd h
next_follows i p (z ∷ t) o c x y (inr h) (inr k) e = next_follows (suc i) z.dewey t o.1 c.1 x y h k e
next_follows i p (z ∷ t) o c x y (inr h) (inl k) e =
    let w : ⊥ = omega (arith, ap (λ (z : Node). z.place) k, o.0, (place_bounds (suc i) t o.1 x h).0) in absurd w
next_follows i p (z ∷ t) o c x y (inl h) (inl k) e =
    let w : ⊥ = omega (arith, ap (λ (z : Node). z.place) h, ap (λ (z : Node). z.place) k) in absurd w
next_follows i p (z ∷ []) o c x y (inl h) (inr k) e = absurd k
next_follows i p (z ∷ u ∷ t) o c x y (inl h) (inr k) e =
    let q : y.place ≡ u.place = omega (arith, ap (λ (z : Node). z.place) h, o.0, o.1.0) in
    let r = one_place (suc i) (u ∷ t) o.1 y u k (inl refl) q in
    subst₂ (λ a b. Follows a b) (sym (ap (λ (z : Node). z.dewey) h)) (sym (ap (λ (z : Node). z.dewey) r)) c.1.0

-- the rows that agree to a level are one unbroken run
pub run : (t : List Node) → Numbered 0 t → Forest t → (k : ℕ) (x y z : Node) → Has x t → Has y t → Has z t
    → x.place < y.place → y.place < z.place → Agree k x.dewey z.dewey → Agree k x.dewey y.dewey × Agree k y.dewey z.dewey
run t o c k x y z hx hy hz xy yz a =
    let b = lt_between k x.dewey y.dewey z.dewey (in_order_lem 0 [] t o c x y hx hy xy) (in_order_lem 0 [] t o c y z hy hz yz) a in
    (b, agree_trans k y.dewey x.dewey z.dewey (agree_sym k x.dewey y.dewey b) a)
