-- What the row readers see of the paper's definitions, over any number of levels. Assumes nothing.
use Prim.Native.Nat.{ℕ, zero, suc, ◌+◌, ◌*◌, ◌≤◌, ◌<◌, min}
use native.Mathlib.Nat.{le_of_suc-le-suc}
use native.Mathlib.Numerals.{add-one}
use native.Mathlib.Omega.{arith}
use mathlib.Core.Path.{◌≡◌, refl, sym, ◌∙◌, ap, ap₂}
use mathlib.Core.Bool.{Bool, true, false, ◌&&◌}
use mathlib.Core.List.{List, [], ◌∷◌}
use lib.Dec.{eqb, leb}
use lib.ListN.{length, get_or, drop, length-take, drop_of_length-le}
use lib.Seq.{drop-cons, get_or-take}
use borrow.Author.Tests.{eq-eqb, ne_eqb, le-leb, lt-leb}
use Rattle.paper.specs.Lists.{all, between}
use Rattle.paper.specs.Format.{Format, byte, word, words}
use Rattle.paper.specs.Tables.{row_of, dewey, fields_kept}
use Rattle.paper.specs.Closeness.{shared}
use Rattle.paper.proofs.Lists.{and}
use Rattle.paper.proofs.Tables.{length-words}

-- ---- components
pub words-at : (n : ℕ) (b : List ℕ) (i k : ℕ) → k < n → get_or (words n b i) k 0 ≡ word b (i + 2 * k)
words-at zero b i k lt = let z : ⊥ = omega arith in absurd z
words-at (suc n) b i zero lt = ap (word b) (omega arith)
words-at (suc n) b i (suc k) lt = words-at n b (suc (suc i)) k (le_of_suc-le-suc lt) ∙ ap (word b) (omega arith)

-- ---- zeros from a place on
pub zeros-stop : (l : List ℕ) (k x : ℕ) → k < length l → x ≡ get_or l k 0 → (x ≡ 0 → ⊥) → all (eqb 0) (drop k l) ≡ false
zeros-stop l k x lt e ne =
    ap (all (eqb 0)) (drop-cons l k 0 lt) ∙ ap (λ b. b && all (eqb 0) (drop (suc k) l)) (ne_eqb 0 (get_or l k 0) (λ q. ne (e ∙ sym q)))

pub zeros-step : (l : List ℕ) (k x : ℕ) → k < length l → x ≡ get_or l k 0 → x ≡ 0 → all (eqb 0) (drop k l) ≡ all (eqb 0) (drop (k + 1) l)
zeros-step l k x lt e z =
    ap (all (eqb 0)) (drop-cons l k 0 lt) ∙ ap (λ b. b && all (eqb 0) (drop (suc k) l)) (eq-eqb 0 (get_or l k 0) (sym z ∙ e))
    ∙ ap (λ n. all (eqb 0) (drop n l)) (sym (add-one k))

pub zeros_end : (l : List ℕ) (k : ℕ) → length l ≤ k → all (eqb 0) (drop k l) ≡ true
zeros_end l k le = ap (all (eqb 0)) (drop_of_length-le l {i = k} le)

-- ---- a row's Dewey number
module _ (f : Format) (b : List ℕ) (fits : byte b 0 ≤ f.levels) where
  pub dewey-length : length (dewey (row_of f b)) ≡ byte b 0
  unfolding row_of
  dewey-length = omega (arith, length-take (byte b 0) (words f.levels b 4), length-words f.levels b 4)

  pub dewey-at : (k : ℕ) → k < byte b 0 → get_or (dewey (row_of f b)) k 0 ≡ get_or (words f.levels b 4) k 0
  unfolding row_of
  dewey-at k lt = get_or-take (byte b 0) (words f.levels b 4) k 0 lt

-- ---- meeting from a place on
pub shared_step : (a b : List ℕ) (k : ℕ) → k < length a → k < length b → get_or a k 0 ≡ get_or b k 0
    → shared (drop k a) (drop k b) ≡ suc (shared (drop (k + 1) a) (drop (k + 1) b))
shared_step a b k la lb e =
    ap₂ shared (drop-cons a k 0 la) (drop-cons b k 0 lb) ∙ rw (eq-eqb (get_or a k 0) (get_or b k 0) e, add-one k, shared) refl

pub shared-stop : (a b : List ℕ) (k : ℕ) → k < length a → k < length b → (get_or a k 0 ≡ get_or b k 0 → ⊥) → shared (drop k a) (drop k b) ≡ 0
shared-stop a b k la lb ne =
    ap₂ shared (drop-cons a k 0 la) (drop-cons b k 0 lb) ∙ rw (ne_eqb (get_or a k 0) (get_or b k 0) ne, shared) refl

shared_nil : (a : List ℕ) → shared a [] ≡ 0
shared_nil [] = refl
shared_nil (x ∷ a) = refl

pub shared_end : (a b : List ℕ) (k : ℕ) → min (length a) (length b) ≤ k → shared (drop k a) (drop k b) ≡ 0
shared_end a b k le = go (leb (length a) k) refl
  where
    go : (t : Bool) → leb (length a) k ≡ t → shared (drop k a) (drop k b) ≡ 0
    go true e = ap (λ l. shared l (drop k b)) (drop_of_length-le a {i = k} (borrow.Author.Tests.leb-true (length a) k e))
    go false e =
        let lt = borrow.Author.Tests.leb-false (length a) k e in
        ap (λ l. shared (drop k a) l) (drop_of_length-le b {i = k} (omega arith)) ∙ shared_nil (drop k a)

-- where two rows meet
abbrev pub met : Format → List ℕ → List ℕ → ℕ
met f x y = shared (dewey (row_of f x)) (dewey (row_of f y))

-- the walk along the first n components of both: k of them agree so far
abbrev pub Walk : Format → List ℕ → List ℕ → ℕ → ℕ → Type 0
Walk f x y n k =
    (k ≤ n) × (n ≤ byte x 0) × (n ≤ byte y 0) × (k + shared (drop k (dewey (row_of f x))) (drop k (dewey (row_of f y))) ≡ met f x y)

pub walk_start : (f : Format) (x y : List ℕ) (n : ℕ) → n ≤ byte x 0 → n ≤ byte y 0 → Walk f x y n 0
walk_start f x y n a b = (omega arith, a, b, omega arith)

module _ (f : Format) (x y : List ℕ) (fx : byte x 0 ≤ f.levels) (fy : byte y 0 ≤ f.levels) where
  module _ (n k a b : ℕ) (i : Walk f x y n k) (lt : k < n) (ea : a ≡ get_or (words f.levels x 4) k 0) (eb : b ≡ get_or (words f.levels y 4) k 0) where
    at_x : get_or (dewey (row_of f x)) k 0 ≡ a
    at_x = dewey-at f x fx k (omega (arith, i.1)) ∙ sym ea

    at_y : get_or (dewey (row_of f y)) k 0 ≡ b
    at_y = dewey-at f y fy k (omega (arith, i.2)) ∙ sym eb

    in_x : k < length (dewey (row_of f x))
    in_x = omega (arith, i.1, dewey-length f x fx)

    in_y : k < length (dewey (row_of f y))
    in_y = omega (arith, i.2, dewey-length f y fy)

    pub walk_step : a ≡ b → Walk f x y n (k + 1)
    walk_step e =
        (omega arith, i.1, i.2, omega (arith, i.3, shared_step (dewey (row_of f x)) (dewey (row_of f y)) k in_x in_y (at_x ∙ e ∙ sym at_y)))

    pub walk-stop : (a ≡ b → ⊥) → false ≡ leb n (met f x y)
    walk-stop ne =
        let e = shared-stop (dewey (row_of f x)) (dewey (row_of f y)) k in_x in_y (λ q. ne (sym at_x ∙ q ∙ at_y)) in
        sym (lt-leb n (met f x y) (omega (arith, i.3, e)))

  pub walk_end : (n k : ℕ) → Walk f x y n k → n ≤ k → true ≡ leb n (met f x y)
  walk_end n k i le = sym (le-leb n (met f x y) (omega (arith, i.3)))

-- ---- a row's own fields
pub and_left : {a : Bool} (b : Bool) → a ≡ false → a && b ≡ false
and_left b e = ap (λ a. a && b) e

pub and_right : (a : Bool) {b : Bool} → b ≡ false → a && b ≡ false
and_right true e = e
and_right false e = refl

module _ (f : Format) (b : List ℕ) where
  abbrev kept : Bool
  kept = fields_kept f (row_of f b)

  abbrev low : Bool
  low = between 1 (byte b 0) f.levels

  abbrev spare : Bool
  spare = eqb (byte b 1) 0

  abbrev labelled : Bool
  labelled = between 1 (word b 2) f.labels

  abbrev zeros : Bool
  zeros = all (eqb 0) (drop (byte b 0) (words f.levels b 4))

  pub no_level : byte b 0 < 1 → fields_kept f (row_of f b) ≡ false
  unfolding fields_kept row_of
  no_level lt = and_left zeros (and_left labelled (and_left spare (and_left (leb (byte b 0) f.levels) (lt-leb 1 (byte b 0) lt))))

  pub too_deep : f.levels < byte b 0 → fields_kept f (row_of f b) ≡ false
  unfolding fields_kept row_of
  too_deep lt = and_left zeros (and_left labelled (and_left spare (and_right (leb 1 (byte b 0)) (lt-leb (byte b 0) f.levels lt))))

  pub spare_set : (byte b 1 ≡ 0 → ⊥) → fields_kept f (row_of f b) ≡ false
  unfolding fields_kept row_of
  spare_set ne = and_left zeros (and_left labelled (and_right low (ne_eqb (byte b 1) 0 ne)))

  pub no_label : word b 2 < 1 → fields_kept f (row_of f b) ≡ false
  unfolding fields_kept row_of
  no_label lt = and_left zeros (and_right (low && spare) (and_left (leb (word b 2) f.labels) (lt-leb 1 (word b 2) lt)))

  pub no_such_label : f.labels < word b 2 → fields_kept f (row_of f b) ≡ false
  unfolding fields_kept row_of
  no_such_label lt = and_left zeros (and_right (low && spare) (and_right (leb 1 (word b 2)) (lt-leb (word b 2) f.labels lt)))

  pub zeros_decide : 1 ≤ byte b 0 → byte b 0 ≤ f.levels → byte b 1 ≡ 0 → 1 ≤ word b 2 → word b 2 ≤ f.labels
      → fields_kept f (row_of f b) ≡ all (eqb 0) (drop (byte b 0) (words f.levels b 4))
  unfolding fields_kept row_of
  zeros_decide a c s l m =
      ap (λ x. x && zeros) (and (and (and (le-leb 1 (byte b 0) a) (le-leb (byte b 0) f.levels c)) (eq-eqb (byte b 1) 0 s))
      (and (le-leb 1 (word b 2) l) (le-leb (word b 2) f.labels m)))

pub fields_level : (f : Format) (b : List ℕ) → fields_kept f (row_of f b) ≡ true → (1 ≤ byte b 0) × (byte b 0 ≤ f.levels)
unfolding row_of
fields_level f b e = Rattle.paper.proofs.Tables.fields_level f (row_of f b) e
