-- Laws of an index: lists are this table's exactly where no test refuses them, and what is built is the table's. Assumes nothing.
use Prim.Native.Nat.{ℕ, suc, ◌+◌, ◌-◌, ◌≤◌}
use native.Mathlib.Omega.{arith}
use mathlib.Core.Path.{◌≡◌, refl, sym, ◌∙◌, ap, ap₂}
use mathlib.Core.Logic.{inl, inr}
use mathlib.Core.Bool.{Bool, true, false, true≢false, not, ◌||◌}
use mathlib.Core.List.{List, [], ◌∷◌, ◌++◌, map}
use mathlib.Core.Option.{Option, none, some}
use lib.Dec.{eqb, ltb}
use lib.ListN.{length, get_or, take, drop, length-append, length-map}
use lib.Seq.{drop-cons, get_or-take, take_at}
use borrow.Author.Tests.{eqb-true, eq-eqb, le-ltb, ltb-false}
use Rattle.paper.specs.Lists.{Has, place}
use Rattle.paper.specs.Format.{Format}
use Rattle.paper.specs.Tables.{Row, dewey, row_types, types, type_number}
use Rattle.paper.specs.Closeness.{Node, nodes_from, nodes}
use Rattle.paper.specs.Calls.{Answer, refused, given, ◌>>=◌, refuse, refuse_at, reply, after, tests1_3, tests1_4}
use Rattle.paper.specs.Index.{last_descendant, next_of_type, Index, index_of, too_short, wrong_at, wrong_row, tests_index}
use Rattle.paper.specs.Index.{building, build_index}
use Rattle.paper.proofs.Forest.{Numbered, place_bounds}
use Rattle.paper.proofs.Tables.{nodes_numbered, step, length-ways}
use Rattle.paper.proofs.Calls.{bind_given, refuse-given, refuse_at-given}

-- ---- figures of rows in a list, row by row
pub figure_at : (i : ℕ) (t : List Node) → Numbered i t → (g : Node → ℕ) (r : Node) → Has r t → get_or (map g t) (r.place - i) 0 ≡ g r
figure_at i [] o g r h = absurd h
figure_at i (x ∷ t) o g r (inl e) =
    let q : r.place - i ≡ 0 = omega (arith, ap (λ (z : Node). z.place) e, o.0) in ap (λ k. get_or (map g (x ∷ t)) k 0) q ∙ ap g (sym e)
figure_at i (x ∷ t) o g r (inr h) =
    let b = (place_bounds (suc i) t o.1 r h).0 in
    let q : r.place - i ≡ suc (r.place - suc i) = omega arith in
    ap (λ k. get_or (map g (x ∷ t)) k 0) q ∙ figure_at (suc i) t o.1 g r h

pub figures_are : (i : ℕ) (t : List Node) → Numbered i t → (g : Node → ℕ) (l : List ℕ) → i + length t ≤ length l
    → ((r : Node) → Has r t → get_or l r.place 0 ≡ g r) → take (length t) (drop i l) ≡ map g t
figures_are i [] o g l long each = refl
figures_are i (x ∷ t) o g l long each =
    ap (take (suc (length t))) (drop-cons l i 0 (omega arith))
    ∙ ap₂ {C = List ℕ} (λ a b. a ∷ b) (ap (λ k. get_or l k 0) (sym o.0) ∙ each x (inl refl))
    (figures_are (suc i) t o.1 g l (omega arith) (λ r h. each r (inr h)))

-- ---- the first row that fails a test
module _ (q : Node → Bool) where
  none-place : (t : List Node) → ((r : Node) → Has r t → q r ≡ false) → place q t ≡ length t
  none-place [] each = refl
  none-place (x ∷ t) each =
      ap (λ b. elim b [ true ↦ 0 | false ↦ suc (place q t) ]) (each x (inl refl)) ∙ ap suc (none-place t (λ r h. each r (inr h)))

  place_none : (t : List Node) → length t ≤ place q t → (r : Node) → Has r t → q r ≡ false
  place_none [] le r h = absurd h
  place_none (x ∷ t) le r h = go (q x) refl (place_none t) h
    where
      go : (b : Bool) → q x ≡ b → (length t ≤ place q t → (r : Node) → Has r t → q r ≡ false) → Has r (x ∷ t) → q r ≡ false
      go true e ih h = let z : ⊥ = omega (arith, le, ap {B = ℕ} (λ b. elim b [ true ↦ 0 | false ↦ suc (place q t) ]) e) in absurd z
      go false e ih (inl p) = ap q p ∙ e
      go false e ih (inr h) = ih (omega (arith, le, ap {B = ℕ} (λ b. elim b [ true ↦ 0 | false ↦ suc (place q t) ]) e)) r h

-- ---- lists and the index
module _ (t : List Node) (last next : List ℕ) where
  abbrev found : ℕ → Bool → Option ℕ
  found p b = elim b [ true ↦ some p | false ↦ none ]

  -- every row has its places right
  Right : Type 0
  Right = (r : Node) → Has r t → (get_or last r.place 0 ≡ last_descendant t r) × (get_or next r.place 0 ≡ next_of_type t r)

  right_none : Right → wrong_row t last next ≡ none
  unfolding wrong_row Right wrong_at
  right_none right =
      let e = none-place (wrong_at t last next) t (λ r h. ap₂ (λ a b. not a || not b)
      (eq-eqb (get_or last r.place 0) (last_descendant t r) (right r h).0) (eq-eqb (get_or next r.place 0) (next_of_type t r) (right r h).1)) in
      ap (λ p. found p (ltb p (length t))) e ∙ ap (found (length t)) (le-ltb (length t) (length t) (omega arith))

  none_right : wrong_row t last next ≡ none → Right
  unfolding wrong_row Right wrong_at
  none_right e r h =
      both (eqb (get_or last r.place 0) (last_descendant t r)) (eqb (get_or next r.place 0) (next_of_type t r)) refl refl
      (place_none (wrong_at t last next) t (late (ltb p (length t)) refl) r h)
    where
      p : ℕ
      p = place (wrong_at t last next) t

      late : (b : Bool) → ltb p (length t) ≡ b → length t ≤ p
      late true q = let z : some p ≡ none = sym (ap (found p) q) ∙ e in absurd (some-none z)
        where
          some-none : {A : Type 0} {x : A} → some x ≡ none → ⊥
          some-none z = true≢false (ap (λ o. elim o [ some _ ↦ true | none ↦ false ]) z)
      late false q = ltb-false p (length t) q

      both : (a b : Bool) → eqb (get_or last r.place 0) (last_descendant t r) ≡ a → eqb (get_or next r.place 0) (next_of_type t r) ≡ b → not a || not b ≡ false
          → (get_or last r.place 0 ≡ last_descendant t r) × (get_or next r.place 0 ≡ next_of_type t r)
      both true true x y z = (eqb-true (get_or last r.place 0) (last_descendant t r) x, eqb-true (get_or next r.place 0) (next_of_type t r) y)
      both true false x y z = absurd (true≢false z)
      both false b x y z = absurd (true≢false z)

-- ---- the tests
-- there are as many nodes as rows
pub length-nodes : (rs : List Row) → length (nodes rs) ≡ length rs
unfolding nodes row_types
length-nodes rs =
    both 0 (map (type_number (types rs)) (row_types rs)) (map dewey rs)
    (length-map (row_types rs) (type_number (types rs)) ∙ length-ways [] (map step rs) ∙ length-map rs step ∙ sym (length-map rs dewey)) ∙ length-map rs dewey
  where
    both : (i : ℕ) (ks : List ℕ) (ds : List (List ℕ)) → length ks ≡ length ds → length (nodes_from i ks ds) ≡ length ds
    both i [] [] e = refl
    both i [] (d ∷ ds) e = let z : ⊥ = omega (arith, e) in absurd z
    both i (k ∷ ks) [] e = let z : ⊥ = omega (arith, e) in absurd z
    both i (k ∷ ks) (d ∷ ds) e = ap suc (both (suc i) ks ds (omega (arith, e)))

-- the lists begin with the table's index
pub record Begins (rs : List Row) (last next : List ℕ) : Type 0 where
  pub long_last : length rs ≤ length last
  pub long_next : length rs ≤ length next
  pub lasts : take (length rs) last ≡ (index_of (nodes rs)).last
  pub nexts : take (length rs) next ≡ (index_of (nodes rs)).next

-- 14 and then 15, of rows that were read
abbrev pub tested : List Row → Bool → Option ℕ → Answer (List Row)
tested rs short wrong = refuse 14 short >>= (λ _. refuse_at 15 wrong >>= (λ _. given rs))

module _ (f : Format) (t last next : List ℕ) (rs : List Row) (table : tests1_4 f t ≡ given rs) where
  -- once 1 to 4 have passed, 14 and then 15
  pub tests_are : tests_index f t last next ≡ tested rs (too_short rs last next) (wrong_row (nodes rs) last next)
  unfolding tests_index
  tests_are = ap (λ a. a >>= (λ (rs : List Row). tested rs (too_short rs last next) (wrong_row (nodes rs) last next))) table

  -- lists that begin with the table's index are let through
  pub index_passes : Begins rs last next → tests_index f t last next ≡ given rs
  unfolding index_of Right
  index_passes b = tests_are ∙ ap₂ (tested rs) (ap₂ ◌||◌ (le-ltb (length last) (length rs) b.long_last) (le-ltb (length next) (length rs) b.long_next))
      (right_none (nodes rs) last next (λ r h. (at (last_descendant (nodes rs)) last b.lasts r h, at (next_of_type (nodes rs)) next b.nexts r h)))
    where
      at : (g : Node → ℕ) (l : List ℕ) → take (length rs) l ≡ map g (nodes rs) → (r : Node) → Has r (nodes rs) → get_or l r.place 0 ≡ g r
      at g l e r h =
          let lt = (place_bounds 0 (nodes rs) (nodes_numbered rs) r h).1 in
          let q : r.place ≡ r.place - 0 = omega arith in
          sym (get_or-take (length rs) l r.place 0 (omega (arith, length-nodes rs))) ∙ ap (λ l. get_or l r.place 0) e ∙ ap (λ k. get_or (map g (nodes rs)) k 0) q
          ∙ figure_at 0 (nodes rs) (nodes_numbered rs) g r h

  -- and no others are
  pub index_only : tests_index f t last next ≡ given rs → Begins rs last next
  unfolding index_of Right
  index_only e = record {
    long_last = short.0;
    long_next = short.1;
    lasts = fill (last_descendant (nodes rs)) last short.0 (λ r h. (right r h).0);
    nexts = fill (next_of_type (nodes rs)) next short.1 (λ r h. (right r h).1);
  }
    where
      long_enough : (u : Unit {0}) × (refuse 14 (too_short rs last next) ≡ given u) × ((refuse_at 15 (wrong_row (nodes rs) last next) >>= (λ _. given rs)) ≡ given rs)
      long_enough = bind_given (refuse 14 (too_short rs last next)) _ rs (sym tests_are ∙ e)

      none_wrong : (u : Unit {0}) × (refuse_at 15 (wrong_row (nodes rs) last next) ≡ given u) × (◌≡◌ {A = Answer (List Row)} (given rs) (given rs))
      none_wrong = bind_given (refuse_at 15 (wrong_row (nodes rs) last next)) (λ _. given rs) rs long_enough.2

      neither : (a b : Bool) → a || b ≡ false → (a ≡ false) × (b ≡ false)
      neither true b z = absurd (true≢false z)
      neither false b z = (refl, z)

      short : (length rs ≤ length last) × (length rs ≤ length next)
      short =
          let (a, b) = neither (ltb (length last) (length rs)) (ltb (length next) (length rs)) (refuse-given 14 (too_short rs last next) long_enough.0 long_enough.1) in
          (ltb-false (length last) (length rs) a, ltb-false (length next) (length rs) b)

      right : Right (nodes rs) last next
      right = none_right (nodes rs) last next (refuse_at-given 15 (wrong_row (nodes rs) last next) none_wrong.0 none_wrong.1)

      fill : (g : Node → ℕ) (l : List ℕ) → length rs ≤ length l → ((r : Node) → Has r (nodes rs) → get_or l r.place 0 ≡ g r) → take (length rs) l ≡ map g (nodes rs)
      fill g l long each =
          ap (λ n. take n l) (sym (length-nodes rs)) ∙ figures_are 0 (nodes rs) (nodes_numbered rs) g l (omega (arith, length-nodes rs)) each

-- a table that is refused before its lists are looked at
pub index_refused : (f : Format) (t last next : List ℕ) (k p : ℕ) → tests1_4 f t ≡ refused k p → tests_index f t last next ≡ refused k p
unfolding tests_index
index_refused f t last next k p e = ap (λ a. a >>= (λ (rs : List Row). tested rs (too_short rs last next) (wrong_row (nodes rs) last next))) e

-- where none refuses, the tests read what 1 to 4 read
pub index_reads : (f : Format) (t last next : List ℕ) (rs : List Row) → tests_index f t last next ≡ given rs → tests_index f t last next ≡ tests1_4 f t
unfolding tests_index
index_reads f t last next rs h =
    let (x, h₁, k₁) = bind_given (tests1_4 f t) _ rs h in
    let (u, h₂, k₂) = bind_given (refuse 14 (too_short x last next)) _ rs k₁ in
    let (v, h₃, k₃) = bind_given (refuse_at 15 (wrong_row (nodes x) last next)) _ rs k₂ in
    h ∙ sym (h₁ ∙ k₃)

-- ---- what is built
module _ (f : Format) (t last next : List ℕ) where
  module _ (accepted : (build_index f t last next).reply.number ≡ 0) (rs : List Row) (table : tests1_3 f t ≡ given rs) where
    abbrev length_of : Index → Answer ℕ
    length_of x = given (length x.last)

    abbrev tested_3 : Answer (List Row) → Answer Index
    tested_3 a = a >>= (λ (rs : List Row). refuse 14 (too_short rs last next) >>= (λ _. given (index_of (nodes rs))))

    -- an accepted call has passed 14, and gives the index
    numbered : building f t last next ≡ refused 14 0 → (build_index f t last next).reply.number ≡ 14
    unfolding build_index
    numbered q = ap (λ a. (reply 0 (a >>= length_of)).number) q

    abbrev by_short : Bool → Answer Index
    by_short b = refuse 14 b >>= (λ _. given (index_of (nodes rs)))

    building-is : (b : Bool) → too_short rs last next ≡ b → building f t last next ≡ by_short b
    unfolding building
    building-is b e = ap tested_3 table ∙ ap by_short e

    built-is : building f t last next ≡ given (index_of (nodes rs))
    built-is = go (too_short rs last next) refl
      where
        go : (b : Bool) → too_short rs last next ≡ b → building f t last next ≡ given (index_of (nodes rs))
        go true e = let z : ⊥ = omega (arith, accepted, numbered (building-is true e)) in absurd z
        go false e = building-is false e

    pub built-begins : Begins rs (build_index f t last next).last (build_index f t last next).next
    unfolding build_index index_of
    built-begins = record {
      long_last = omega (arith, ap length last_is, length-append (map g ns) (drop n last), long g);
      long_next = omega (arith, ap length next_is, length-append (map h ns) (drop m next), long h);
      lasts = ap (take (length rs)) last_is ∙ take_at (map g ns) (drop n last) (length rs) (long g);
      nexts = ap (take (length rs)) next_is ∙ take_at (map h ns) (drop m next) (length rs) (long h);
    }
      where
        ns : List Node
        ns = nodes rs

        g : Node → ℕ
        g = last_descendant ns

        h : Node → ℕ
        h = next_of_type ns

        n : ℕ
        n = length (map g ns)

        m : ℕ
        m = length (map h ns)

        long : (k : Node → ℕ) → length (map k ns) ≡ length rs
        long k = length-map ns k ∙ length-nodes rs

        last_is : after last (building f t last next >>= (λ (x : Index). given x.last)) ≡ map g ns ++ drop n last
        last_is = ap (λ a. after last (a >>= (λ (x : Index). given x.last))) built-is

        next_is : after next (building f t last next >>= (λ (x : Index). given x.next)) ≡ map h ns ++ drop m next
        next_is = ap (λ a. after next (a >>= (λ (x : Index). given x.next))) built-is
