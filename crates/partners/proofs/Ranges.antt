-- What the walk counts run by run is the least and the greatest of the numbers of closest rows. Assumes nothing.
use Prim.Native.Nat.{ℕ, zero, suc, ◌≤◌, ◌<◌, min, max, zero-le}
use native.Mathlib.Nat.{le_antisymm}
use native.Mathlib.Omega.{arith}
use mathlib.Core.Path.{◌≡◌, refl, sym, ◌∙◌, ap, subst}
use mathlib.Core.Logic.{◌⊎◌, inl, inr, ⊎_elim}
use mathlib.Core.Bool.{Bool, true, false}
use mathlib.Core.List.{List, [], ◌∷◌}
use lib.Dec.{eqb, leb}
use lib.ListN.{length, get_or}
use borrow.Author.Tests.{eqb-true, eq-eqb, ne_eqb, eqb-false, leb-true, leb-false}
use Rattle.paper.specs.Lists.{Has, keep, count, least}
use Rattle.paper.specs.Partners.{greatest}
use Rattle.paper.proofs.Lists.{keep-has, has-keep, map-has, has-map, count-has, has-count, least_le, least_reached, most_has, most_reached}
use Rattle.types.proofs.Step.{below}
use Rattle.closest.specs.Runs.{Rows, begins, start_of}
use Rattle.closest.proofs.Starts.{start_on}
use Rattle.partners.specs.Closest.{closest_rows, numbers_of, least_or, Bound}
use Rattle.partners.specs.Eight.{no_number, ended, fewer, more, counted, least_to, greatest_to, least_in, greatest_in}
use Rattle.partners.proofs.Counted.{counted_none, counted-row, row-counted, run-number, number_le, begins-over, unused_counted, unused_ended}

-- ---- the lesser of two, and the greater
-- what is picked of two is past both
record Picks (op : ℕ → ℕ → ℕ) (Past : ℕ → ℕ → Type 0) : Type 0 where
  new : (m n : ℕ) → Past (op m n) n
  old : (m n x : ℕ) → Past m x → Past (op m n) x
  either : (m n : ℕ) → (op m n ≡ m) ⊎ (op m n ≡ n)

lesser : Picks min ◌≤◌
lesser = record {
  new = λ m n. omega arith;
  old = λ m n x le. omega arith;
  either = λ m n. go m n (leb m n) refl;
}
  where
    go : (m n : ℕ) (b : Bool) → leb m n ≡ b → (min m n ≡ m) ⊎ (min m n ≡ n)
    go m n true e = inl (omega (arith, leb-true m n e))
    go m n false e = inr (omega (arith, leb-false m n e))

greater : Picks max (λ m n. n ≤ m)
greater = record {
  new = λ m n. omega arith;
  old = λ m n x le. omega arith;
  either = λ m n. go m n (leb m n) refl;
}
  where
    go : (m n : ℕ) (b : Bool) → leb m n ≡ b → (max m n ≡ m) ⊎ (max m n ≡ n)
    go m n true e = inr (omega (arith, leb-true m n e))
    go m n false e = inl (omega (arith, leb-false m n e))

-- a number is picked where any row has it
abbrev put : (ℕ → ℕ → ℕ) → ℕ → ℕ → ℕ → ℕ
put op m n c = elim (eqb c 0) [ true ↦ m | false ↦ op m n ]

module _ {op : ℕ → ℕ → ℕ} {Past : ℕ → ℕ → Type 0} (picks : Picks op Past) (m n c : ℕ) where
  put_some : 0 < c → put op m n c ≡ op m n
  put_some pos = ap (λ b. elim b as (λ _. ℕ) [ true ↦ m | false ↦ op m n ]) (ne_eqb c 0 (λ e. omega arith))

  put_past : 0 < c → Past (put op m n c) n
  put_past pos = subst (λ x. Past x n) (sym (put_some pos)) (picks.new m n)

  put_old : (x : ℕ) → Past m x → Past (put op m n c) x
  put_old x h = go (eqb c 0)
    where
      go : (b : Bool) → Past (elim b [ true ↦ m | false ↦ op m n ]) x
      go true = h
      go false = picks.old m n x h

  put_either : (put op m n c ≡ m) ⊎ ((0 < c) × (put op m n c ≡ n))
  put_either = go (eqb c 0) refl
    where
      go : (b : Bool) → eqb c 0 ≡ b → (put op m n c ≡ m) ⊎ ((0 < c) × (put op m n c ≡ n))
      go true e = inl (ap (λ b. elim b as (λ _. ℕ) [ true ↦ m | false ↦ op m n ]) e)
      go false e =
          let pos : 0 < c = omega (arith, eqb-false c 0 e) in
          ⊎_elim (λ q. inl (put_some pos ∙ q)) (λ q. inr (pos, put_some pos ∙ q)) (picks.either m n)

-- ---- what is past all of a list and one of it
least_of : (m : ℕ) (ns : List ℕ) → ((n : ℕ) → Has n ns → n < no_number) → ((n : ℕ) → Has n ns → m ≤ n) → (m ≡ no_number) ⊎ Has m ns
    → m ≡ least_or ns
least_of m [] few each (inl e) = e
least_of m [] few each (inr h) = absurd h
least_of m (x ∷ xs) few each (inl e) = let z : ⊥ = omega (arith, few x (inl refl), each x (inl refl)) in absurd z
least_of m (x ∷ xs) few each (inr h) = le_antisymm (each (least (x ∷ xs)) (least_reached x xs)) (least_le m (x ∷ xs) h)

greatest_of : (m : ℕ) (ns : List ℕ) → ((n : ℕ) → Has n ns → n ≤ m) → (m ≡ 0) ⊎ Has m ns → m ≡ greatest ns
greatest_of m [] each (inl e) = e
greatest_of m [] each (inr h) = absurd h
greatest_of m (x ∷ xs) each one =
    let (n, h, e) = most_reached (λ n. n) x xs in
    le_antisymm (⊎_elim (λ z. omega arith) (λ i. most_has (λ n. n) m (x ∷ xs) i) one) (omega (arith, each n h, e))

module _ (levels types : List ℕ) (rows : ℕ) (rs : Rows rows levels types) (l bound : ℕ) (bd : Bound l bound)
    (bytes : (i : ℕ) → i < rows → get_or levels i 0 < 256) where
  abbrev start : ℕ → ℕ
  start i = start_of levels l i

  abbrev kind : ℕ → ℕ
  kind i = get_or types i 0

  abbrev number : ℕ → ℕ → ℕ
  number k i = length (closest_rows levels types rows l k i)

  abbrev before : ℕ → ℕ → ℕ
  before k i = counted levels types bound k i

  -- no row after row i is of its run
  abbrev Over : ℕ → Type 0
  Over i = (j : ℕ) → i < j → j < rows → start i ≡ start j → ⊥

  -- ---- the list of numbers
  numbers_has : (a b n : ℕ) → Has n (numbers_of levels types rows l a b) → (r : ℕ) × (r < rows) × (kind r ≡ a) × (n ≡ number b r)
  unfolding numbers_of
  numbers_has a b n h =
      let (r, i, e) = map-has (number b) n (keep (λ i. eqb (kind i) a) (count 0 rows)) h in
      let (j, q) = keep-has (λ i. eqb (kind i) a) r (count 0 rows) i in
      (r, omega (arith, count-has 0 rows r j), eqb-true (kind r) a q, e)

  has_numbers : (a b r : ℕ) → r < rows → kind r ≡ a → Has (number b r) (numbers_of levels types rows l a b)
  unfolding numbers_of
  has_numbers a b r lt own =
      has-map (number b) r (keep (λ i. eqb (kind i) a) (count 0 rows))
      (has-keep (λ i. eqb (kind i) a) r (count 0 rows) (has-count 0 rows r zero-le (omega arith)) (eq-eqb (kind r) a own))

  pub numbers_few : (a b n : ℕ) → Has n (numbers_of levels types rows l a b) → n ≤ rows
  numbers_few a b n h = let (r, lt, own, e) = numbers_has a b n h in omega (arith, e, number_le levels types rows l b r)

  -- ---- along the rows, for the lesser of two and for the greater
  module _ (a b : ℕ) (op : ℕ → ℕ → ℕ) (Past : ℕ → ℕ → Type 0) (picks : Picks op Past) (none : ℕ) (to : ℕ → ℕ) (to-zero : to 0 ≡ none)
      (to-suc : (i : ℕ) → to (suc i) ≡ put op (to i) (before b i) (ended bound (get_or levels i 0) (before a i))) where
    -- with the run of the last of the first i rows
    abbrev closed : ℕ → ℕ
    closed i = put op (to i) (before b i) (before a i)

    to_next : (c : Bool) (i : ℕ) → i < rows → begins levels l i ≡ c
        → to (suc i) ≡ put op (to i) (before b i) (elim c as (λ _. ℕ) [ true ↦ before a i | false ↦ 0 ])
    to_next c i lt e =
        to-suc i ∙ ap (λ c. put op (to i) (before b i) (elim c as (λ _. ℕ) [ true ↦ before a i | false ↦ 0 ]))
        (bd (get_or levels i 0) (bytes i lt) ∙ e)

    to_new : (i : ℕ) → i < rows → begins levels l i ≡ true → to (suc i) ≡ closed i
    to_new i lt e = to_next true i lt e

    to_on : (i : ℕ) → i < rows → begins levels l i ≡ false → to (suc i) ≡ to i
    to_on i lt e = to_next false i lt e

    -- what is past a number stays so, and the run that is over is passed
    closed_past : (i r : ℕ) → i < rows → Over i → r ≤ i → kind r ≡ a → (start i ≡ start r) ⊎ Past (to (suc i)) (number b r)
        → Past (closed (suc i)) (number b r)
    closed_past i r lt over le own (inl same) =
        subst (Past (closed (suc i))) (run-number levels types rows l bound bd bytes b i r lt over same)
        (put_past picks (to (suc i)) (before b (suc i)) (before a (suc i)) (row-counted levels types rows l bound bd bytes a i r lt le own same))
    closed_past i r lt over le own (inr h) = put_old picks (to (suc i)) (before b (suc i)) (before a (suc i)) (number b r) h

    to_past : (i : ℕ) → i < rows → (r : ℕ) → r ≤ i → kind r ≡ a → (start i ≡ start r) ⊎ Past (to (suc i)) (number b r)
    to_past zero lt r le own = let q : 0 ≡ r = omega arith in inl (ap start q)
    to_past (suc i) lt r le own =
        ⊎_elim (λ lr. earlier (omega arith) (begins levels l (suc i)) refl (to_past i (omega arith) r (omega arith) own))
        (λ q. inl (ap start (sym q))) (below r (suc i) (omega arith))
      where
        earlier : r ≤ i → (c : Bool) → begins levels l (suc i) ≡ c → (start i ≡ start r) ⊎ Past (to (suc i)) (number b r)
            → (start (suc i) ≡ start r) ⊎ Past (to (suc (suc i))) (number b r)
        earlier lr true e ih =
            inr (subst (λ m. Past m (number b r)) (sym (to_new (suc i) lt e)) (closed_past i r (omega arith) (begins-over levels types rows l i e) lr own ih))
        earlier lr false e ih =
            ⊎_elim (λ same. inl (start_on levels l i e ∙ same)) (λ h. inr (subst (λ m. Past m (number b r)) (sym (to_on (suc i) lt e)) h)) ih

    all_past : (r : ℕ) → r < rows → kind r ≡ a → Past (closed rows) (number b r)
    all_past r lr own = go rows refl
      where
        go : (n : ℕ) → n ≡ rows → Past (closed n) (number b r)
        go zero e = let z : ⊥ = omega arith in absurd z
        go (suc i) e = closed_past i r (omega arith) (λ j lt lj same. omega arith) (omega arith) own (to_past i (omega arith) r (omega arith) own)

    -- the number of some row, or of none
    abbrev Reached : ℕ → Type 0
    Reached m = (m ≡ none) ⊎ ((r : ℕ) × (r < rows) × (kind r ≡ a) × (m ≡ number b r))

    closed_reached : (i : ℕ) → i < rows → Over i → Reached (to (suc i)) → Reached (closed (suc i))
    closed_reached i lt over old = ⊎_elim (λ e. subst Reached (sym e) old)
        (λ (pos, e).
        let (r, le, own, same) = counted-row levels types rows l bound bd bytes a i lt pos in
        inr (r, omega arith, own, e ∙ run-number levels types rows l bound bd bytes b i r lt over same))
        (put_either picks (to (suc i)) (before b (suc i)) (before a (suc i)))

    closed_none : Reached (to 0) → Reached (closed 0)
    closed_none old = subst Reached (sym (ap (put op (to 0) (before b 0)) (counted_none levels types bound a))) old

    to_reached : (i : ℕ) → i ≤ rows → Reached (to i)
    to_reached zero le = inl to-zero
    to_reached (suc i) le = go (begins levels l i) refl (to_reached i (omega arith))
      where
        over : (i : ℕ) → i < rows → begins levels l i ≡ true → Reached (to i) → Reached (closed i)
        over zero lt e old = closed_none old
        over (suc i) lt e old = closed_reached i (omega arith) (begins-over levels types rows l i e) old

        go : (c : Bool) → begins levels l i ≡ c → Reached (to i) → Reached (to (suc i))
        go true e old = subst Reached (sym (to_new i le e)) (over i le e old)
        go false e old = subst Reached (sym (to_on i le e)) old

    all_reached : Reached (closed rows)
    all_reached = go rows refl
      where
        go : (n : ℕ) → n ≡ rows → Reached (closed n)
        go zero e = closed_none (to_reached 0 zero-le)
        go (suc i) e = closed_reached i (omega arith) (λ j lt lj same. omega arith) (to_reached (suc i) (omega arith))

    -- ---- of the list
    closed_each : (n : ℕ) → Has n (numbers_of levels types rows l a b) → Past (closed rows) n
    closed_each n h = let (r, lr, own, e) = numbers_has a b n h in subst (Past (closed rows)) (sym e) (all_past r lr own)

    closed_one : (closed rows ≡ none) ⊎ Has (closed rows) (numbers_of levels types rows l a b)
    closed_one = ⊎_elim (λ e. inl e)
        (λ (r, lr, own, e). inr (subst (λ m. Has m (numbers_of levels types rows l a b)) (sym e) (has_numbers a b r lr own))) all_reached

  -- ---- the laws
  pub least_law : (a b : ℕ) → least_in levels types bound a b rows ≡ least_or (numbers_of levels types rows l a b)
  unfolding least_to
  least_law a b = least_of (least_in levels types bound a b rows) (numbers_of levels types rows l a b)
      (λ n h. omega (arith, numbers_few a b n h, rs.few))
      (closed_each a b min ◌≤◌ lesser no_number (least_to levels types bound a b) refl (λ i. refl))
      (closed_one a b min ◌≤◌ lesser no_number (least_to levels types bound a b) refl (λ i. refl))

  pub greatest_law : (a b : ℕ) → greatest_in levels types bound a b rows ≡ greatest (numbers_of levels types rows l a b)
  unfolding greatest_to
  greatest_law a b = greatest_of (greatest_in levels types bound a b rows) (numbers_of levels types rows l a b)
      (closed_each a b max (λ m n. n ≤ m) greater 0 (greatest_to levels types bound a b) refl (λ i. refl))
      (closed_one a b max (λ m n. n ≤ m) greater 0 (greatest_to levels types bound a b) refl (λ i. refl))

-- ---- where no row has the types
module _ (levels types : List ℕ) (rows : ℕ) (rs : Rows rows levels types) (bound : ℕ) where
  abbrev so_far : ℕ → ℕ → ℕ
  so_far k i = counted levels types bound k i

  least_to_lem : (a b : ℕ) → a ≡ no_number → (i : ℕ) → i ≤ rows → least_to levels types bound a b i ≡ no_number
  unfolding least_to
  least_to_lem a b e zero le = refl
  least_to_lem a b e (suc i) le =
      ap (fewer (least_to levels types bound a b i) (so_far b i)) (unused_ended levels types rows rs bound a e i le) ∙ least_to_lem a b e i (omega arith)

  greatest_to_lem : (a b : ℕ) → a ≡ no_number → (i : ℕ) → i ≤ rows → greatest_to levels types bound a b i ≡ 0
  unfolding greatest_to
  greatest_to_lem a b e zero le = refl
  greatest_to_lem a b e (suc i) le =
      ap (more (greatest_to levels types bound a b i) (so_far b i)) (unused_ended levels types rows rs bound a e i le) ∙ greatest_to_lem a b e i (omega arith)

  module _ (a b : ℕ) (no-a : a ≡ no_number) (no-b : b ≡ no_number) where
    none_a : so_far a rows ≡ 0
    none_a = unused_counted levels types rows rs bound a no-a rows (omega arith)

    pub unused_least : least_in levels types bound a b rows ≡ no_number
    unused_least = ap (fewer (least_to levels types bound a b rows) (so_far b rows)) none_a ∙ least_to_lem a b no-a rows (omega arith)

    pub unused_greatest : greatest_in levels types bound a b rows ≡ 0
    unused_greatest = ap (more (greatest_to levels types bound a b rows) (so_far b rows)) none_a ∙ greatest_to_lem a b no-a rows (omega arith)
