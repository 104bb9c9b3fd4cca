-- Rows deeper than every bound: they end no run, so that they are only counted. Assumes nothing.
use Prim.Native.Nat.{ℕ, zero, suc, ◌+◌, ◌≤◌, ◌<◌}
use native.Mathlib.Nat.{not-suc-le-zero, eq-or-lt_of_le}
use native.Mathlib.Omega.{arith}
use native.Mathlib.Numerals.{add-one}
use mathlib.Core.Path.{◌≡◌, sym, ◌∙◌, ap}
use mathlib.Core.Logic.{⊎_elim}
use mathlib.Core.List.{List}
use lib.ListN.{get_or}
use borrow.Author.Count.{below_more}
use Rattle.partners.specs.declared.eight.Eight.{Eight}
use Rattle.partners.specs.declared.eight.Counts.{Counts}
use Rattle.partners.specs.Eight.{places, Eights, ended, single, counted, least_to, greatest_to, lone_to, Within, Few, CountsOn, CountsDeep}
use Rattle.partners.proofs.Places.{ended_above, fewer-none, more-none, first_end_without, single_le, onward_above}
use Rattle.partners.proofs.Walked.{WalkedTo, counted_le}

-- ---- one deep row
-- the places after a row of type k that begins no run
abbrev pub Added : (wanted : List ℕ) (k : ℕ) (before after : List ℕ) → Type 0
Added wanted k before after = Eights (λ e. get_or before e 0 + single (get_or wanted e 0) k) after

-- the counts after a row that begins no run are no more than the rows
added_few : (wanted : List ℕ) (k i : ℕ) (before after : List ℕ) → ((e : ℕ) → e < places → get_or before e 0 ≤ i) → Added wanted k before after
    → (e : ℕ) → e < places → get_or after e 0 ≤ i + 1
added_few wanted k i before after few a e lt = omega (arith, a e lt, few e lt, single_le (get_or wanted e 0) k)

module _ (levels types : List ℕ) where
  counted_above : (bound k i : ℕ) → bound < get_or levels i 0
      → counted levels types bound k i + single k (get_or types i 0) ≡ counted levels types bound k (i + 1)
  unfolding counted
  counted_above bound k i lt = rw (add-one i) (sym (onward_above bound (get_or levels i 0) k (get_or types i 0) (counted levels types bound k i) lt))

  module _ (bound a b i : ℕ) (lt : bound < get_or levels i 0) where
    least_to_above : least_to levels types bound a b (suc i) ≡ least_to levels types bound a b i
    unfolding least_to
    least_to_above = fewer-none (least_to levels types bound a b i) (counted levels types bound b i)
        (ended bound (get_or levels i 0) (counted levels types bound a i)) (ended_above bound (get_or levels i 0) (counted levels types bound a i) lt)

    greatest_to_above : greatest_to levels types bound a b (suc i) ≡ greatest_to levels types bound a b i
    unfolding greatest_to
    greatest_to_above = more-none (greatest_to levels types bound a b i) (counted levels types bound b i)
        (ended bound (get_or levels i 0) (counted levels types bound a i)) (ended_above bound (get_or levels i 0) (counted levels types bound a i) lt)

    lone_to_above : lone_to levels types bound a b (suc i) ≡ lone_to levels types bound a b i
    unfolding lone_to
    lone_to_above = first_end_without (lone_to levels types bound a b i) (counted levels types bound a i)
        (ended bound (get_or levels i 0) (counted levels types bound b i)) i (ended_above bound (get_or levels i 0) (counted levels types bound b i) lt)

-- ---- the deep rows from one that comes next to another
abbrev pub up_to : (parents children : List ℕ) (row : ℕ) → Counts
up_to parents children row = record { parents = parents; children = children; row = row }

-- what each step keeps is kept to the last
kept : {A : Type 0} (f : ℕ → A) (i j : ℕ) → i ≤ j → ((n : ℕ) → i ≤ n → n < j → f (suc n) ≡ f n) → f j ≡ f i
kept f i zero le steps = ap f (omega arith)
kept f i (suc j) le steps =
    ⊎_elim (λ e. ap f (sym e))
    (λ lt. let within : i ≤ j = omega (arith, lt) in steps j within (omega arith) ∙ kept f i j within (λ n from to. steps n from (omega (arith, to))))
    (eq-or-lt_of_le le)

module _ (levels types : List ℕ) (rows : ℕ) (over own : List ℕ) (bound : ℕ) where
  -- the counts at the row that comes next, and what was counted since the counts at the first
  pub record CountedDeep (at now : Counts) : Type 0 where
    pub few : Few rows now
    pub deep : CountsDeep levels types rows over own bound at now

  pub deep_none : (at : Counts) → Few rows at → CountedDeep at at
  deep_none at few = record {
    few = few;
    deep = record {
      row_on = omega arith;
      row_in = few.row_in;
      deeper = λ i le lt. absurd (not-suc-le-zero {n = 0} (omega (arith, le, lt)));
      parents_on = λ e least lt le q. q;
      children_on = λ e least lt le q. q;
    };
  }

  -- one row more, deeper than the bound
  pub deep_more : {at : Counts} {parents children : List ℕ} {i : ℕ} → CountedDeep at (up_to parents children i) → i < rows → bound < get_or levels i 0
      → {parents' children' : List ℕ} → Added over (get_or types i 0) parents parents' → Added own (get_or types i 0) children children'
      → CountedDeep at (up_to parents' children' (i + 1))
  deep_more {at} {parents} {children} {i} c more lt {parents'} {children'} p ch = record {
    few = record {
      row_in = omega (arith, more);
      parents_few = added_few over (get_or types i 0) i parents parents' c.few.parents_few p;
      children_few = added_few own (get_or types i 0) i children children' c.few.children_few ch;
    };
    deep = record {
      row_on = omega (arith, c.deep.row_on);
      row_in = omega (arith, more);
      deeper = λ n le to. below_more (λ k. at.row ≤ k → bound < get_or levels k 0) i (λ k k-to k-from. c.deep.deeper k k-from k-to) (λ from. lt) n to le;
      parents_on = on over at.parents parents parents' p c.deep.parents_on;
      children_on = on own at.children children children' ch c.deep.children_on;
    };
  }
    where
      on : (wanted first before after : List ℕ) → Added wanted (get_or types i 0) before after
          → CountsOn levels types wanted bound at.row i first before → CountsOn levels types wanted bound at.row (i + 1) first after
      on wanted first before after a was e least here le q =
          a e here ∙ ap (λ n. n + single (get_or wanted e 0) (get_or types i 0)) (was e least here le q)
          ∙ counted_above levels types least (get_or wanted e 0) i (omega (arith, le, lt))

module _ (levels types bounds over own : List ℕ) {i : ℕ} {found : Eight} {parents children : List ℕ}
    (w : WalkedTo levels types bounds over own i found parents children) where
  pub walked_few : (rows : ℕ) → i ≤ rows → Few rows (up_to parents children i)
  walked_few rows le = record {
    row_in = le;
    parents_few = λ e lt. omega (arith, w.parents_are e lt, counted_le levels types (get_or bounds e 0) (get_or over e 0) i);
    children_few = λ e lt. omega (arith, w.children_are e lt, counted_le levels types (get_or bounds e 0) (get_or own e 0) i);
  }

  -- what is found stays as it is along the rows that are deeper than every bound
  pub walked-deep : {rows bound : ℕ} {after : Counts} → Within bounds bound → CountsDeep levels types rows over own bound (up_to parents children i) after
      → WalkedTo levels types bounds over own after.row found after.parents after.children
  walked-deep {rows} {bound} {after} within d = record {
    least_children_lem = λ e lt. w.least_children_lem e lt ∙ stays e lt (λ b. least_to levels types b (get_or over e 0) (get_or own e 0))
        (λ b. least_to_above levels types b (get_or over e 0) (get_or own e 0));
    greatest_children_lem = λ e lt. w.greatest_children_lem e lt ∙ stays e lt (λ b. greatest_to levels types b (get_or over e 0) (get_or own e 0))
        (λ b. greatest_to_above levels types b (get_or over e 0) (get_or own e 0));
    least_parents_lem = λ e lt. w.least_parents_lem e lt ∙ stays e lt (λ b. least_to levels types b (get_or own e 0) (get_or over e 0))
        (λ b. least_to_above levels types b (get_or own e 0) (get_or over e 0));
    greatest_parents_lem = λ e lt. w.greatest_parents_lem e lt ∙ stays e lt (λ b. greatest_to levels types b (get_or own e 0) (get_or over e 0))
        (λ b. greatest_to_above levels types b (get_or own e 0) (get_or over e 0));
    lone_is = λ e lt. w.lone_is e lt ∙ stays e lt (λ b. lone_to levels types b (get_or over e 0) (get_or own e 0))
        (λ b. lone_to_above levels types b (get_or over e 0) (get_or own e 0));
    parents_are = λ e lt. d.parents_on e (get_or bounds e 0) lt (within e lt) (w.parents_are e lt);
    children_are = λ e lt. d.children_on e (get_or bounds e 0) lt (within e lt) (w.children_are e lt);
  }
    where
      stays : (e : ℕ) → e < places → (figure : ℕ → ℕ → ℕ) → ((b n : ℕ) → b < get_or levels n 0 → figure b (suc n) ≡ figure b n)
          → figure (get_or bounds e 0) i ≡ figure (get_or bounds e 0) after.row
      stays e lt figure above = sym (kept (figure (get_or bounds e 0)) i after.row d.row_on
          (λ n from to. above (get_or bounds e 0) n (omega (arith, within e lt, d.deeper n from to))))
