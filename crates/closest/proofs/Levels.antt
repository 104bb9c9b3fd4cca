-- Where rows meet, told by their levels: a row meets the next row just above the next row's level. Assumes nothing.
use Prim.Native.Nat.{ℕ, zero, suc, ◌+◌, ◌≤◌, ◌<◌, pred, min}
use native.Mathlib.Nat.{le_antisymm}
use native.Mathlib.Omega.{arith}
use mathlib.Core.Path.{◌≡◌, sym, ap, subst}
use mathlib.Core.Logic.{⊎_elim}
use mathlib.Core.List.{List}
use lib.ListN.{length-take}
use Rattle.paper.specs.Lists.{Has}
use Rattle.paper.specs.Format.{Format, byte, words}
use Rattle.paper.specs.Tables.{rows, row_of, row_part}
use Rattle.paper.specs.Closeness.{Node, nodes, meet, level}
use Rattle.paper.proofs.Agree.{agree_self, agree_trans, shared→agree, agree→shared, shared-length}
use Rattle.paper.proofs.Forest.{follows-meet, next_follows}
use Rattle.paper.proofs.Tables.{rows_laid, sound-pos, length-words}
use Rattle.types.proofs.Step.{below}
use Rattle.closest.specs.Node.{node, Typed}
use Rattle.closest.proofs.Meets.{closer_left, closer_right, numbered, forest, here, is-node}

module _ (f : Format) (n : ℕ) (t ks : List ℕ) (ty : Typed f n t ks) where
  abbrev at : ℕ → Node
  at i = node f t i

  abbrev ns : List Node
  ns = nodes (rows f t)

  pub level-pos : (i : ℕ) → i < n → 1 ≤ level (node f t i)
  level-pos i lt =
      sound-pos f (rows f t) (rows_laid f t) ty.sound.kept (at i) (here f n t ks ty i lt)

  -- a row is no deeper than the format
  pub level_most : (x : Node) → Has x (nodes (rows f t)) → level x ≤ f.levels
  unfolding row_of
  level_most x h =
      let b = row_part f t x.place in
      omega (arith, ap level (is-node f n t ks ty x h), length-take (byte b 0) (words f.levels b 4), length-words f.levels b 4)

  pub meet_self : (i : ℕ) → meet (node f t i) (node f t i) ≡ level (node f t i)
  meet_self i = le_antisymm (shared-length (at i).dewey (at i).dewey) (agree→shared (level (at i)) (at i).dewey (at i).dewey (agree_self (at i).dewey))

  pub meet-level : (i j : ℕ) → meet (node f t i) (node f t j) ≤ level (node f t i)
  meet-level i j = shared-length (at i).dewey (at j).dewey

  -- a row meets the next one just above the level of the next
  pub meet_next : (i : ℕ) → i + 1 < n → meet (node f t i) (node f t (i + 1)) ≡ pred (level (node f t (i + 1)))
  meet_next i lt =
      follows-meet (at i).dewey (at (i + 1)).dewey (next_follows 0 _ ns (numbered f n t ks ty) (forest f n t ks ty) (at i) (at (i + 1))
      (here f n t ks ty i (omega arith)) (here f n t ks ty (i + 1) lt) (omega arith))

  -- a row meets the one after row j where it meets row j, and no deeper than row j meets it
  pub meet_on : (i j : ℕ) → i ≤ j → j + 1 < n
      → meet (node f t i) (node f t (j + 1))
      ≡ min (meet (node f t i) (node f t j)) (pred (level (node f t (j + 1))))
  meet_on i j le lt =
      let next = meet_next j lt in
      let m = min (meet (at i) (at j)) (meet (at j) (at (j + 1))) in
      let both : m ≤ meet (at i) (at (j + 1)) =
      agree→shared m (at i).dewey (at (j + 1)).dewey (agree_trans m (at i).dewey (at j).dewey (at (j + 1)).dewey
      (shared→agree m (at i).dewey (at j).dewey (omega arith)) (shared→agree m (at j).dewey (at (j + 1)).dewey (omega arith))) in
      le_antisymm (⊎_elim (λ a. omega (arith, next, left a, right a)) (λ e. omega (arith, next, (equal e).0, (equal e).1)) (below i j (omega arith)))
      (omega (arith, both, next))
    where
      left : i < j → meet (at i) (at (j + 1)) ≤ meet (at i) (at j)
      left a = closer_left ns (numbered f n t ks ty) (forest f n t ks ty) (at i) (at j) (at (j + 1))
          (here f n t ks ty i (omega arith)) (here f n t ks ty j (omega arith)) (here f n t ks ty (j + 1) lt) a (omega arith)

      right : i < j → meet (at i) (at (j + 1)) ≤ meet (at j) (at (j + 1))
      right a = closer_right ns (numbered f n t ks ty) (forest f n t ks ty) (at i) (at j) (at (j + 1))
          (here f n t ks ty i (omega arith)) (here f n t ks ty j (omega arith)) (here f n t ks ty (j + 1) lt) a (omega arith)

      equal : i ≡ j → (meet (at i) (at (j + 1)) ≤ meet (at i) (at j)) × (meet (at i) (at (j + 1)) ≤ meet (at j) (at (j + 1)))
      equal e = subst (λ j. (meet (at i) (at (j + 1)) ≤ meet (at i) (at j)) × (meet (at i) (at (j + 1)) ≤ meet (at j) (at (j + 1)))) e
          (omega (arith, meet_self i, meet-level i (i + 1)), omega arith)

  -- two rows meet above the level of every row after the first and up to the second
  pub meet_above : (i m j : ℕ) → i < m → m ≤ j → j < n → meet (node f t i) (node f t j) < level (node f t m)
  meet_above i m zero a b lt = let z : ⊥ = omega arith in absurd z
  meet_above i m (suc j) a b lt =
      let on : meet (at i) (at (suc j)) ≡ min (meet (at i) (at j)) (pred (level (at (suc j)))) =
      subst (λ k. meet (at i) (at k) ≡ min (meet (at i) (at j)) (pred (level (at k)))) (omega arith) (meet_on i j (omega arith) (omega arith)) in
      let pos = level-pos (suc j) lt in
      ⊎_elim (λ c. omega (arith, on, meet_above i m j a (omega arith) (omega arith)))
      (λ e. subst (λ k. meet (at i) (at (suc j)) < level (at k)) (sym e) (omega (arith, on, pos))) (below m (suc j) (omega arith))

  -- where these levels are all above l, the two rows agree to l
  pub meet_within : (l i j : ℕ) → i ≤ j → j < n → l ≤ level (node f t i)
      → ((m : ℕ) → i < m → m ≤ j → l < level (node f t m)) → l ≤ meet (node f t i) (node f t j)
  meet_within l i zero le lt own up = let z : i ≡ 0 = omega arith in subst (λ k. l ≤ meet (at i) (at k)) z (omega (arith, own, meet_self i))
  meet_within l i (suc j) le lt own up =
      ⊎_elim (λ a. longer a (meet_within l i j (omega arith) (omega arith) own (λ m x y. up m x (omega arith))))
      (λ e. subst (λ k. l ≤ meet (at i) (at k)) e (omega (arith, own, meet_self i))) (below i (suc j) (omega arith))
    where
      longer : i < suc j → l ≤ meet (at i) (at j) → l ≤ meet (at i) (at (suc j))
      longer a ih =
          let on : meet (at i) (at (suc j)) ≡ min (meet (at i) (at j)) (pred (level (at (suc j)))) =
          subst (λ k. meet (at i) (at k) ≡ min (meet (at i) (at j)) (pred (level (at k)))) (omega arith) (meet_on i j (omega arith) (omega arith)) in
          omega (arith, on, up (suc j) (omega arith) (omega arith), ih)
