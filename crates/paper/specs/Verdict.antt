-- The verdict. Assumes nothing.
use Rattle.std.specs.Prelude.{ℕ, Bool, true, false, ◌&&◌, ◌||◌, not, List, [], ◌∷◌, ◌++◌, map, eqb, leb, drop}
use Rattle.paper.specs.Lists.{keep, all, any, first_or, join_map}
use Rattle.paper.specs.Closeness.{Node, of_kind, kinds_meet, closest_number}
use Rattle.paper.specs.Shapes.{Shape, numbers, kind, parent, side, path}
use Rattle.paper.specs.Partners.{EdgeNumbers, edge_numbers}

pub data Verdict : Type 0 where
  kept : Verdict
  missing : ℕ → ℕ → Verdict  -- an entry and a row
  apart : ℕ → ℕ → Verdict  -- two entries
  unsure : ℕ → ℕ → Verdict  -- two entries

-- the paper's number of a verdict, and its values
abbrev pub verdict_numbers : Verdict → List ℕ
verdict_numbers kept = 0 ∷ []
verdict_numbers (missing e r) = 1 ∷ e ∷ r ∷ []
verdict_numbers (apart e f) = 2 ∷ e ∷ f ∷ []
verdict_numbers (unsure e f) = 3 ∷ e ∷ f ∷ []

abbrev pub is_apart : Verdict → Bool
is_apart kept = false
is_apart (missing e r) = false
is_apart (apart e f) = true
is_apart (unsure e f) = false

-- What judging says of a table and a shape.
pub record Judgement : Type 0 where
  pub verdict : Verdict
  pub none_apart : Bool  -- the second answer
  pub edges : EdgeNumbers  -- how many partners, whatever the verdict

-- l is the least of the levels
abbrev pub is_least : ℕ → List ℕ → Bool
is_least l ls = any (eqb l) ls && all (leb l) ls

-- the pairs of a list, by the first, then by the second, with what each gives
abbrev pub over_pairs : {A : Type 0} → (ℕ → ℕ → List A) → List ℕ → List A
over_pairs g [] = []
over_pairs g (e ∷ es) = join_map (g e) es ++ over_pairs g es

module _ (t : List Node) (s : Shape) where
  -- the level at which the types of two entries meet
  unfoldable pub meeting : ℕ → ℕ → ℕ
  meeting e f = kinds_meet t (kind s e) (kind s f)

  -- A partner of a row, for an entry, is a row of the parent entry's type closest to it. The rows of an entry's type whose number of partners is 0.
  unfoldable pub alone : ℕ → List Node
  alone e = keep (λ r. eqb (closest_number t (kind s (parent s e)) r) 0) (of_kind t (kind s e))

  -- An edge is full when every row of the parent entry's type has a closest row of the child's type: for none of them is their number 0.
  unfoldable pub full : ℕ → Bool
  full c = all (λ r. not (eqb (closest_number t (kind s c) r) 0)) (of_kind t (kind s (parent s c)))

  -- Each edge has the meeting level of its two types.
  unfoldable pub edge_level : ℕ → ℕ
  edge_level c = meeting (parent s c) c

  -- some edge of level l has only full edges between it and the fork, from which the edges run down
  abbrev pub sure_down : ℕ → List ℕ → Bool
  sure_down l [] = false
  sure_down l (c ∷ cs) = eqb (edge_level c) l || (full c && sure_down l cs)

  -- The types of two entries meet at exactly the least level on their path.
  unfoldable pub meets_least : ℕ → ℕ → Bool
  meets_least e f = is_least (meeting e f) (map edge_level (path s e f))

  -- For some edge of that least level all edges between it and the fork are full. (An edge touching the fork has none between.)
  unfoldable pub sure : ℕ → ℕ → Bool
  sure e f = sure_down (meeting e f) (side s e f) || sure_down (meeting e f) (side s f e)

  -- 1, with entry and row: some source row of a non-root entry's type has no partner.
  unfoldable pub lone : List Verdict
  lone = join_map (λ e. map (λ (r : Node). missing e r.place) (alone e)) (drop 1 (numbers s))

  -- 2, with two entries e before f: their types do not meet at exactly the least level on their path.
  -- 3, with e and f: they do, but for no edge of that least level are all edges between it and the fork full.
  unfoldable pub pair_fault : ℕ → ℕ → List Verdict
  pair_fault e f = elim (meets_least e f) [ false ↦ apart e f ∷ [] | true ↦ elim (sure e f) [ true ↦ [] | false ↦ unsure e f ∷ [] ] ]

  -- Verdict 1 comes before the others: first such entry, then first such row. Then pairs are taken by e, then f; the first
  -- that earns a 2 or a 3 decides. 0: none of these.
  unfoldable pub verdict : Verdict
  verdict = first_or kept (lone ++ over_pairs pair_fault (numbers s))

  -- The second answer is yes exactly when no pair of entries would earn a 2.
  unfoldable pub none_apart : Bool
  none_apart = not (any is_apart (over_pairs pair_fault (numbers s)))

  abbrev pub judgement : Judgement
  judgement = record { verdict = verdict; none_apart = none_apart; edges = edge_numbers t s }
