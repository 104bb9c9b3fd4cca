-- The words about lists that the other definitions share. Assumes nothing.
use Rattle.std.specs.Prelude.{ℕ, zero, suc, max, min, pred, ◌≤◌, ◌≡◌, ◌⊎◌, Bool, true, false, ◌&&◌, ◌||◌, not, List, [], ◌∷◌, ◌++◌, eqb, leb, ltb, length, take, replicate}
use Rattle.std.proofs.Math.Option.{Option, none, some}

module _ {A : Type 0} where
  -- x is one of the list
  abbrev pub Has : A → List A → Type 0
  Has x [] = ⊥
  Has x (y ∷ ys) = (x ≡ y) ⊎ Has x ys

  -- the elements that pass the test, in order
  abbrev pub keep : (A → Bool) → List A → List A
  keep p [] = []
  keep p (x ∷ xs) = elim (p x) [ true ↦ x ∷ keep p xs | false ↦ keep p xs ]

  abbrev pub all : (A → Bool) → List A → Bool
  all p [] = true
  all p (x ∷ xs) = p x && all p xs

  abbrev pub any : (A → Bool) → List A → Bool
  any p [] = false
  any p (x ∷ xs) = p x || any p xs

  abbrev pub is_empty : List A → Bool
  is_empty [] = true
  is_empty (x ∷ xs) = false

  -- the first element; d where there is none
  abbrev pub first_or : A → List A → A
  first_or d [] = d
  first_or d (x ∷ xs) = x

  -- the last element; d where there is none
  abbrev pub last_or : A → List A → A
  last_or d [] = d
  last_or d (x ∷ xs) = last_or x xs

  -- the largest figure of the elements; 0 where there are none
  abbrev pub most : (A → ℕ) → List A → ℕ
  most f [] = 0
  most f (x ∷ xs) = max (f x) (most f xs)

  -- the place of the first element that passes the test, the length where none does
  abbrev pub place : (A → Bool) → List A → ℕ
  place p [] = 0
  place p (x ∷ xs) = elim (p x) [ true ↦ 0 | false ↦ suc (place p xs) ]

  -- that place, none where none does
  abbrev pub first_place : (A → Bool) → List A → Option ℕ
  first_place p xs = let i = place p xs in elim (ltb i (length xs)) [ true ↦ some i | false ↦ none ]

  -- the lists one after the other
  abbrev pub joined : List (List A) → List A
  joined [] = []
  joined (x ∷ xs) = x ++ joined xs

-- lo and hi bound the figure of each element, and both are reached
pub record Range {A : Type 0} (figure : A → ℕ) (xs : List A) (lo hi : ℕ) : Type 0 where
  pub between : (x : A) → Has x xs → (lo ≤ figure x) × (figure x ≤ hi)
  pub low : (x : A) × Has x xs × (figure x ≡ lo)
  pub high : (x : A) × Has x xs × (figure x ≡ hi)

module _ {A B : Type 0} where
  -- what the elements give, one after the other
  abbrev pub join_map : (A → List B) → List A → List B
  join_map f [] = []
  join_map f (x ∷ xs) = f x ++ join_map f xs

  -- the first element, counted from i, that breaks the rule with what the element before it leaves (b for the first)
  abbrev pub first_break : (B → A → Bool) → (A → B) → ℕ → B → List A → Option ℕ
  first_break rule leaves i b [] = none
  first_break rule leaves i b (x ∷ xs) = elim (rule b x) [ true ↦ first_break rule leaves (suc i) (leaves x) xs | false ↦ some i ]

abbrev pub between : ℕ → ℕ → ℕ → Bool
between a x b = leb a x && leb x b

-- the least of a list that has one
abbrev pub least : List ℕ → ℕ
least [] = 0
least (x ∷ []) = x
least (x ∷ y ∷ ys) = min x (least (y ∷ ys))

-- i, i + 1 and so on, n of them
abbrev pub count : ℕ → ℕ → List ℕ
count i zero = []
count i (suc n) = i ∷ count (suc i) n

-- the two lists are equal
abbrev pub same : List ℕ → List ℕ → Bool
same [] [] = true
same [] (b ∷ ys) = false
same (a ∷ xs) [] = false
same (a ∷ xs) (b ∷ ys) = eqb a b && same xs ys

-- each list once, at its first place
abbrev pub distinct : List (List ℕ) → List (List ℕ)
distinct [] = []
distinct (x ∷ xs) = x ∷ keep (λ y. not (same x y)) (distinct xs)

-- the list without its last element
abbrev pub up : List ℕ → List ℕ
up d = take (pred (length d)) d

-- n elements: those of the list, then zeros
abbrev pub padded : ℕ → List ℕ → List ℕ
padded n l = take n (l ++ replicate n 0)

-- Each element has a level and a name. Its way is the names from level 1 down to it: the way of the element before it, cut
-- above its level, and its own name.
abbrev pub ways : List ℕ → List (ℕ × ℕ) → List (List ℕ)
ways before [] = []
ways before (x ∷ xs) = let way = take (pred x.0) before ++ (x.1 ∷ []) in way ∷ ways way xs
