-- The tokens of a printed line are those of a tree, which has the line's entries. Assumes nothing.
use Prim.Native.Nat.{ℕ, zero, suc, ◌+◌, ◌-◌, ◌≤◌, ◌<◌}
use native.Mathlib.Nat.{not-suc-le-zero}
use native.Mathlib.Omega.{arith}
use mathlib.Core.Path.{◌≡◌, refl, sym, ◌∙◌, ap, subst, subst₂}
use mathlib.Core.Logic.{inl, inr}
use mathlib.Core.Bool.{Bool, true, false, ◌&&◌}
use mathlib.Core.List.{List, [], ◌∷◌, ◌++◌, map, append_assoc, append-nil}
use mathlib.Core.Option.{none}
use lib.Dec.{ltb, leb}
use lib.ListN.{length, replicate, length-take}
use borrow.Author.Tests.{ltb-true, ltb-false, lt-ltb, le-ltb, leb-true, eqb-true}
use Rattle.paper.specs.Lists.{Has}
use Rattle.paper.specs.Format.{Format}
use Rattle.paper.specs.Shapes.{Entry, named, level_kept, entry_kept, bad_entry}
use Rattle.paper.proofs.Lists.{both, and}
use Rattle.paper.proofs.Tables.{Rules, none-rules}
use Rattle.paper.proofs.Shapes.{level_of, Parts, entry-parts}
use Rattle.grammar.specs.Grammar.{Token, opening, closing, word, name_kept, spelled, Trees, no_trees, tree, trees_tokens, names_kept, Tree, alone}
use Rattle.grammar.specs.Typed.{Wanted, wanted_from, wanted, brackets_to, line_tokens, whole_path}

-- ---- the trees that stand side by side on each level, from a level up to level 2
abbrev stack_wanted : List Trees → List Wanted
stack_wanted [] = []
stack_wanted (t ∷ ts) = wanted_from (suc (suc (length ts))) t ++ stack_wanted ts

abbrev stack_tokens : List Trees → List Token
stack_tokens [] = []
stack_tokens (t ∷ ts) = trees_tokens t ++ closing ∷ stack_tokens ts

abbrev stack_kept : Format → List Trees → Bool
stack_kept f [] = true
stack_kept f (t ∷ ts) = names_kept f t && stack_kept f ts

-- there is a tree on the deepest level
abbrev Filled : List Trees → Type 0
Filled [] = Unit
Filled (no_trees ∷ ts) = ⊥
Filled (tree n below beside ∷ ts) = Unit

-- the entries and tokens from an entry of level l on, as trees
record Standing (f : Format) (ws : List Wanted) (ts : List Token) (l : ℕ) : Type 0 where
  stack : List Trees
  level : suc (length stack) ≡ l
  entries : stack_wanted stack ≡ ws
  tokens : stack_tokens stack ≡ ts
  kept : stack_kept f stack ≡ true

abbrev Begun : Format → List Wanted → List Token → ℕ → Type 0
Begun f ws ts l = (s : Standing f ws ts l) × Filled s.stack

-- Each entry but the first has a level of at least 2, at most one more than the entry before it, and a name of the format.
abbrev pub Steps : Format → ℕ → List Wanted → Type 0
Steps f before [] = Unit
Steps f before (w ∷ ws) = (2 ≤ w.level) × (w.level ≤ suc before) × (name_kept f w.name ≡ true) × Steps f w.level ws

-- The first has level 1.
abbrev pub Stepped : Format → List Wanted → Type 0
Stepped f [] = ⊥
Stepped f (w ∷ ws) = (w.level ≡ 1) × (name_kept f w.name ≡ true) × Steps f 1 ws

-- ---- brackets
-- between an entry and the next that stands no deeper
pub up_to_lem : (l m : ℕ) → m ≤ l → brackets_to l m ≡ replicate (l - m) closing
up_to_lem l m le = ap (λ t. elim t as (λ _. List Token) [ true ↦ opening ∷ [] | false ↦ replicate (l - m) closing ]) (le-ltb l m le)

pub down_to : (l m : ℕ) → l < m → brackets_to l m ≡ opening ∷ []
down_to l m lt = ap (λ t. elim t as (λ _. List Token) [ true ↦ opening ∷ [] | false ↦ replicate (l - m) closing ]) (lt-ltb l m lt)

across : (a b c : List Token) → ((a ++ (closing ∷ [])) ++ b) ++ closing ∷ c ≡ a ++ closing ∷ (b ++ closing ∷ c)
across a b c = ap (λ l. l ++ closing ∷ c) (append_assoc a (closing ∷ []) b) ∙ append_assoc a (closing ∷ b) (closing ∷ c)

module _ (f : Format) where
  -- ---- an entry before what stands
  closed : (k : ℕ) {ws : List Wanted} {ts : List Token} {l : ℕ} → Standing f ws ts l → Standing f ws (replicate k closing ++ ts) (k + l)
  unfolding wanted_from trees_tokens names_kept
  closed zero s = record { stack = s.stack; level = omega (arith, s.level); entries = s.entries; tokens = s.tokens; kept = s.kept }
  closed (suc k) s =
      let r = closed k s in
      record {
        stack = no_trees ∷ r.stack;
        level = omega (arith, r.level);
        entries = r.entries;
        tokens = ap {B = List Token} (λ l. closing ∷ l) r.tokens;
        kept = r.kept;
      }

  -- one with nothing beneath it
  leaf : (w : Wanted) {ws : List Wanted} {ts : List Token} → 2 ≤ w.level → name_kept f w.name ≡ true → Standing f ws ts w.level
      → Begun f (w ∷ ws) (word (spelled w.name) ∷ ts) w.level
  unfolding wanted_from trees_tokens names_kept
  leaf w {ws} {ts} two k s = go s.stack s.level s.entries s.tokens s.kept
    where
      go : (st : List Trees) → suc (length st) ≡ w.level → stack_wanted st ≡ ws → stack_tokens st ≡ ts → stack_kept f st ≡ true
          → Begun f (w ∷ ws) (word (spelled w.name) ∷ ts) w.level
      go [] e a b c = let z : ⊥ = omega (arith, e) in absurd z
      go (t ∷ st) e a b c =
          let h = both (names_kept f t) (stack_kept f st) c in
          let filled : Filled (tree w.name no_trees t ∷ st) = tt in (
            record {
              stack = tree w.name no_trees t ∷ st;
              level = e;
              entries = λ i. record { level = e i; name = w.name } ∷ a i;
              tokens = ap {B = List Token} (λ l. word (spelled w.name) ∷ l) b;
              kept = and (and (and k refl) h.0) h.1;
            },
            filled,
          )

  -- one with what follows beneath it
  branch : (w : Wanted) {ws : List Wanted} {ts : List Token} → 2 ≤ w.level → name_kept f w.name ≡ true → Begun f ws ts (suc w.level)
      → Begun f (w ∷ ws) (word (spelled w.name) ∷ opening ∷ ts) w.level
  unfolding wanted_from trees_tokens names_kept
  branch w {ws} {ts} two k (s, filled) = go s.stack filled s.level s.entries s.tokens s.kept
    where
      go : (st : List Trees) → Filled st → suc (length st) ≡ suc w.level → stack_wanted st ≡ ws → stack_tokens st ≡ ts → stack_kept f st ≡ true
          → Begun f (w ∷ ws) (word (spelled w.name) ∷ opening ∷ ts) w.level
      go [] _ e a b c = let z : ⊥ = omega (arith, e) in absurd z
      go (no_trees ∷ st) filled e a b c = absurd filled
      go (tree n below beside ∷ []) _ e a b c = let z : ⊥ = omega (arith, e) in absurd z
      go (tree n below beside ∷ u ∷ st) _ e a b c =
          let t = tree n below beside in
          let l = suc (suc (length st)) in
          let h = both (names_kept f t) (names_kept f u && stack_kept f st) c in
          let g = both (names_kept f u) (stack_kept f st) h.1 in
          let own : l ≡ w.level = omega (arith, e) in
          let es : (wanted_from (suc l) t ++ wanted_from l u) ++ stack_wanted st ≡ ws =
          append_assoc (wanted_from (suc l) t) (wanted_from l u) (stack_wanted st) ∙ a in
          let filled : Filled (tree w.name t u ∷ st) = tt in (
            record {
              stack = tree w.name t u ∷ st;
              level = own;
              entries = λ i. record { level = own i; name = w.name } ∷ es i;
              tokens = ap {B = List Token} (λ l. word (spelled w.name) ∷ opening ∷ l) (across (trees_tokens t) (trees_tokens u) (stack_tokens st) ∙ b);
              kept = and (and (and k h.0) g.0) g.1;
            },
            filled,
          )

  -- ---- the entries from one on
  -- what stands, behind the closing brackets up to an entry's level
  raised : (l m : ℕ) {ws : List Wanted} {ts : List Token} → m ≤ l → Standing f ws ts m → Standing f ws (brackets_to l m ++ ts) l
  raised l m {ws} {ts} le s =
      subst₂ (λ bs k. Standing f ws (bs ++ ts) k) (sym (up_to_lem l m le)) (omega arith) (closed (l - m) s)

  nothing : Standing f [] [] 1
  nothing = record { stack = []; level = refl; entries = refl; tokens = refl; kept = refl }

  standing : (w : Wanted) (ws : List Wanted) → 2 ≤ w.level → name_kept f w.name ≡ true → Steps f w.level ws
      → Begun f (w ∷ ws) (line_tokens (w ∷ ws)) w.level
  unfolding line_tokens
  standing w [] two k steps =
      leaf w two k (subst (λ bs. Standing f [] bs w.level) (append-nil (brackets_to w.level 1)) (raised w.level 1 (omega arith) nothing))
  standing w (x ∷ ws) two k (two', next, k', steps) = go (ltb w.level x.level) refl (standing x ws two' k' steps)
    where
      go : (t : Bool) → ltb w.level x.level ≡ t → Begun f (x ∷ ws) (line_tokens (x ∷ ws)) x.level
          → Begun f (w ∷ x ∷ ws) (word (spelled w.name) ∷ brackets_to w.level x.level ++ line_tokens (x ∷ ws)) w.level
      go true e b =
          let lt = ltb-true w.level x.level e in
          subst (λ bs. Begun f (w ∷ x ∷ ws) (word (spelled w.name) ∷ bs ++ line_tokens (x ∷ ws)) w.level) (sym (down_to w.level x.level lt))
          (branch w two k (subst (λ l. Begun f (x ∷ ws) (line_tokens (x ∷ ws)) l) (omega arith) b))
      go false e b = leaf w two k (raised w.level x.level (ltb-false w.level x.level e) b.0)

  -- ---- the whole line
  pub record LineTree (ws : List Wanted) : Type 0 where
    pub tree : Tree
    pub entries : wanted tree ≡ ws
    pub tokens : trees_tokens (alone tree) ≡ line_tokens ws
    pub kept : names_kept f (alone tree) ≡ true

  root : (w : Wanted) (ws : List Wanted) (ts : List Token) → w.level ≡ 1 → name_kept f w.name ≡ true → Begun f ws ts 2
      → (t : Tree) × (wanted t ≡ w ∷ ws) × (trees_tokens (alone t) ≡ word (spelled w.name) ∷ opening ∷ ts) × (names_kept f (alone t) ≡ true)
  unfolding wanted_from trees_tokens names_kept
  root w ws ts one k (s, filled) = go s.stack filled s.level s.entries s.tokens s.kept
    where
      go : (st : List Trees) → Filled st → suc (length st) ≡ 2 → stack_wanted st ≡ ws → stack_tokens st ≡ ts → stack_kept f st ≡ true
          → (t : Tree) × (wanted t ≡ w ∷ ws) × (trees_tokens (alone t) ≡ word (spelled w.name) ∷ opening ∷ ts) × (names_kept f (alone t) ≡ true)
      go [] _ e a b c = let z : ⊥ = omega (arith, e) in absurd z
      go (no_trees ∷ st) filled e a b c = absurd filled
      go (tree n below beside ∷ u ∷ st) _ e a b c = let z : ⊥ = omega (arith, e) in absurd z
      go (tree n below beside ∷ []) _ e a b c = (
        record { name = w.name; beneath = tree n below beside },
        λ i. record { level = sym one i; name = w.name } ∷ a i,
        ap {B = List Token} (λ l. word (spelled w.name) ∷ opening ∷ l) (append-nil _ ∙ b),
        and (and k (both (names_kept f (tree n below beside)) true c).0) refl,
      )

  pub tree_of_lem : (ws : List Wanted) → Stepped f ws → LineTree ws
  unfolding wanted_from trees_tokens names_kept line_tokens
  tree_of_lem [] stepped = absurd stepped
  tree_of_lem (w ∷ []) (one, k, steps) = record {
    tree = record { name = w.name; beneath = no_trees };
    entries = λ i. record { level = sym one i; name = w.name } ∷ [];
    tokens = ap {B = List Token} (λ l. word (spelled w.name) ∷ brackets_to l 1) (sym one);
    kept = and (and k refl) refl;
  }
  tree_of_lem (w ∷ x ∷ ws) (one, k, (two, next, k', steps)) =
      let two' : x.level ≡ 2 = omega arith in
      let below = subst (λ l. Begun f (x ∷ ws) (line_tokens (x ∷ ws)) l) two' (standing x ws two k' steps) in
      let (t, es, ts, ks) = root w (x ∷ ws) (line_tokens (x ∷ ws)) one k below in
      record {
        tree = t;
        entries = es;
        tokens = ts ∙ ap {B = List Token} (λ bs. word (spelled w.name) ∷ bs ++ line_tokens (x ∷ ws)) (sym (down_to w.level x.level (omega arith)));
        kept = ks;
      }

-- ---- the entries of a shape
-- An entry as read has a label for each level.
abbrev pub LaidOut : Format → List Entry → Type 0
LaidOut f es = (e : Entry) → Has e es → length e.labels ≡ f.levels

module _ (f : Format) where
  name_kept_lem : (before : ℕ) (e : Entry) → length e.labels ≡ f.levels → Parts f before e → name_kept f (whole_path e).name ≡ true
  unfolding name_kept
  name_kept_lem before e laid p = and (lt-ltb 0 (length (named e)) (omega (arith, p.size, length-take e.size e.labels))) p.labels

  steps_of : (before : ℕ) (es : List Entry) → 1 ≤ before → LaidOut f es → Rules (entry_kept f) level_of before es → Steps f before (map whole_path es)
  steps_of before [] pos laid rules = tt
  steps_of before (e ∷ es) pos laid (kept, rules) =
      let p = entry-parts f before e kept in
      let (two, next) = between_levels before pos p.next in
      (two, next, name_kept_lem before e (laid e (inl refl)) p, steps_of e.level es p.level.0 (λ x h. laid x (inr h)) rules)
    where
      between_levels : (b : ℕ) → 1 ≤ b → level_kept b e.level ≡ true → (2 ≤ e.level) × (e.level ≤ suc b)
      between_levels zero pos q = let z : ⊥ = omega arith in absurd z
      between_levels (suc b) pos q =
          let i = both (leb 2 e.level) (leb e.level (suc (suc b))) q in
          (leb-true 2 e.level i.0, leb-true e.level (suc (suc b)) i.1)

  pub stepped : (es : List Entry) → LaidOut f es → bad_entry f es ≡ none → 0 < length es → Stepped f (map whole_path es)
  unfolding bad_entry
  stepped [] laid sound pos = absurd (not-suc-le-zero pos)
  stepped (e ∷ es) laid sound pos =
      let (kept, rules) = none-rules (entry_kept f) level_of 0 0 (e ∷ es) sound in
      let p = entry-parts f 0 e kept in
      let one = eqb-true e.level 1 p.next in (
        one,
        name_kept_lem 0 e (laid e (inl refl)) p,
        steps_of 1 es (omega arith) (λ x h. laid x (inr h)) (subst (λ l. Rules (entry_kept f) level_of l es) one rules),
      )

  -- THE LINE OF A SHAPE'S ENTRIES is the line of a tree.
  pub line_tree : (es : List Entry) → LaidOut f es → bad_entry f es ≡ none → 0 < length es → LineTree f (map whole_path es)
  line_tree es laid sound pos = tree_of_lem f (map whole_path es) (stepped es laid sound pos)
