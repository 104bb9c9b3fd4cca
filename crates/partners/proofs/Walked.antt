-- The walk of eight edges: after i rows each place holds what is defined along the first i rows. Assumes nothing.
use Prim.Native.Nat.{ℕ, zero, suc, ◌+◌, ◌≤◌, ◌<◌}
use native.Mathlib.Omega.{arith}
use native.Mathlib.Numerals.{add-one}
use mathlib.Core.Path.{◌≡◌, refl, sym, ◌∙◌, subst}
use mathlib.Core.List.{List}
use lib.ListN.{get_or, replicate, get_or-replicate}
use Rattle.partners.specs.declared.eight.Eight.{Eight}
use Rattle.partners.specs.Eight.{places, Eights, no_number, ended, fewer, more, first_end, onward}
use Rattle.partners.specs.Eight.{counted, least_to, greatest_to, lone_to, nothing, Closes, WalkedAll}
use Rattle.partners.proofs.Places.{ended-within, onward_le}

-- no more rows are counted than there are
pub counted_le : (levels types : List ℕ) (bound k i : ℕ) → counted levels types bound k i ≤ i
unfolding counted
counted_le levels types bound k zero = omega arith
counted_le levels types bound k (suc i) =
    omega (arith, counted_le levels types bound k i, onward_le bound (get_or levels i 0) k (get_or types i 0) (counted levels types bound k i))

-- the same at each place
abbrev Same : (x y : ℕ → ℕ) → Type 0
Same x y = (e : ℕ) → e < places → x e ≡ y e

-- a figure of three numbers that are known at each place, the last of them by way of another
along : (f : ℕ → ℕ → ℕ → ℕ) (way way' : ℕ → ℕ → ℕ) → ((e count : ℕ) → way e count ≡ way' e count)
    → {x m n c m' n' c' : ℕ → ℕ} → Same m m' → Same n n' → Same c c' → Same x (λ e. f (m e) (n e) (way e (c e)))
    → Same x (λ e. f (m' e) (n' e) (way' e (c' e)))
along f way way' ways {m'} {n'} {c'} sm sn sc sx e lt =
    sx e lt ∙ (λ t. f (sm e lt t) (sn e lt t) (way e (sc e lt t))) ∙ (λ t. f (m' e) (n' e) (ways e (c' e) t))

-- the same number at all places
alike : (x : ℕ) → Eights (λ e. x) (replicate places x)
alike x e lt = get_or-replicate places e x 0 lt

module _ (levels types bounds over own : List ℕ) where
  -- after the first i rows
  pub record WalkedTo (i : ℕ) (found : Eight) (parents children : List ℕ) : Type 0 where
    pub least_children_lem : Eights (λ e. least_to levels types (get_or bounds e 0) (get_or over e 0) (get_or own e 0) i) found.least_children
    pub greatest_children_lem : Eights (λ e. greatest_to levels types (get_or bounds e 0) (get_or over e 0) (get_or own e 0) i) found.greatest_children
    pub least_parents_lem : Eights (λ e. least_to levels types (get_or bounds e 0) (get_or own e 0) (get_or over e 0) i) found.least_parents
    pub greatest_parents_lem : Eights (λ e. greatest_to levels types (get_or bounds e 0) (get_or own e 0) (get_or over e 0) i) found.greatest_parents
    pub lone_is : Eights (λ e. lone_to levels types (get_or bounds e 0) (get_or over e 0) (get_or own e 0) i) found.lone
    pub parents_are : Eights (λ e. counted levels types (get_or bounds e 0) (get_or over e 0) i) parents
    pub children_are : Eights (λ e. counted levels types (get_or bounds e 0) (get_or own e 0) i) children

  pub walked_none : {found : Eight} → found ≡ nothing → WalkedTo 0 found (replicate places 0) (replicate places 0)
  unfolding counted least_to greatest_to lone_to
  walked_none none = subst (λ found. WalkedTo 0 found (replicate places 0) (replicate places 0)) (sym none) record {
    least_children_lem = alike no_number;
    greatest_children_lem = alike 0;
    least_parents_lem = alike no_number;
    greatest_parents_lem = alike 0;
    lone_is = alike no_number;
    parents_are = alike 0;
    children_are = alike 0;
  }

  module _ {i : ℕ} {found : Eight} {parents children : List ℕ} (w : WalkedTo i found parents children) {after : Eight} where
    -- one row more
    of_level : {parents' children' : List ℕ} → Closes found parents children bounds (get_or levels i 0) i after
        → Eights (λ e. onward (get_or bounds e 0) (get_or levels i 0) (get_or over e 0) (get_or types i 0) (get_or parents e 0)) parents'
        → Eights (λ e. onward (get_or bounds e 0) (get_or levels i 0) (get_or own e 0) (get_or types i 0) (get_or children e 0)) children'
        → WalkedTo (i + 1) after parents' children'
    unfolding counted least_to greatest_to lone_to
    of_level {parents'} {children'} c p ch = subst (λ n. WalkedTo n after parents' children') (sym (add-one i)) more-one
      where
        gone : ℕ → ℕ → ℕ
        gone e = ended (get_or bounds e 0) (get_or levels i 0)

        more-one : WalkedTo (suc i) after parents' children'
        more-one = record {
          least_children_lem = along fewer gone gone (λ e n. refl) w.least_children_lem w.children_are w.parents_are c.least_children_lem;
          greatest_children_lem = along more gone gone (λ e n. refl) w.greatest_children_lem w.children_are w.parents_are c.greatest_children_lem;
          least_parents_lem = along fewer gone gone (λ e n. refl) w.least_parents_lem w.parents_are w.children_are c.least_parents_lem;
          greatest_parents_lem = along more gone gone (λ e n. refl) w.greatest_parents_lem w.parents_are w.children_are c.greatest_parents_lem;
          lone_is = along (λ m n k. first_end m n k i) gone gone (λ e n. refl) w.lone_is w.parents_are w.children_are c.lone_is;
          parents_are = λ e lt. p e lt ∙ (λ t. onward (get_or bounds e 0) (get_or levels i 0) (get_or over e 0) (get_or types i 0) (w.parents_are e lt t));
          children_are = λ e lt. ch e lt ∙ (λ t. onward (get_or bounds e 0) (get_or levels i 0) (get_or own e 0) (get_or types i 0) (w.children_are e lt t));
        }

    -- the same, of a row of this level
    pub walked_more : {level : ℕ} {parents' children' : List ℕ} → level ≡ get_or levels i 0 → Closes found parents children bounds level i after
        → Eights (λ e. onward (get_or bounds e 0) level (get_or over e 0) (get_or types i 0) (get_or parents e 0)) parents'
        → Eights (λ e. onward (get_or bounds e 0) level (get_or own e 0) (get_or types i 0) (get_or children e 0)) children'
        → WalkedTo (i + 1) after parents' children'
    walked_more {level} {parents'} {children'} q c p ch = of_level
        (subst (λ level. Closes found parents children bounds level i after) q c)
        (subst (λ level. Eights (λ e. onward (get_or bounds e 0) level (get_or over e 0) (get_or types i 0) (get_or parents e 0)) parents') q p)
        (subst (λ level. Eights (λ e. onward (get_or bounds e 0) level (get_or own e 0) (get_or types i 0) (get_or children e 0)) children') q ch)

    -- level 0 is within every bound, so it ends all runs
    pub walked_all : {level : ℕ} → level ≡ 0 → Closes found parents children bounds level i after → WalkedAll levels types i bounds over own after
    walked_all {level} q c = record {
      least_children_lem = along fewer gone last all w.least_children_lem w.children_are w.parents_are c.least_children_lem;
      greatest_children_lem = along more gone last all w.greatest_children_lem w.children_are w.parents_are c.greatest_children_lem;
      least_parents_lem = along fewer gone last all w.least_parents_lem w.parents_are w.children_are c.least_parents_lem;
      greatest_parents_lem = along more gone last all w.greatest_parents_lem w.parents_are w.children_are c.greatest_parents_lem;
      lone_is = along (λ m n k. first_end m n k i) gone last all w.lone_is w.parents_are w.children_are c.lone_is;
    }
      where
        gone : ℕ → ℕ → ℕ
        gone e = ended (get_or bounds e 0) level

        last : ℕ → ℕ → ℕ
        last e count = count

        all : (e count : ℕ) → gone e count ≡ last e count
        all e count = ended-within (get_or bounds e 0) level count (omega (arith, q))
