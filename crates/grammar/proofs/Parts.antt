-- The parts between dots, and back; and that the name of a label is such a part. Assumes nothing.
use Prim.Native.Nat.{ℕ, ◌≤◌}
use native.Mathlib.Omega.{arith}
use mathlib.Core.Path.{◌≡◌, refl, sym, ◌∙◌, ap, ap₂}
use mathlib.Core.Bool.{Bool, true, false, not, ◌&&◌, ◌||◌}
use mathlib.Core.List.{List, [], ◌∷◌, ◌++◌, append-nil}
use borrow.Author.Tests.{not-true, eqb-true, ne_eqb, ltb-true}
use lib.Dec.{eqb, ltb}
use lib.ListN.{length}
use Rattle.paper.specs.Lists.{all}
use Rattle.paper.proofs.Lists.{and, both, has_all}
use Rattle.grammar.specs.Text.{dot, space, digit, decimal, followed, parted}
use Rattle.grammar.specs.Names.{names, name_of, name_text}
use Rattle.grammar.specs.Grammar.{plain, open_byte, close_byte}
use Rattle.grammar.specs.Reader.{onto, parts}
use Rattle.grammar.proofs.Decimals.{decimal_digits, decimal-some}
use Rattle.grammar.proofs.LabelNames.{by_name, each_name}

-- ---- parts
abbrev pub undotted : List ℕ → Bool
undotted w = all (λ b. not (eqb b dot)) w

pub parts_other : (b : ℕ) (bs : List ℕ) → eqb b dot ≡ false → parts (b ∷ bs) ≡ onto b (parts bs)
unfolding parts
parts_other b bs e = rw (e, parts) refl

pub parts-alone : (w : List ℕ) → undotted w ≡ true → parts w ≡ w ∷ []
unfolding parts
parts-alone [] e = refl
parts-alone (b ∷ bs) e =
    let h = both (not (eqb b dot)) (undotted bs) e in
    parts_other b bs (not-true (eqb b dot) h.0) ∙ ap (onto b) (parts-alone bs h.1)

pub parts_first : (w rest : List ℕ) → undotted w ≡ true → parts (w ++ dot ∷ rest) ≡ w ∷ parts rest
unfolding parts
parts_first [] rest e = refl
parts_first (b ∷ bs) rest e =
    let h = both (not (eqb b dot)) (undotted bs) e in
    parts_other b (bs ++ dot ∷ rest) (not-true (eqb b dot) h.0) ∙ ap (onto b) (parts_first bs rest h.1)

-- the byte between them
pub parted_cons : (c : ℕ) (p q : List ℕ) (ps : List (List ℕ)) → parted c (p ∷ q ∷ ps) ≡ p ++ c ∷ parted c (q ∷ ps)
unfolding followed parted
parted_cons c p q ps = refl

pub parted-alone : (c : ℕ) (p : List ℕ) → parted c (p ∷ []) ≡ p
unfolding followed parted
parted-alone c p = append-nil p

-- the parts of parts with dots between them
pub parts-parted : (p : List ℕ) (ps : List (List ℕ)) → all undotted (p ∷ ps) ≡ true → parts (parted dot (p ∷ ps)) ≡ p ∷ ps
parts-parted p [] e = ap parts (parted-alone dot p) ∙ parts-alone p (both (undotted p) true e).0
parts-parted p (q ∷ ps) e =
    let h = both (undotted p) (all undotted (q ∷ ps)) e in
    ap parts (parted_cons dot p q ps) ∙ parts_first p (parted dot (q ∷ ps)) h.0 ∙ ap {B = List (List ℕ)} (λ l. p ∷ l) (parts-parted q ps h.1)

-- ---- and back
pub parts-some : (w : List ℕ) → 1 ≤ length (parts w)
unfolding parts
parts-some [] = omega arith
parts-some (b ∷ bs) = go (eqb b dot) (parts bs)
  where
    go : (t : Bool) (ps : List (List ℕ)) → 1 ≤ length {A = List ℕ} (elim t [ true ↦ [] ∷ ps | false ↦ onto b ps ])
    go true ps = omega arith
    go false [] = omega arith
    go false (p ∷ ps) = omega arith

parted-onto : (b : ℕ) (ps : List (List ℕ)) → parted dot (onto b ps) ≡ b ∷ parted dot ps
unfolding followed parted
parted-onto b [] = refl
parted-onto b (p ∷ ps) = refl

parted-dot : (ps : List (List ℕ)) → 1 ≤ length ps → parted dot ([] ∷ ps) ≡ dot ∷ parted dot ps
parted-dot [] le = absurd (omega arith)
parted-dot (p ∷ ps) le = parted_cons dot [] p ps

pub parted-parts : (w : List ℕ) → parted dot (parts w) ≡ w
unfolding parts parted followed
parted-parts [] = refl
parted-parts (b ∷ bs) = go (eqb b dot) refl (parted-parts bs)
  where
    go : (t : Bool) → eqb b dot ≡ t → parted dot (parts bs) ≡ bs → parted dot (elim t [ true ↦ [] ∷ parts bs | false ↦ onto b (parts bs) ]) ≡ b ∷ bs
    go true e rest = parted-dot (parts bs) (parts-some bs) ∙ ap₂ {C = List ℕ} (λ x l. x ∷ l) (sym (eqb-true b dot e)) rest
    go false e rest = parted-onto b (parts bs) ∙ ap {B = List ℕ} (λ l. b ∷ l) rest

-- ---- the name of a label
-- its bytes are plain, and none is a dot
abbrev pub of_part : ℕ → Bool
of_part b = plain b && not (eqb b dot)

digit_part : (b : ℕ) → (digit 0 ≤ b) × (b ≤ digit 9) → of_part b ≡ true
digit_part b (lo, hi) =
    let no-space = ne_eqb b space (λ e. omega (arith, lo)) in
    let no_open = ne_eqb b open_byte (λ e. omega (arith, hi)) in
    let no-close = ne_eqb b close_byte (λ e. omega (arith, hi)) in
    let no-dot = ne_eqb b dot (λ e. omega (arith, lo)) in
    λ i. (not (no-space i) && not (no_open i || no-close i)) && not (no-dot i)

pub name_part : (l : ℕ) → all of_part (name_text l) ≡ true
unfolding names name_of
name_part = by_name (λ w. all of_part w ≡ true)
    (each_name (λ k. all of_part (name_of k)) refl)
    (λ n. has_all of_part (decimal n) (λ b h. digit_part b (decimal_digits n b h)))

-- there is a byte
pub name_some : (l : ℕ) → 1 ≤ length (name_text l)
unfolding names name_of
name_some = by_name (λ w. 1 ≤ length w)
    (λ k lt. ltb-true 0 (length (name_of k)) (each_name (λ k. ltb 0 (length (name_of k))) refl k lt))
    decimal-some

all_weaker : (p q : ℕ → Bool) → ((b : ℕ) → p b ≡ true → q b ≡ true) → (w : List ℕ) → all p w ≡ true → all q w ≡ true
all_weaker p q weaker [] e = refl
all_weaker p q weaker (b ∷ bs) e = let h = both (p b) (all p bs) e in and (weaker b h.0) (all_weaker p q weaker bs h.1)

pub name_undotted : (l : ℕ) → undotted (name_text l) ≡ true
name_undotted l = all_weaker of_part (λ b. not (eqb b dot)) (λ b e. (both (plain b) (not (eqb b dot)) e).1) (name_text l) (name_part l)

pub name_plain : (l : ℕ) → all plain (name_text l) ≡ true
name_plain l = all_weaker of_part plain (λ b e. (both (plain b) (not (eqb b dot)) e).0) (name_text l) (name_part l)
