-- What the reader finds is what the grammar says of a text, and it says one thing. Assumes nothing.
use Prim.Native.Nat.{ℕ, ◌≤◌}
use native.Mathlib.Omega.{arith}
use mathlib.Core.Path.{◌≡◌, refl, sym, ◌∙◌, ap}
use mathlib.Core.Logic.{◌⊎◌, inl, inr}
use mathlib.Core.Bool.{Bool, true, false}
use mathlib.Core.List.{List}
use lib.Dec.{ltb}
use lib.ListN.{length}
use borrow.Author.Tests.{ltb-true, ltb-false}
use Rattle.paper.specs.Format.{Format}
use Rattle.paper.specs.Calls.{Answer, refused, given}
use Rattle.grammar.specs.Grammar.{Token, tokens, Longest, first_byte}
use Rattle.grammar.specs.Typed.{Wanted, most_text, Asks, NoTree, TooLong, Says, Reading, read_as, ReadTree}
use Rattle.grammar.specs.Reader.{first, Walked, wrong, right, walk, told, said_of}
use Rattle.grammar.proofs.NamesRead.{NamesRead}
use Rattle.grammar.proofs.Steps.{right_inj}
use Rattle.grammar.proofs.Walked.{walk_tree}
use Rattle.grammar.proofs.TreeOf.{tree_walked}
use Rattle.grammar.proofs.Faults.{wrong_longest, wrong_none}

-- ---- what is found is said
told_right : (f : Format) → NamesRead f → (text : List ℕ) → length text ≤ most_text → (w : Walked) → walk f first 0 (tokens text) ≡ w
    → Says f text (told text w)
told_right f N text le (wrong n) e =
    let nothing : NoTree f text (first_byte text n) = record {
      short = le;
      no_tree = wrong_none f N (tokens text) n e;
      right = n;
      longest = wrong_longest f N (tokens text) n e;
      at = refl;
    } in
    (refl, inr nothing)
told_right f N text le (right es) e =
    let (t, o, q) = tree_walked f N (tokens text) es e in
    record { short = le; tree = t; text_of_lem = o; entries = q }

pub said_right : (f : Format) → NamesRead f → (text : List ℕ) → Says f text (said_of f text)
unfolding said_of
said_right f N text = go (ltb most_text (length text)) refl
  where
    go : (b : Bool) → ltb most_text (length text) ≡ b
        → Says f text (elim b [ true ↦ refused 12 most_text | false ↦ told text (walk f first 0 (tokens text)) ])
    go true e = (refl, inl (record { long = ltb-true most_text (length text) e; at = refl }))
    go false e = told_right f N text (ltb-false most_text (length text) e) (walk f first 0 (tokens text)) refl

-- ---- one thing is said
longest_unique : (f : Format) (ts : List Token) (m n : ℕ) → Longest f ts m → Longest f ts n → m ≡ n
longest_unique f ts m n x y =
    let le = y.longest m x.within x.begun in
    let ge = x.longest n y.within y.begun in
    omega arith

place_unique : (f : Format) (text : List ℕ) (p q : ℕ) → TooLong text p ⊎ NoTree f text p → TooLong text q ⊎ NoTree f text q → p ≡ q
place_unique f text p q (inl x) (inl y) = x.at ∙ sym y.at
place_unique f text p q (inl x) (inr y) = let z : ⊥ = omega (arith, x.long, y.short) in absurd z
place_unique f text p q (inr x) (inl y) = let z : ⊥ = omega (arith, x.short, y.long) in absurd z
place_unique f text p q (inr x) (inr y) =
    x.at ∙ ap (first_byte text) (longest_unique f (tokens text) x.right y.right x.longest y.longest) ∙ sym y.at

asks_apart : (f : Format) (text : List ℕ) (es : List Wanted) (p : ℕ) → Asks f text es → TooLong text p ⊎ NoTree f text p → ⊥
asks_apart f text es p x (inl y) = omega (arith, x.short, y.long)
asks_apart f text es p x (inr y) = y.no_tree x.tree x.text_of_lem

pub says_unique : (f : Format) → NamesRead f → (text : List ℕ) (a b : Answer (List Wanted)) → Says f text a → Says f text b → a ≡ b
says_unique f N text (refused j p) (refused k q) x y = λ i. refused ((x.0 ∙ sym y.0) i) (place_unique f text p q x.1 y.1 i)
says_unique f N text (refused j p) (given fs) x y = absurd (asks_apart f text fs p y x.1)
says_unique f N text (given es) (refused k q) x y = absurd (asks_apart f text es q x y.1)
says_unique f N text (given es) (given fs) x y =
    let walked = sym (walk_tree f N (tokens text) x.tree x.text_of_lem) ∙ walk_tree f N (tokens text) y.tree y.text_of_lem in
    ap (λ l. given l) (x.entries ∙ right_inj walked ∙ sym y.entries)

-- ---- one answer is given
pub said_reads : (f : Format) → NamesRead f → (b text lent : List ℕ) → ReadTree f b text lent (read_as f b (said_of f text) lent)
said_reads f N b text lent = record { said = said_of f text; says = said_right f N text; answer = refl }

pub read_as_said : (f : Format) → NamesRead f → (b text lent : List ℕ) (x : Reading) → ReadTree f b text lent x → x ≡ read_as f b (said_of f text) lent
read_as_said f N b text lent x r =
    r.answer ∙ ap (λ said. read_as f b said lent) (says_unique f N text r.said (said_of f text) r.says (said_right f N text))

pub read_tree_unique : (f : Format) → NamesRead f → (b text lent : List ℕ) (x y : Reading) → ReadTree f b text lent x → ReadTree f b text lent y
    → x ≡ y
read_tree_unique f N b text lent x y r s = read_as_said f N b text lent x r ∙ sym (read_as_said f N b text lent y s)
