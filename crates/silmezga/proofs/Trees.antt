-- Typed trees: what both widths have that reading asks for, and that any two answers of the contracts are one. Assumes nothing.
use Prim.Native.Nat.{ℕ, ◌<◌}
use mathlib.Core.Path.{◌≡◌, sym, ap, subst}
use mathlib.Core.List.{List}
use lib.Dec.{lit≤}
use Rattle.paper.specs.Format.{Format, base, eight}
use Rattle.paper.specs.Widths.{format_of}
use Rattle.paper.specs.declared.Width.{Width}
use Rattle.paper.specs.declared.Width.TheVariants.{Six, Eight}
use Rattle.std.specs.Prelude.{Result}
use Rattle.paper.specs.Refusals.{counted}
use Rattle.paper.specs.declared.refusal.Refusal.{Refusal}
use Rattle.paper.proofs.Refusals.{count_same}
use Rattle.settling.proofs.Settles.{both}
use Rattle.grammar.specs.Typed.{Reading, Printing}
use Rattle.grammar.proofs.NamesRead.{NamesRead}
use Rattle.grammar.proofs.Named.{names-read}
use Rattle.grammar.proofs.Right.{read_tree_unique}
use Rattle.typed.specs.Read.{ReadsTree, reading_of}
use Rattle.spelling.specs.Printed.{Prints}
use Rattle.spelling.proofs.Unique.{prints_unique}

-- both widths have a label
width_labelled : (w : Width) → 0 < (format_of w).labels
unfolding base eight
width_labelled Six = lit≤ tt
width_labelled Eight = lit≤ tt

pub format_labelled : (f : Format) (w : Width) → f ≡ format_of w → 0 < f.labels
format_labelled f w e = subst (λ (g : Format). 0 < g.labels) (sym e) (width_labelled w)

-- and each label is of one byte
pub width_low : (w : Width) → (format_of w).labels < 256
unfolding base eight
width_low Six = lit≤ tt
width_low Eight = lit≤ tt

-- so names are read as they are spelled
pub width_named : (w : Width) → NamesRead (format_of w)
width_named w = names-read (format_of w) (width_labelled w)

-- the answer, and every byte lent for the shape after it
pub read_settled : (f : Format) → NamesRead f → (b text lent : List ℕ) (r s : Result ℕ Refusal) (t u : List ℕ) → ReadsTree f b text lent (counted r) t
    → ReadsTree f b text lent (counted s) u → ◌≡◌ {A = Result ℕ Refusal × List ℕ} (r, t) (s, u)
read_settled f names b text lent r s t u x y =
    let e = read_tree_unique f names b text lent (reading_of (counted r) t) (reading_of (counted s) u) x y in
    both (count_same r s (ap (λ (z : Reading). z.reply) e), ap (λ (z : Reading). z.shape) e)

-- the answer, and every byte lent for the line after it
pub print_settled : (p : Printing) (r s : Result ℕ Refusal) (t u : List ℕ) → Prints p (counted r) t → Prints p (counted s) u
    → ◌≡◌ {A = Result ℕ Refusal × List ℕ} (r, t) (s, u)
print_settled p r s t u x y = both (prints_unique p r s t u x y)
