-- A printed line has at most 1,360 bytes, which is less than a text may have. Assumes nothing.
use Prim.Native.Nat.{ℕ, zero, suc, ◌+◌, ◌-◌, ◌*◌, ◌≤◌, ◌<◌}
use native.Mathlib.Omega.{arith}
use mathlib.Core.Path.{◌≡◌, refl, sym, ap, subst}
use mathlib.Core.Logic.{inl, inr}
use mathlib.Core.Bool.{Bool, true, false}
use mathlib.Core.List.{List, [], ◌∷◌, ◌++◌, map}
use mathlib.Core.Option.{none}
use lib.Dec.{ltb, leb}
use lib.ListN.{length, replicate, length-append, length-map, length-take}
use borrow.Author.Tests.{ltb-true, ltb-false, leb-true}
use Rattle.paper.specs.Lists.{Has, all, between}
use Rattle.paper.specs.Format.{Format}
use Rattle.paper.specs.Shapes.{Entry, named, bad_entry}
use Rattle.paper.specs.Calls.{given, tests5_6}
use Rattle.paper.proofs.Lists.{both, all-has, get_d_has, map-has}
use Rattle.paper.proofs.Shapes.{sound-named, each_part, entries_laid}
use Rattle.paper.proofs.Calls.{passed5_6}
use Rattle.grammar.specs.Text.{space, dot, decimal, followed, parted}
use Rattle.grammar.specs.Names.{names, name_of, name_text}
use Rattle.grammar.specs.Grammar.{Token, closing, dotted, spelled}
use Rattle.grammar.specs.Typed.{Wanted, brackets_to, line_tokens, token_bytes, line_of, whole_path}
use Rattle.grammar.proofs.Decimals.{decimal_short}
use Rattle.grammar.proofs.Lines.{Steps, Stepped, LaidOut, stepped, up_to_lem, down_to}

-- ---- parts of at most nine bytes
names_short : all (λ n. leb (length n) 9) names ≡ true
unfolding names
names_short = refl

name_short : (k : ℕ) → k < 20 → length (name_of k) ≤ 9
unfolding names name_of
name_short k lt = leb-true (length (name_of k)) 9 (all-has (λ n. leb (length n) 9) (name_of k) names names_short (get_d_has [] names k lt))

pub part_short : (l : ℕ) → l < 65536 → length (name_text l) ≤ 9
unfolding name_text
part_short l lt = go (between 1 l 20) refl
  where
    go : (t : Bool) → between 1 l 20 ≡ t → length {A = ℕ} (elim t as (λ _. List ℕ) [ true ↦ name_of (l - 1) | false ↦ decimal l ]) ≤ 9
    go true e = let h = both (leb 1 l) (leb l 20) e in name_short (l - 1) (omega (arith, leb-true 1 l h.0, leb-true l 20 h.1))
    go false e = omega (arith, decimal_short l (omega arith))

-- ---- a path of at most eight labels
path_rest : (c : ℕ) (ls : List ℕ) → ((l : ℕ) → Has l ls → l < 65536) → length (followed c (map name_text ls)) ≤ 10 * length ls
unfolding followed
path_rest c [] small = omega arith
path_rest c (l ∷ ls) small =
    omega (
      arith,
      part_short l (small l (inl refl)),
      path_rest c ls (λ x h. small x (inr h)),
      length-append (c ∷ name_text l) (followed c (map name_text ls)),
    )

path_short : (ls : List ℕ) → length ls ≤ 8 → ((l : ℕ) → Has l ls → l < 65536) → length (spelled (record { whole = true; labels = ls })) ≤ 80
unfolding spelled dotted parted
path_short [] few small = omega arith
path_short (l ∷ ls) few small =
    omega (
      arith,
      part_short l (small l (inl refl)),
      path_rest dot ls (λ x h. small x (inr h)),
      length-append (name_text l) (followed dot (map name_text ls)),
    )

-- ---- tokens, each with a space
abbrev cost : List Token → ℕ
cost [] = 0
cost (t ∷ ts) = suc (length (token_bytes t)) + cost ts

cost_append : (ts us : List Token) → cost (ts ++ us) ≡ cost ts + cost us
cost_append [] us = omega arith
cost_append (t ∷ ts) us = omega (arith, cost_append ts us)

cost_closing : (k : ℕ) → cost (replicate k closing) ≡ 2 * k
cost_closing zero = refl
cost_closing (suc k) = omega (arith, cost_closing k)

spaced : (ts : List Token) → length (followed space (map token_bytes ts)) ≡ cost ts
unfolding followed
spaced [] = refl
spaced (t ∷ ts) = omega (arith, length-append (space ∷ token_bytes t) (followed space (map token_bytes ts)), spaced ts)

spaced_between : (ts : List Token) → length (parted space (map token_bytes ts)) ≤ cost ts
unfolding parted
spaced_between [] = omega arith
spaced_between (t ∷ ts) = omega (arith, length-append (token_bytes t) (followed space (map token_bytes ts)), spaced ts)

-- ---- entries
-- no name has more than 80 bytes
abbrev Short : List Wanted → Type 0
Short ws = (w : Wanted) → Has w ws → length (spelled w.name) ≤ 80

-- the brackets behind an entry cost two bytes for each level up, two for a level down
bracket_cost : (l m : ℕ) → m ≤ suc l → cost (brackets_to l m) + 2 * m ≤ 2 * l + 4
bracket_cost l m next = go (ltb l m) refl
  where
    go : (t : Bool) → ltb l m ≡ t → cost (brackets_to l m) + 2 * m ≤ 2 * l + 4
    go true e = omega (arith, ap cost (down_to l m (ltb-true l m e)), next)
    go false e =
        let le = ltb-false l m e in
        omega (arith, le, ap cost (up_to_lem l m le), cost_closing (l - m))

entries_cost : (f : Format) (w : Wanted) (ws : List Wanted) → Steps f w.level ws → 1 ≤ w.level → Short (w ∷ ws)
    → cost (line_tokens (w ∷ ws)) + 2 ≤ 85 * suc (length ws) + 2 * w.level
unfolding line_tokens
entries_cost f w [] steps pos short = omega (arith, short w (inl refl), bracket_cost w.level 1 (omega arith))
entries_cost f w (x ∷ ws) (two, next, k, steps) pos short =
    omega (
      arith,
      short w (inl refl),
      bracket_cost w.level x.level next,
      cost_append (brackets_to w.level x.level) (line_tokens (x ∷ ws)),
      entries_cost f x ws steps (omega arith) (λ y h. short y (inr h)),
    )

line_cost : (f : Format) (ws : List Wanted) → Stepped f ws → Short ws → length (line_of ws) ≤ 85 * length ws
unfolding line_of
line_cost f [] st short = absurd st
line_cost f (w ∷ ws) (one, k, steps) short =
    omega (
      arith,
      one,
      spaced_between (line_tokens (w ∷ ws)),
      entries_cost f w ws (subst (λ l. Steps f l ws) (sym one) steps) (omega arith) short,
    )

-- A printed name is a whole path.
paths_short : (f : Format) → f.levels ≤ 8 → f.labels < 65536 → (es : List Entry) → LaidOut f es → bad_entry f es ≡ none → Short (map whole_path es)
paths_short f few small es laid sound w h =
    let (e, i, q) = map-has whole_path w es h in
    let size = (each_part f es sound e i).1.size in
    subst (λ (v : Wanted). length (spelled v.name) ≤ 80) (sym q)
    (path_short (named e) (omega (arith, few, size, length-take e.size e.labels, laid e i))
    (λ l k. omega (arith, small, (sound-named f es sound e i l k).1)))

-- A PRINTED LINE is short.
pub line_short : (f : Format) → f.levels ≤ 8 → f.labels < 65536 → (s : List ℕ) (es : List Entry) → tests5_6 f s ≡ given es
    → length (line_of (map whole_path es)) ≤ 1360
line_short f few small s es passes =
    let (same, sound, filled, most) = passed5_6 f s es passes in
    let laid = subst (LaidOut f) same (entries_laid f s) in
    omega (
      arith,
      most,
      length-map es whole_path,
      line_cost f (map whole_path es) (stepped f es laid sound filled) (paths_short f few small es laid sound),
    )
