-- `line::put_path`: the labels from each on are still to be put, and a dot and a name take at most ten bytes. Assumes nothing.
use Prim.Native.Nat.{ℕ, ◌+◌, ◌≤◌}
use native.Mathlib.Omega.{arith}
use mathlib.Core.Path.{◌≡◌, sym, ◌∙◌}
use mathlib.Core.List.{List}
use lib.ListN.{length, take, drop, length-take}
use lib.Seq.{get_or-take}
use Rattle.paper.specs.Format.{Format, words}
use Rattle.paper.proofs.Tables.{length-words}
use Rattle.grammar.proofs.Length.{part_short}
use Rattle.names.proofs.Putting.{put_then}
use Rattle.spelling.specs.Line.{path_text}
use Rattle.spelling.proofs.Left.{left_all, left_less, left_none}
use Rattle.spelling.proofs.Parts.{path_next, path_end}
use Rattle.spelling.proofs.line.put_path.Goals as goal

-- the first n labels of an entry's record
abbrev labels : List ℕ → Format → ℕ → List ℕ
labels entry f n = take n (words f.levels entry 4)

count-labels : (entry : List ℕ) (f : Format) (n : ℕ) → n ≤ f.levels → length (labels entry f n) ≡ n
count-labels entry f n le = omega (arith, length-take n (words f.levels entry 4), length-words f.levels entry 4)

pub loop-k-init : goal.loop-k-init
loop-k-init c = (omega arith, left_all _ _ _)

pub loop-k-preserved : goal.loop-k-preserved
loop-k-preserved c =
    let a = c.args in
    let k = c.loop-k.k in
    let ls = labels a.entry.now a.f a.n in
    let label = c.component.ensures.0 ∙ sym (get_or-take a.n (words a.f.levels a.entry.now 4) k 0 (omega arith)) in
    let next = path_next ls k c.component.result (omega (arith, count-labels a.entry.now a.f a.n c.requires.2)) label in
    let put = put_then c.put_byte-gap.ensures c.put_name-p.ensures.0 in
    let short = part_short c.component.result c.component.ensures.1 in (
      omega (arith, c.put_name-p.ensures.0.ends, c.put_byte-gap.ensures.ends, short),
      left_less c.loop-k.invariant.1 (path_text (drop (k + 1) ls)) next put,
    )

pub returns : goal.returns
returns c =
    let a = c.args in
    let ls = labels a.entry.now a.f a.n in
    let none = path_end ls c.loop-k.k (omega (arith, count-labels a.entry.now a.f a.n c.requires.2)) in
    (left_none c.loop-k.invariant.1 none, omega (arith, c.requires.0.shallow, c.requires.2))
