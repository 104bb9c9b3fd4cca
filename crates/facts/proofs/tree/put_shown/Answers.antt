-- `tree::put_shown`: one byte more of the text is put as it is shown. Assumes nothing.
use Prim.Native.Nat.{ℕ, ◌+◌, ◌<◌}
use native.Mathlib.Numerals.{add-one}
use native.Mathlib.Omega.{arith}
use mathlib.Core.Path.{◌≡◌, sym, ◌∙◌, ap}
use mathlib.Core.List.{List, [], ◌∷◌, ◌++◌, map}
use lib.ListN.{length, take, get_or}
use lib.Seq.{take-suc}
use Rattle.paper.proofs.Lists.{map_append}
use Rattle.names.proofs.Putting.{put_then, put_as}
use Rattle.facts.specs.Typed.{shown}
use Rattle.facts.proofs.tree.put_shown.Goals as goal

-- the first i bytes as they are shown
abbrev first : List ℕ → ℕ → List ℕ
first text i = map shown (take i text)

-- One byte more.
more : (text : List ℕ) (i : ℕ) → i < length text → first text i ++ (shown (get_or text i 0) ∷ []) ≡ first text (i + 1)
more text i lt =
    sym (map_append shown (take i text) (get_or text i 0 ∷ [])) ∙ ap (map shown) (sym (take-suc text i 0 lt)) ∙ ap (first text) (sym (add-one i))

pub loop-x-preserved : goal.loop-x-preserved
loop-x-preserved c =
    let next = put_as c.put_byte-p.ensures (ap (λ b. b ∷ []) c.shown.ensures) in
    let put = put_as (put_then c.loop-x.invariant.1 next) (more c.args.text.now c.loop-x.x-index (omega arith)) in
    (omega (arith, c.put_byte-p.ensures.ends), put)
