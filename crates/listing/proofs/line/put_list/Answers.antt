-- `line::put_list`: the first number, and the others. Assumes nothing.
use native.Mathlib.Omega.{arith}
use mathlib.Core.Path.{◌∙◌, ap}
use mathlib.Core.List.{◌++◌}
use Prim.Native.Nat.{◌-◌}
use Rattle.grammar.specs.Text.{decimal}
use Rattle.names.proofs.Putting.{put_none, put_then, put_as}
use Rattle.listing.proofs.Dewey.{further, list_parts, no_numbers}
use Rattle.listing.proofs.line.put_list.Goals as goal

pub returns-then-n-eq0 : goal.returns-then-n-eq0
returns-then-n-eq0 c =
    let a = c.args in
    (put_as (put_none a.out.now a.at) (no_numbers a.n a.held.now c.if-n-eq0.true), omega arith)

pub returns : goal.returns
returns c =
    let a = c.args in
    let whole = put_then c.put_number-first.ensures.0 c.put_further.ensures.0 in
    let first = ap (λ x. decimal x ++ further (a.n - 1) a.held.now) c.word.ensures.0 in (
      put_as whole (first ∙ list_parts a.n a.held.now (omega arith)),
      omega (arith, c.put_number-first.ensures.1, c.put_further.ensures.1),
    )
