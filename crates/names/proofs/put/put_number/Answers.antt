-- `put::put_number`: the library's digits, copied to their place. Assumes nothing.
use native.Mathlib.Omega.{arith}
use mathlib.Core.Path.{◌∙◌}
use Rattle.names.proofs.Digits.{few_digits, spelled}
use Rattle.names.proofs.Putting.{put_as}
use Rattle.names.proofs.put.put_number.Goals as goal

pub returns : goal.returns
returns c =
    let d = c.decimal-k in
    let few = few_digits d.result c.args.n d.ensures.len (omega arith) in
    (put_as c.put_bytes.ensures (d.ensures.digits ∙ spelled d.result c.args.n d.ensures.len), omega (arith, c.put_bytes.ensures.ends, d.ensures.in_bounds))
