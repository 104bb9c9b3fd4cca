-- `names::put_name`: a label that has no name is put as its number. Assumes nothing.
use native.Mathlib.Omega.{arith}
use mathlib.Core.Path.{◌∙◌}
use Rattle.names.proofs.Naming.{no_name_below, no_name_above, has_name}
use Rattle.names.proofs.Putting.{put_as}
use Rattle.names.proofs.names.put_name.Goals as goal
use Rattle.names.proofs.names.put_name.Goals.{then-label-lt1-via-then-label-lt1, then-label-lt1-via-else-label-lt1+then-label-gt20}

pub returns-then-label-lt1 : goal.returns-then-label-lt1
returns-then-label-lt1 c =
    elim c.then-label-lt1.branch [
      | then-label-lt1-via-then-label-lt1 w ↦ (put_as c.put_number.ensures.0 (no_name_below c.args.label (omega arith)), c.put_number.ensures.1)
      | then-label-lt1-via-else-label-lt1+then-label-gt20 w ↦ (put_as c.put_number.ensures.0 (no_name_above c.args.label (omega arith)), c.put_number.ensures.1)
    ]

pub returns : goal.returns
returns c =
    let name = c.name_bytes.ensures.name in
    (put_as c.put_bytes.ensures (name ∙ has_name c.args.label _ (omega arith) (omega arith)), omega (arith, c.put_bytes.ensures.ends, c.name_bytes.ensures.upper_bound))
