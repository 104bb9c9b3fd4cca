-- `words::put_indent`: the indent of the levels so far is put, and each takes two bytes. Assumes nothing.
use native.Mathlib.Omega.{arith}
use Rattle.names.proofs.Putting.{put_none, put_then, put_as}
use Rattle.screens.proofs.Parts.{indent-first, indent-more, indent-same}
use Rattle.screens.proofs.words.put_indent.Goals as goal

pub loop-l-init : goal.loop-l-init
loop-l-init c = (omega arith, omega arith, put_as (put_none _ _) indent-first)

pub loop-l-preserved : goal.loop-l-preserved
loop-l-preserved c = (omega arith, omega arith, put_as (put_then c.loop-l.invariant.2 c.put_bytes-p.ensures) (indent-more c.loop-l._l (omega arith)))

pub returns : goal.returns
returns c = (put_as c.loop-l.invariant.2 (indent-same c.loop-l._l c.args.level (omega arith)), omega arith)
