-- `line::put_brackets`: an opening bracket, or the closing ones from each level on are still to be put. Assumes nothing.
use Prim.Native.Nat.{◌+◌, ◌-◌}
use native.Mathlib.Omega.{arith}
use Rattle.names.proofs.Putting.{put_as}
use Rattle.spelling.proofs.Left.{left_all, left_less, left_none}
use Rattle.spelling.proofs.Parts.{closings, brackets_open, brackets_close, closings_next, closings_end}
use Rattle.spelling.proofs.line.put_brackets.Goals as goal

pub returns-then-l-m : goal.returns-then-l-m
returns-then-l-m c =
    let a = c.args in
    (put_as c.put_bytes.ensures (brackets_open a.l a.m c.if-l-m.true), omega (arith, c.put_bytes.ensures.ends))

pub loop-k-init : goal.loop-k-init
loop-k-init c = (omega arith, left_all _ _ _)

pub loop-k-preserved : goal.loop-k-preserved
loop-k-preserved c =
    let a = c.args in
    let k = c.loop-k._k in
    let next = closings_next a.l k (omega arith) in
    (omega (arith, c.put_bytes-p.ensures.ends), left_less c.loop-k.invariant.1 (closings (a.l - (k + 1))) next c.put_bytes-p.ensures)

pub returns : goal.returns
returns c =
    let a = c.args in
    let put = left_none c.loop-k.invariant.1 (closings_end a.l c.loop-k._k (omega arith)) in
    (put_as put (brackets_close a.l a.m c.if-l-m.false), omega arith)
