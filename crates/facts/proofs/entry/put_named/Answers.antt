-- `entry::put_named`: the text, and the number after it. Assumes nothing.
use native.Mathlib.Omega.{arith}
use Rattle.names.proofs.Putting.{put_then}
use Rattle.facts.proofs.entry.put_named.Goals as goal

pub returns : goal.returns
returns c =
    (put_then c.put_bytes-p.ensures c.put_number.ensures.0, omega (arith, c.put_number.ensures.1, c.put_bytes-p.ensures.ends))
