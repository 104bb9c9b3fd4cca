-- `entry::put_entry_head`: the entry's fields, one after the other. Assumes nothing.
use Prim.Native.Nat.{◌≤◌}
use native.Mathlib.Omega.{arith}
use Rattle.grammar.specs.Text.{ascii}
use Rattle.names.proofs.Putting.{put_then, put_last}
use Rattle.facts.specs.Facts.{entry_head}
use Rattle.facts.proofs.Parts.{put_number_as}
use Rattle.facts.proofs.entry.put_entry_head.Goals as goal

pub returns : goal.returns
unfolding entry_head
returns c =
    let d = put_last (put_number_as (ascii ", zero bytes ") c.word.ensures.0 c.put_named.ensures.0) in
    let b = put_number_as (ascii ", length of its type ") c.wide-2.ensures.0 c.put_named-size.ensures.0 in
    let a = put_number_as (ascii ": level ") c.wide.ensures.0 c.put_named-level.ensures.0 in
    let near : c.put_named-level.result ≤ 54 = omega (arith, c.put_named-number.ensures.1, c.put_named-level.ensures.1) in
    (put_then c.put_named-number.ensures.0 (put_then a (put_then b d)), omega (arith, near, c.put_named-size.ensures.1, c.put_named.ensures.1))
