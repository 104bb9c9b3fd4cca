-- `entry::put_names`: the names of the labels so far are put, each of them takes at most 21 bytes. Assumes nothing.
use Prim.Native.Nat.{◌+◌, ◌*◌, ◌≤◌}
use Rattle.grammar.specs.Text.{space}
use Rattle.grammar.specs.Names.{name_text}
use Rattle.names.specs.Put.{Put}
use Rattle.listing.proofs.Dewey.{leading}
use Rattle.facts.proofs.entry.put_names.Given as goal

abbrev pub invariant-loop-k : goal.invariant-loop-k
invariant-loop-k l = (l.p ≤ l.at + 21 * l.k) × Put l.fn.out l.at (leading name_text space l.entry 4 l.k) l.out l.p
