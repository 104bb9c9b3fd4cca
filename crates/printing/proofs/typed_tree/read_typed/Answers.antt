-- At most sixteen entries, of at most twenty bytes each, lie within the shape.
use Rattle.std.proofs.Common.{◌≤◌, ◌*◌}
use native.Mathlib.Omega.{arith}
use Rattle.io.proofs.Counting.{prefix_len_of_le}
use Rattle.printing.proofs.Entries.{few_entries, in_shape}
use Rattle.printing.proofs.typed_tree.read_typed.Goals as goal

room : (c : goal.After-entry_bytes) → c.in_ok-entries.entries * c.entry_bytes.result ≤ 320
room c = in_shape _ _ (few_entries _ _ _ _ _ c.in_ok-entries.ensures) (omega (arith, c.entry_bytes.ensures, c.served.ensures.shallow))

pub overflow_mul-result : goal.overflow_mul-result
overflow_mul-result c = record { fits = omega (arith, room c) }

pub returns : goal.returns
returns c = prefix_len_of_le _ _ (omega (arith, room c, c.requires))
