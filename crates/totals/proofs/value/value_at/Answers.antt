-- `value_at`: the number of the eight bytes, with its sign. Assumes nothing.
use Rattle.std.proofs.Common.{◌∙◌, ap}
use mir.Syntax.{w64}
use mir.Facts.{to_z-of_z}
use Rattle.paper.specs.Format.{span}
use Rattle.totals.specs.Rows.{signed_bits}
use Rattle.totals.proofs.Signs.{signed_bits_lem}
use Rattle.totals.proofs.value.value_at.Goals as goal

pub returns : goal.returns
returns c =
    to_z-of_z {w = w64} {z = c.with_sign.result} (record { sfits = c.with_sign.type_inv }) ∙ c.with_sign.ensures ∙ ap signed_bits c.long.ensures
    ∙ signed_bits_lem (span 8 c.args.b.now c.args.i)
