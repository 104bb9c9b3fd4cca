-- The line of the refusal, or of what the total has grown by.
use mathlib.Core.Path.{◌∙◌, ap₂}
use Rattle.names.proofs.Putting.{put_as}
use Rattle.billing.specs.Billing.{not_counted_text}
use Rattle.billing.proofs.Taken.{refused_line, shown_grows, unshown_grows, counted_line}
use Rattle.billing.proofs.tape.put_taken.Goals as goal

pub overflow_sub-shown : goal.overflow_sub-shown
overflow_sub-shown c = (shown_grows c.args.total _ c.in-Ok.after c.in-Ok.ensures).0

pub overflow_sub-unshown : goal.overflow_sub-unshown
overflow_sub-unshown c = (unshown_grows c.args.total _ c.in-Ok.after c.in-Ok.ensures).0

pub returns-in-Ok-clause-fact : goal.returns-in-Ok-clause-fact
returns-in-Ok-clause-fact c =
    (put_as c.put_counted-bytes.ensures.put (counted_line c.args.total _ c.in-Ok.after c.in-Ok.ensures c.args.name.now), c.in-Ok.ensures)

pub returns-in-Err-clause-fact : goal.returns-in-Err-clause-fact
returns-in-Err-clause-fact c =
    let told = ap₂ (not_counted_text c.args.name.now) c.number.ensures c.place.ensures in
    let line = refused_line c.args.total _ c.in-Err.left c.in-Err.ensures c.args.name.now in
    (put_as c.put_not_counted-bytes.ensures.put (told ∙ line), c.in-Err.ensures)
