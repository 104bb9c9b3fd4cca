use Rattle.std.proofs.Common.{sym, ◌∙◌, ap}
use Rattle.judging.specs.Told.{told}
use Rattle.judging.proofs.Beside.{beside_none, beside_apart}
use Rattle.judging.proofs.second.none_apart_beside.Goals as goal

pub returns-in-Kept : goal.returns-in-Kept
returns-in-Kept c =
    let a = c.args in
    let (full, e) = c.requires.2 in
    beside_none a.shape a.ways.now full a.meetings.now (ap told (sym c.in-Kept.is) ∙ e)

pub returns-in-Apart : goal.returns-in-Apart
returns-in-Apart c =
    let a = c.args in
    let (full, e) = c.requires.2 in
    beside_apart a.shape a.ways.now full a.meetings.now _ _ (ap told (sym c.in-Apart.is) ∙ e)
