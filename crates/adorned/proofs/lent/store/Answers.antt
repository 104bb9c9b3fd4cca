-- What `lent::store` leaves: a summary more stands at the front after a turn. Assumes nothing.
use Rattle.std.proofs.Common.{◌<◌, ◌≡◌, length, rules, arith, add-one}
use Rattle.adorned.proofs.Fronts.{front_next}
use Rattle.adorned.proofs.lent.store.Goals as goal

pub loop-k-preserved : goal.loop-k-preserved
loop-k-preserved c =
    let k = c.loop-k.k in
    let all = c.args.all.now in
    let old = c.args.summaries.now in
    let many : length all ≡ 64 = search rules in
    let here : k < length all = omega arith in
    let there : k < length old = omega arith in
    rw (c.loop-k.invariant, add-one) (front_next k all old _ here there)
