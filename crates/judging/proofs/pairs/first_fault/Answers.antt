use Rattle.paper.specs.Lists.{first_or}
use Rattle.paper.specs.Verdict.{kept}
use Rattle.judging.specs.Told.{told}
use Rattle.judging.specs.Pairs.{first_fault}
use Rattle.judging.proofs.Faults.{inner_start, inner_step, inner_found, outer_end, faults_of, faults_none, faults_one}
use Rattle.judging.proofs.pairs.first_fault.Goals as goal

pub loop-f-init : goal.loop-f-init
loop-f-init c =
    let a = c.args in
    inner_start (first_or kept) (faults_of a.shape a.ways.now a.full a.meetings.now) a.shape.entries c.loop-e.e c.loop-e-test.true c.loop-e.invariant

pub loop-f-preserved : goal.loop-f-preserved
loop-f-preserved c =
    let a = c.args in
    inner_step (first_or kept) (faults_of a.shape a.ways.now a.full a.meetings.now) a.shape.entries c.loop-e.e c.loop-f.f c.loop-f.invariant
    c.loop-f-test.true
    (faults_none a.shape a.ways.now a.full a.meetings.now c.loop-e.e c.loop-f.f c.meeting-l.result c.meeting-l.ensures.0 c.pair_verdict-v.result
    c.pair_verdict-v.ensures c.in-Kept.is)

pub returns-in_default : goal.returns-in_default
unfolding first_fault
returns-in_default c =
    let a = c.args in
    inner_found (first_or kept) (faults_of a.shape a.ways.now a.full a.meetings.now) a.shape.entries c.loop-e.e c.loop-f.f c.loop-f.invariant
    c.loop-f-test.true (told c.pair_verdict-v.result)
    (faults_one a.shape a.ways.now a.full a.meetings.now c.loop-e.e c.loop-f.f c.meeting-l.result c.meeting-l.ensures.0 c.pair_verdict-v.result
    c.pair_verdict-v.ensures c.in_default.not-Kept)

pub returns : goal.returns
unfolding first_fault
returns c =
    let a = c.args in
    outer_end (first_or kept) (faults_of a.shape a.ways.now a.full a.meetings.now) a.shape.entries c.loop-e.e c.loop-e-test.false c.loop-e.invariant
