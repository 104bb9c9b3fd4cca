use Rattle.paper.specs.Lists.{is_empty}
use Rattle.paper.specs.Verdict.{apart}
use Rattle.judging.specs.Pairs.{apart_pair, no_pair_apart}
use Rattle.judging.proofs.Faults.{inner_start, inner_step, inner_found, outer_end, apart_none, apart_one}
use Rattle.judging.proofs.second.none_apart.Goals as goal

pub loop-f-init : goal.loop-f-init
loop-f-init c =
    let a = c.args in
    inner_start is_empty (apart_pair a.shape a.ways.now a.meetings.now) a.shape.entries c.loop-e.e c.loop-e-test.true c.loop-e.invariant

pub returns-then-path-meeting : goal.returns-then-path-meeting
unfolding no_pair_apart
returns-then-path-meeting c =
    let a = c.args in
    inner_found is_empty (apart_pair a.shape a.ways.now a.meetings.now) a.shape.entries c.loop-e.e c.loop-f.f c.loop-f.invariant c.loop-f-test.true
    (apart c.loop-e.e c.loop-f.f)
    (apart_one a.shape a.ways.now a.meetings.now c.loop-e.e c.loop-f.f c.meeting.result c.meeting.ensures.0 c.walk_path-path.ensures
    c.if-path-meeting.true)

pub loop-f-preserved : goal.loop-f-preserved
loop-f-preserved c =
    let a = c.args in
    inner_step is_empty (apart_pair a.shape a.ways.now a.meetings.now) a.shape.entries c.loop-e.e c.loop-f.f c.loop-f.invariant c.loop-f-test.true
    (apart_none a.shape a.ways.now a.meetings.now c.loop-e.e c.loop-f.f c.meeting.result c.meeting.ensures.0 c.walk_path-path.ensures
    c.if-path-meeting.false)

pub returns : goal.returns
unfolding no_pair_apart
returns c =
    let a = c.args in
    outer_end is_empty (apart_pair a.shape a.ways.now a.meetings.now) a.shape.entries c.loop-e.e c.loop-e-test.false c.loop-e.invariant
