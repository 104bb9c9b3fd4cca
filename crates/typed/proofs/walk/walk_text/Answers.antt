-- One token after the other. Assumes nothing.
use native.Mathlib.Omega.{arith}
use mathlib.Core.Path.{refl, sym, ◌∙◌}
use borrow.Author.Rules.{rules}
use Rattle.typed.specs.Walk.{stage_of}
use Rattle.typed.proofs.Stages.{stands_open, stands_close, stands_name}
use Rattle.typed.proofs.Runs.{plain_byte, run_on, word_bytes}
use Rattle.typed.proofs.Walking.{walks_ended, going_start, going_space, going_open, going_close, going_stop, word-stop, going_word}
use Rattle.typed.proofs.walk.walk_text.Goals as goal

pub loop-p-init : goal.loop-p-init
loop-p-init c =
    let a = c.args in record {
      within = omega arith;
      shallow = omega arith;
      few = omega arith;
      levels_long = search rules;
      types_long = search rules;
      going = going_start a.f a.text.now a.parents.now a.labels.now a.count _ refl c.requires.1;
    }

pub loop-p-preserved-then-b-eq32 : goal.loop-p-preserved-then-b-eq32
loop-p-preserved-then-b-eq32 c =
    let a = c.args in
    let v = c.loop-p in record {
      within = omega arith;
      shallow = omega arith;
      few = omega arith;
      levels_long = v.invariant.levels_long;
      types_long = v.invariant.types_long;
      going = going_space a.f a.text.now a.parents.now a.labels.now a.count v.w v.stage v.depth v.p v.invariant.going (omega arith) c.if-b-eq32.true;
    }

pub returns-then-not-may_stand : goal.returns-then-not-may_stand
returns-then-not-may_stand c =
    let a = c.args in
    let v = c.loop-p in
    going_stop a.f a.text.now a.parents.now a.labels.now a.count v.w v.stage v.depth v.p v.invariant.going (omega arith) c.if-b-eq32.false
    (sym c.may_stand.ensures ∙ c.if-not-may_stand.true)

pub loop-p-preserved-then-b-eq91 : goal.loop-p-preserved-then-b-eq91
loop-p-preserved-then-b-eq91 c =
    let a = c.args in
    let v = c.loop-p in
    let opens = sym (stands_open _ (stage_of v.stage) v.depth c.if-b-eq91.true) ∙ sym c.may_stand.ensures ∙ c.if-not-may_stand.false in record {
      within = omega arith;
      shallow = omega arith;
      few = omega arith;
      levels_long = v.invariant.levels_long;
      types_long = v.invariant.types_long;
      going = going_open a.f a.text.now a.parents.now a.labels.now a.count v.w v.stage v.depth v.p v.invariant.going (omega arith) c.if-b-eq91.true opens;
    }

pub loop-p-preserved-then-b-eq93 : goal.loop-p-preserved-then-b-eq93
loop-p-preserved-then-b-eq93 c =
    let a = c.args in
    let v = c.loop-p in
    let closes = sym (stands_close _ (stage_of v.stage) v.depth c.if-b-eq91.false c.if-b-eq93.true) ∙ sym c.may_stand.ensures ∙ c.if-not-may_stand.false in record {
      within = omega arith;
      shallow = omega arith;
      few = omega arith;
      levels_long = v.invariant.levels_long;
      types_long = v.invariant.types_long;
      going = going_close a.f a.text.now a.parents.now a.labels.now a.count v.w v.stage v.depth v.p v.invariant.going (omega arith) c.if-b-eq93.true closes;
    }

pub returns-in_default : goal.returns-in_default
returns-in_default c =
    let a = c.args in
    let v = c.loop-p in
    let plain = plain_byte _ c.if-b-eq32.false c.if-b-eq91.false c.if-b-eq93.false in
    let names = sym (stands_name _ (stage_of v.stage) v.depth c.if-b-eq91.false c.if-b-eq93.false) ∙ sym c.may_stand.ensures ∙ c.if-not-may_stand.false in
    let same = word_bytes a.text.now v.p c.word_end-end.result c.word_end-end.ensures.0 in
    word-stop a.f a.text.now a.parents.now a.labels.now a.count v.w v.stage v.depth v.p v.invariant.going (omega arith) plain names _ same
    c.in_default.ensures

pub loop-p-preserved : goal.loop-p-preserved
loop-p-preserved c =
    let a = c.args in
    let v = c.loop-p in
    let plain = plain_byte _ c.if-b-eq32.false c.if-b-eq91.false c.if-b-eq93.false in
    let names = sym (stands_name _ (stage_of v.stage) v.depth c.if-b-eq91.false c.if-b-eq93.false) ∙ sym c.may_stand.ensures ∙ c.if-not-may_stand.false in
    let same = word_bytes a.text.now v.p c.word_end-end.result c.word_end-end.ensures.0 in
    let later = run_on a.text.now v.p (omega arith) plain in
    let kept = c.in-Some.ensures in record {
      within = c.word_end-end.ensures.1;
      shallow = omega (arith, c.word_end-end.ensures.0, later);
      few = omega (arith, c.word_end-end.ensures.0, later, kept.one_more);
      levels_long = search rules;
      types_long = search rules;
      going = going_word a.f a.text.now a.parents.now a.labels.now a.count v.w v.stage v.depth v.p v.invariant.going (omega arith) plain names _ same
          c.in-Some.kept kept c.word_end-end.result c.word_end-end.ensures.0;
    }

pub returns : goal.returns
returns c =
    let a = c.args in
    let v = c.loop-p in
    walks_ended a.f a.text.now a.parents.now a.labels.now a.count v.w v.stage v.depth v.p v.invariant.going (omega arith) v.invariant.levels_long v.invariant.types_long
    v.invariant.within c.ended.result c.ended.ensures
