-- `records::put_labels`: what is still to be written are the labels from place k on. Assumes nothing.
use Prim.Native.Nat.{◌+◌, ◌*◌, ◌<◌}
use native.Mathlib.Omega.{arith}
use mathlib.Core.Path.{sym, ◌∙◌, ap}
use mathlib.Core.List.{map}
use lib.ListN.{length, length-map}
use lib.Seq.{sets}
use Rattle.paper.specs.Format.{bytes, words}
use Rattle.paper.specs.Labels.{pairs, converted}
use Rattle.paper.proofs.Kept.{get_d_moved}
use Rattle.paper.proofs.Tables.{length-words}
use Rattle.octets.proofs.Writing.{all_left, all_written, number_written, numbers_end}
use Rattle.labels.proofs.records.put_labels.Goals as goal

pub loop-k-init : goal.loop-k-init
loop-k-init c = let a = c.args in all_left a.new.now a.at _ _ (omega arith)

pub loop-k-preserved : goal.loop-k-preserved
loop-k-preserved c =
    let a = c.args in
    let old = words a.n a.r.now a.from in
    let c-of = converted (pairs a.list.now) in
    let k = c.loop-k.k in
    let some : k < length old = omega (arith, length-words a.n a.r.now a.from, c.loop-k-test.true) in
    let is = c.convert_label-label.ensures.0 ∙ ap c-of c.label_at.ensures.0 ∙ sym (get_d_moved c-of old k 0 0 some) in
    number_written k (map c-of old) c.loop-k.invariant (omega (arith, length-map old c-of, some)) c.put_word.new.new
    (c.put_word.ensures ∙ ap (λ x. sets c.loop-k.new (a.at + 2 * k) (bytes 2 x)) is)

pub returns : goal.returns
returns c =
    let a = c.args in
    let old = words a.n a.r.now a.from in
    let c-of = converted (pairs a.list.now) in
    all_written c.loop-k.invariant
    (numbers_end (map c-of old) c.loop-k.k (omega (arith, length-map old c-of, length-words a.n a.r.now a.from, c.loop-k-test.false)))
