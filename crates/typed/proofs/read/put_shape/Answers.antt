-- `read::put_shape`: each test decides one refusal, then the records are put. Assumes nothing.
use Prim.Native.Nat.{◌+◌, ◌*◌, ◌≤◌}
use native.Mathlib.Omega.{arith}
use native.Mathlib.Nat.{mul-le-mul_right}
use mathlib.Core.Path.{◌≡◌, ap}
use lib.Dec.{leb}
use lib.ListN.{length, get_or}
use borrow.Author.Tests.{leb-false}
use Rattle.paper.specs.Format.{entry_bytes}
use Rattle.typed.specs.Entries.{EachKnown}
use Rattle.typed.proofs.Firsts.{none_passes, none_first}
use Rattle.typed.proofs.Shaped.{too_many, too_deep, unmatched, no_room, shaped}
use borrow.Author.Rules.{rules}
use Rattle.typed.proofs.read.put_shape.Goals as goal

pub returns-then-entries-gt16 : goal.returns-then-entries-gt16
returns-then-entries-gt16 c ts listed within es of =
    let a = c.args in
    too_many a.f ts es a.shape.now a.walked of c.if-entries-gt16.true

pub returns-in-Some : goal.returns-in-Some
returns-in-Some c ts listed within es of =
    let a = c.args in
    too_deep a.f ts es a.shape.now a.walked of c.if-entries-gt16.false c.in-Some.deep c.in-Some.ensures

pub returns-in-Some-first_from : goal.returns-in-Some-first_from
returns-in-Some-first_from c ts listed within es of =
    let a = c.args in
    unmatched a.f ts es a.shape.now a.walked of c.if-entries-gt16.false c.in_default.ensures a.count listed.told.count-is
    listed.told.few c.in-Some-first_from.unmatched c.in-Some-first_from.ensures

pub overflow_mul-entry_bytes : goal.overflow_mul-entry_bytes
overflow_mul-entry_bytes c =
    let a = c.args in
    let size : c.entry_bytes.result ≡ entry_bytes a.f = c.entry_bytes.ensures in
    let deep : a.f.levels ≤ 8 = c.requires.served.shallow in
    let most : c.entry_bytes.result * a.walked.entries ≤ 20 * a.walked.entries = mul-le-mul_right a.walked.entries (omega (arith, size, deep)) in
    omega (arith, most, c.if-entries-gt16.false)

pub returns-then-shape-entry_bytes : goal.returns-then-shape-entry_bytes
returns-then-shape-entry_bytes c ts listed within es of =
    let a = c.args in
    no_room a.f ts es a.shape.now a.walked of c.if-entries-gt16.false c.in_default.ensures a.count listed.told.count-is
    listed.told.few c.in_default-first_from.ensures
    (omega (arith, c.if-shape-entry_bytes.true, ap (λ n. n * a.walked.entries) c.entry_bytes.ensures))

pub put_entries-requires : goal.put_entries-requires
put_entries-requires c =
    let a = c.args in
    let few = c.if-entries-gt16.false in
    let levels_in : length a.walked.levels ≡ 16 = search rules in
    let types_in : length a.walked.types ≡ 16 = search rules in
    let size = ap (λ n. n * a.walked.entries) c.entry_bytes.ensures in
    let known : EachKnown a.f a.walked.levels a.walked.types a.walked.entries a.count =
    λ i lt. (
      omega (
        arith,
        leb-false (a.f.levels + 1) (get_or a.walked.levels i 0)
            (none_passes (leb (a.f.levels + 1)) a.walked.levels a.walked.entries (omega (arith, few, levels_in)) (none_first _ _ c.in_default.ensures) i lt),
      ),
      leb-false a.count (get_or a.walked.types i 0)
          (none_passes (leb a.count) a.walked.types a.walked.entries (omega (arith, few, types_in)) (none_first _ _ c.in_default-first_from.ensures) i lt),
    ) in
    record {
      served = (c.requires.served, omega (arith, few, levels_in), omega (arith, few, types_in), omega (arith, size, c.if-shape-entry_bytes.false));
      count_in_bounds = c.requires.count_in_bounds;
      each_known = known;
    }

pub returns : goal.returns
returns c ts listed within es of =
    let a = c.args in
    let size = ap (λ n. n * a.walked.entries) c.entry_bytes.ensures in
    shaped a.f ts es a.shape.now a.walked of c.if-entries-gt16.false c.in_default.ensures a.count listed.told.count-is
    listed.told.few c.in_default-first_from.ensures (omega (arith, size, c.if-shape-entry_bytes.false)) _
    (c.put_entries.ensures ts listed within)
