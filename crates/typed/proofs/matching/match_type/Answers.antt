-- One type more is looked at, or the answer. Assumes nothing.
use Prim.Native.Nat.{ℕ, ◌≤◌, ◌+◌}
use native.Mathlib.Omega.{arith}
use mathlib.Core.Path.{sym, subst}
use mathlib.Core.List.{List}
use lib.ListN.{take}
use Rattle.grammar.specs.Grammar.{Name}
use Rattle.names.specs.Word.{Holds}
use Rattle.names.specs.declared.word.Word.{Word}
use Rattle.typed.specs.Matching.{Ends, Sole}
use Rattle.typed.proofs.Suffix.{name_with}
use Rattle.typed.proofs.Soles.{held_name, Seeking, seeking_past, seeking_here, seeking_twice, seeking_end, seeking_long}
use Rattle.typed.proofs.matching.match_type.Goals as goal
use Rattle.typed.proofs.matching.match_type.Goals.{then-type_matches+else-found-lt64, else-type_matches}

-- what is so of the labels that are held is so of the name
for_name : (parents labels : List ℕ) (count found : ℕ) (r : Word) → r.size ≤ 8 → Sole parents labels count (name_with r.whole (take r.size r.labels)) found
    → (n : Name) → Holds r n → Sole parents labels count n found
for_name parents labels count found r le e n h = subst (λ m. Sole parents labels count m found) (sym (held_name r n h le)) e

pub returns-then-size-gt8-clause-sole : goal.returns-then-size-gt8-clause-sole
returns-then-size-gt8-clause-sole c = let a = c.args in λ n h. seeking_long a.parents.now a.labels.now a.count n (omega (arith, h.size_is))

pub returns-then-found-lt64-clause-sole : goal.returns-then-found-lt64-clause-sole
returns-then-found-lt64-clause-sole c =
    let a = c.args in
    let l = c.loop-k in
    let held = name_with a.name.whole (take a.name.size a.name.labels) in
    let own = subst (Ends a.parents.now a.labels.now a.count held l.k) c.if-type_matches.true c.type_matches.ensures in
    for_name a.parents.now a.labels.now a.count 64 a.name (omega arith)
    (seeking_twice a.parents.now a.labels.now a.count held l.found l.k l.invariant.seeking (omega arith) own (omega arith))

pub loop-k-preserved : goal.loop-k-preserved
loop-k-preserved c =
    let a = c.args in
    let l = c.loop-k in
    let held = name_with a.name.whole (take a.name.size a.name.labels) in
    let on = λ (found : ℕ). Seeking a.parents.now a.labels.now a.count held found (l.k + 1) in
    elim c.if-type_matches.branch [
      | then-type_matches+else-found-lt64 w ↦
          let own = subst (Ends a.parents.now a.labels.now a.count held l.k) w.if-type_matches.true c.type_matches.ensures in record {
            few = omega (arith, w.found-is);
            seeking = subst on (sym w.found-is) (seeking_here a.parents.now a.labels.now a.count held l.found l.k l.invariant.seeking (omega arith) own (omega (arith, w.if-found-lt64.false)));
          }
      | else-type_matches w ↦
          let own = subst (Ends a.parents.now a.labels.now a.count held l.k) w.if-type_matches.false c.type_matches.ensures in record {
            few = omega (arith, w.found-is);
            seeking = subst on (sym w.found-is) (seeking_past a.parents.now a.labels.now a.count held l.found l.k l.invariant.seeking (omega arith) own);
          }
    ]

pub returns-clause-sole : goal.returns-clause-sole
returns-clause-sole c =
    let a = c.args in
    let l = c.loop-k in
    for_name a.parents.now a.labels.now a.count l.found a.name (omega arith)
    (seeking_end a.parents.now a.labels.now a.count (name_with a.name.whole (take a.name.size a.name.labels)) l.found l.k l.invariant.seeking (omega arith))
