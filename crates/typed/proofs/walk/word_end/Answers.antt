-- The search stops at the first byte that no word holds. Assumes nothing.
use Rattle.std.proofs.Common.{refl, ◌∙◌, ap, sym, ◌+◌, ◌-◌, take, drop, length, unwrap_or, arith, rules, tests}
use Rattle.std.proofs.lemmas.Iterator.{YieldsList-from_slice}
use Rattle.std.proofs.lemmas.Iterator.Search.{position_from_yields_List}
use lib.ListN.{length-drop}
use lib.Seq.{take_all}
use Rattle.grammar.specs.Grammar.{run}
use Rattle.typed.proofs.Firsts.{found_or_all}
use Rattle.typed.proofs.Runs.{bounds, run_ends, run_short}
use Rattle.typed.proofs.walk.word_end.Goals as goal

pub returns : goal.returns
returns c =
    let a = c.args in
    let behind = drop a.p a.text.now in
    let rest = take (length a.text.now - a.p) behind in
    let stops = position_from_yields_List bounds _ _ c.position.result c.position.ensures.ran (YieldsList-from_slice rest cc)
    (λ x b q k. search (rules, tests)) in
    let first = c.unwrap_or.ensures ∙ ap (λ r. unwrap_or r (length rest)) stops ∙ found_or_all bounds rest _ refl in
    let size = first ∙ sym (run_ends rest) ∙ ap (λ bs. length (run bs)) (take_all _ behind (omega (arith, length-drop a.p a.text.now))) in
    (ap (λ n. a.p + n) size, omega (arith, size, run_short behind, length-drop a.p a.text.now))
