-- The contract of each call with an index, as the root file has it, asks nothing and settles what a caller sees; and where the lists are this
-- table's, it says what the contract of the call without an index says. A clause taken away or weakened is refused here. Assumes nothing.
use Prim.Native.Nat.{ℕ}
use mathlib.Core.Path.{◌≡◌}
use mathlib.Core.List.{List}
use Rattle.paper.specs.Widths.{format_of}
use Rattle.paper.specs.Calls.{given, judge, summarise}
use Rattle.paper.specs.Tables.{Row}
use Rattle.paper.specs.Index.{tests_index}
use Rattle.judging.specs.Judged.{judged, in_numbers}
use Rattle.judging.proofs.Unique as judging
use Rattle.reshaping.specs.Reshaped.{reshaped, Reshapes, summarised}
use Rattle.std.specs.Prelude.{Result}
use Rattle.paper.specs.declared.refusal.Refusal.{Refusal}
use Rattle.reshaping.proofs.Unique as reshaping
use Rattle.indexes.proofs.Unique.{builds_unique}
use Rattle.settling.proofs.Settles.{Settled, Promises, three}
use Rattle.silmezga.proofs.build_index.Reads as build-index
use Rattle.silmezga.proofs.judge_with_index.Reads as judge-with-index
use Rattle.silmezga.proofs.reshape_with_index.Reads as reshape-with-index
use Rattle.silmezga.proofs.summarise_with_index.Reads as summarise-with-index

-- ---- building: the answer, and every lent place after it
pub build_index_settled : Settled {X = Result ℕ Refusal × (List ℕ × List ℕ)} build-index.Asked build-index.Learnt
    (λ κs r e. (r, (e.1.1.0.now, e.1.1.1.0.now)))
build_index_settled = ((λ κs a. tt), λ κs a r s e f x y. three (builds_unique {r = r} {s = s} x y))

-- ---- judging
pub judge_with_index_settled : Settled judge-with-index.Asked judge-with-index.Learnt (λ κs r e. r)
judge_with_index_settled = ((λ κs a. tt), λ κs a r s e f x. judging.judge_with_unique _ _ _ _ _ r x s)

-- where the lists are this table's, it is what judging without an index says
pub judge_with_index_plain : Promises judge-with-index.Learnt (λ κs a r e.
    (rs : List Row) → tests_index (format_of a.0) a.1.0.now a.1.1.1.0.now a.1.1.1.1.0.now ≡ given rs
    → judged r ≡ in_numbers (judge (format_of a.0) a.1.0.now a.1.1.0.now))
judge_with_index_plain κs a r e x = judging.judge_as_plain _ _ _ _ _ r x

-- ---- reshaping: the answer, and every lent byte and place after it
pub reshape_with_index_settled : Settled {X = Result ℕ Refusal × (List ℕ × List ℕ)} reshape-with-index.Asked reshape-with-index.Learnt
    (λ κs r e. (r, (e.1.1.1.1.1.0.now, e.1.1.1.1.1.1.0.now)))
reshape_with_index_settled = ((λ κs a. tt), λ κs a r s e f x y. three (reshaping.reshape_with_unique {a = r} x {b = s} y))

-- where the lists are this table's, all that is promised of a reshape without an index holds: demand 3 and the others
pub reshape_with_index_plain : Promises reshape-with-index.Learnt (λ κs a r e.
    (rs : List Row) → tests_index (format_of a.0) a.1.0.now a.1.1.1.0.now a.1.1.1.1.0.now ≡ given rs
    → Reshapes (format_of a.0) a.1.0.now a.1.1.0.now a.1.1.1.1.1.0.now a.1.1.1.1.1.1.0.now (reshaped r)
    e.1.1.1.1.1.0.now e.1.1.1.1.1.1.0.now)
reshape_with_index_plain κs a r e x = reshaping.plain_promised x

-- ---- summarising
pub summarise_with_index_settled : Settled summarise-with-index.Asked summarise-with-index.Learnt (λ κs r e. r)
summarise_with_index_settled = ((λ κs a. tt), λ κs a r s e f x. reshaping.summarise_with_unique _ _ _ _ _ r s x)

-- where the lists are this table's, it is the summary without an index
pub summarise_with_index_plain : Promises summarise-with-index.Learnt (λ κs a r e.
    (rs : List Row) → tests_index (format_of a.0) a.1.0.now a.1.1.1.0.now a.1.1.1.1.0.now ≡ given rs
    → summarised r ≡ summarise (format_of a.0) a.1.0.now a.1.1.0.now)
summarise_with_index_plain κs a r e x = reshaping.summary_as_plain _ _ _ _ _ (summarised r) x
