-- What stays after an accepted conversion: equal types, closest rows, the verdict, the lines, and the new table but for its labels. Assumes nothing.
use Prim.Native.Nat.{ℕ, ◌<◌}
use mathlib.Core.Path.{◌≡◌, sym, ◌∙◌, ap, subst}
use mathlib.Core.List.{List, [], map}
use lib.ListN.{get_or}
use Rattle.paper.specs.Format.{Format}
use Rattle.paper.specs.Tables.{Row, rows, row_types, types}
use Rattle.paper.specs.Closeness.{nodes, closest}
use Rattle.paper.specs.Shapes.{Entry, entries}
use Rattle.paper.specs.Calls.{refused, given, ◌>>=◌, after, tests1_4, tests1_7, test8, judge, room_in, reshaping, reshape, summarise}
use Rattle.paper.specs.Labels.{old_range, Pair, converted, table_with, row_with, Converted, converting}
use Rattle.paper.proofs.Calls.{passed1_3}
use Rattle.keeping.proofs.Accepted.{Accepted, converting_passes}
use Rattle.keeping.proofs.Relabelled
use Rattle.keeping.proofs.RelabelledCalls
use Rattle.keeping.proofs.RelabelledLines

-- t and u are written for the table b and the shape s
module _ (f : Format) (few : f.labels < 65536) (b s : List ℕ) (ps : List Pair) (room-table room-shape : ℕ) (x : Converted) (t u : List ℕ)
    (done : converting f b s ps room-table room-shape ≡ given (x, t, u)) where
  abbrev old : Format
  old = old_range f

  abbrev rs : List Row
  rs = rows old b

  abbrev es : List Entry
  es = entries old s

  accepted : Accepted f ps b s t u
  accepted = converting_passes f few b s ps room-table room-shape x t u done

  -- THE ROWS are those of before with their labels converted.
  pub rows-converted : rows f t ≡ map (row_with ps) rs
  rows-converted = (passed1_3 f t (map (row_with ps) rs) accepted.table-after).0

  -- SO ARE THE TYPES, row by row and as they are numbered.
  pub types-converted : (row_types (rows f t) ≡ map (map (converted ps)) (row_types rs)) × (types (rows f t) ≡ map (map (converted ps)) (types rs))
  types-converted = (
    ap row_types rows-converted ∙ Relabelled.row-types-with ps rs,
    ap types rows-converted ∙ Relabelled.types-with ps rs es accepted.apart,
  )

  -- TWO ROWS HAVE EQUAL TYPES after it exactly if they had before.
  pub equal_types : (i j : ℕ) → let before : ℕ → List ℕ = λ i. get_or (row_types rs) i [] in let afterwards : ℕ → List ℕ = λ i. get_or (row_types (rows f t)) i [] in
      (afterwards i ≡ afterwards j → before i ≡ before j) × (before i ≡ before j → afterwards i ≡ afterwards j)
  equal_types i j =
      let type : List Row → ℕ → List ℕ = λ rs i. get_or (row_types rs) i [] in
      subst (λ z. (type z i ≡ type z j → type rs i ≡ type rs j) × (type rs i ≡ type rs j → type z i ≡ type z j)) (sym rows-converted)
      (let (alike, back, forth) = Relabelled.equal_types ps rs es accepted.apart i j in (back, forth))

  -- THE NODES are those of before, so that rows meet where they met.
  pub nodes-converted : nodes (rows f t) ≡ nodes rs
  nodes-converted = ap nodes rows-converted ∙ Relabelled.nodes-with ps rs es accepted.apart

  -- CLOSEST ROWS STAY CLOSEST, and no others become so.
  pub closest-converted : closest (nodes (rows f t)) ≡ closest (nodes rs)
  closest-converted = ap closest nodes-converted

  -- THE SAME IS FOUND BY 1 TO 7, but for the labels.
  pub work_converted : tests1_7 f t u ≡ (tests1_7 old b s >>= (λ w. given (RelabelledCalls.work_with ps w)))
  work_converted = RelabelledCalls.work_with_lem f ps b s t u accepted

  -- THEY ARE REFUSED BY 1 TO 7, so by 4 and by 7, exactly as before, with the same number and place.
  pub refused-converted : (k p : ℕ) → (tests1_7 f t u ≡ refused k p → tests1_7 old b s ≡ refused k p)
      × (tests1_7 old b s ≡ refused k p → tests1_7 f t u ≡ refused k p)
  refused-converted = RelabelledCalls.seven_with f ps b s t u accepted

  -- THEY ARE JUDGED as before.
  pub judge-converted : judge f t u ≡ judge old b s
  judge-converted = RelabelledCalls.judge_with_lem f ps b s t u accepted

  -- THE LINES are the same, or they are refused by 1 to 8 as before.
  pub lines_converted : (room : ℕ) → (tests1_7 f t u >>= (λ w. test8 f w room)) ≡ (tests1_7 old b s >>= (λ w. test8 old w room))
  lines_converted = RelabelledCalls.lines_with f ps b s t u accepted

  -- THE SUMMARY is the same, or it is refused as before.
  pub summarise-converted : summarise f t u ≡ summarise old b s
  summarise-converted = RelabelledCalls.summarise_with_lem f ps b s t u accepted

  -- THE NEW TABLE is that of before with its labels converted, and the source list is the same; or they are refused as before.
  pub reshaping-converted : (room : ℕ) → reshaping f (tests1_4 f t) u room ≡ (reshaping old (tests1_4 old b) s room >>= (λ x. given (table_with f ps x.0, x.1)))
  reshaping-converted = RelabelledLines.reshaping-with f ps b s t u accepted

  -- THE CALL, with the same bytes and places lent.
  pub reshape-converted : (new sources : List ℕ) → reshape f t u new sources ≡ record {
    reply = (reshape old b s new sources).reply;
    table = after new (reshaping old (tests1_4 old b) s (room_in f new sources) >>= (λ x. given (table_with f ps x.0)));
    sources = (reshape old b s new sources).sources;
  }
  reshape-converted = RelabelledLines.reshape_with_lem f ps b s t u accepted
