-- What a reshape leaves in the bytes and places that were lent. Assumes nothing.
use Prim.Native.Nat.{ℕ, zero, suc, ◌+◌, ◌*◌, ◌≤◌}
use native.Mathlib.Nat.{mul-zero, mul-suc, mul_comm}
use native.Mathlib.Omega.{arith}
use mathlib.Core.Path.{◌≡◌, sym, ◌∙◌, ap, ap₂, subst, subst₂}
use mathlib.Core.Bool.{true}
use mathlib.Core.List.{List}
use lib.ListN.{length, take, length-map}
use lib.Seq.{sets}
use Rattle.paper.specs.Format.{Format, row_bytes, whole}
use Rattle.paper.specs.Tables.{rows}
use Rattle.paper.specs.Closeness.{nodes}
use Rattle.paper.specs.NewTable.{Line, lines, new_table, source_list, entry_unit}
use Rattle.paper.specs.Calls.{Reply, Reshaping, reshape, room_in}
use Rattle.paper.specs.Links.{LinksKept}
use Rattle.paper.specs.MadeUp.{NothingMadeUp, unshown}
use Rattle.paper.specs.Sound.{KeepsRules, SoundSource}
use Rattle.paper.specs.Edges.{ChildrenShown, ChildrenBetween}
use Rattle.paper.proofs.Promises.{reshape_links, written_length}
use Rattle.paper.proofs.MadeUp.{reshape_none_made_up, reshape-unshown}
use Rattle.paper.proofs.Sound.{narrow_keeps, narrow_sound}
use Rattle.paper.proofs.Beneath.{reshape_children, reshape-between}
use Rattle.octets.specs.Served.{most_levels, Served}
use Rattle.octets.proofs.Writing.{front_written}
use Rattle.tables.proofs.Rows.{row_in}
use Rattle.shapes.specs.Tests.{shape_in}
use Rattle.closest.specs.Runs.{Runs, NextRows}
use Rattle.closest.specs.Rows.{RowsIn}
use Rattle.closest.specs.declared.rows.RowsRead.{RowsRead}
use Rattle.shapes.specs.Work.{Work, Ready}
use Rattle.shapes.specs.declared.shape.Shape.{Shape}
use Rattle.lines.specs.Lines.{Numbered, bytes_of, sources_of}
use Rattle.lines.specs.Places.{Spacious}
use Rattle.lines.specs.Write.{RunsNamed, Fits, all_lines, WrittenAll}
use Rattle.reshaping.specs.Reshaped.{reshaped, Reshapes}
use Rattle.std.specs.Prelude.{Err}
use Rattle.paper.specs.Refusals.{refusal_number, refusal_place}
use Rattle.paper.specs.declared.refusal.Refusal.{Refusal}
use Rattle.reshaping.proofs.Paper.{bytes_are, sources_are, length-is}
use Rattle.reshaping.proofs.Answers.{reshape-given}

-- so many records of w bytes lie within the bytes
records_fit : (w p : ℕ) (l : List ℕ) → p ≤ whole w l → w * p ≤ length l
records_fit w zero l le = omega (arith, mul-zero w)
records_fit w (suc p) l le = omega (arith, row_in w p l (omega arith), mul-suc w p)

-- an answer that is the definition's has the other parts of the promise too
pub reshapes : {f : Format} → Served f → {t s new sources : List ℕ} (r : Reply ℕ) (new' sources' : List ℕ) → r ≡ (reshape f t s new sources).reply
    → new' ≡ (reshape f t s new sources).table → sources' ≡ (reshape f t s new sources).sources → Reshapes f t s new sources r new' sources'
reshapes {f} served {t} {s} {new} {sources} r new' sources' er en es = record {
  answer = er;
  bytes = en;
  places = es;
  links = λ z v. subst₂ (λ a b. LinksKept f t s a b) (sym front) (sym listed) (reshape_links f t s new sources (accepted z) v);
  none_made_up_lem = λ z ok. subst₂ (λ a b. NothingMadeUp f t s a b) (sym front) (sym listed) (reshape_none_made_up f t s new sources (accepted z) ok);
  named_unshown_lem = λ z e i v. subst (λ b. unshown e i b ≡ true) (sym listed) (reshape-unshown f t s new sources (accepted z) e i v);
  children = λ z. subst₂ (λ a b. ChildrenShown f t s a b) (sym front) (sym listed) (reshape_children f t s new sources (accepted z));
  between = λ z. subst₂ (λ a b. ChildrenBetween f t s a b) (sym front) (sym listed) (reshape-between f t s new sources (accepted z));
  rules = λ z. subst₂ (λ a k. KeepsRules f a k) (sym front) (sym count) (narrow_keeps f t s new sources served.small (accepted z));
  sound = λ z le. subst₂ (λ a k. SoundSource f s a k) (sym front) (sym count)
      (narrow_sound f t s new sources served.small (accepted z) (omega (arith, count, le)));
}
  where
    count : r.rest ≡ (reshape f t s new sources).reply.rest
    count = ap (λ (x : Reply ℕ). x.rest) er

    accepted : r.number ≡ 0 → (reshape f t s new sources).reply.number ≡ 0
    accepted z = sym (ap (λ (x : Reply ℕ). x.number) er) ∙ z

    front : take (r.rest * row_bytes f) new' ≡ take ((reshape f t s new sources).reply.rest * row_bytes f) (reshape f t s new sources).table
    front = ap₂ (λ k l. take (k * row_bytes f) l) count en

    listed : take r.rest sources' ≡ take (reshape f t s new sources).reply.rest (reshape f t s new sources).sources
    listed = ap₂ (λ k l. take k l) count es

-- a refusal changes nothing
pub leaves : {f : Format} → Served f → (t s new sources : List ℕ) (e : Refusal)
    → reshape f t s new sources ≡ record { reply = record { number = refusal_number e; place = refusal_place e; rest = 0 }; table = new; sources = sources }
    → Reshapes f t s new sources (reshaped (Err e)) new sources
leaves served t s new sources e q =
    reshapes served (reshaped (Err e)) new sources (sym (ap (λ (x : Reshaping). x.reply) q)) (sym (ap (λ (x : Reshaping). x.table) q))
    (sym (ap (λ (x : Reshaping). x.sources) q))

-- the runs are named, and the lists are long enough for what is written
pub runs-named : {f : Format} {t s : List ℕ} {w : Work} → Ready f t s w → {runs lists : List ℕ} → Runs most_levels w.rows w.levels runs
    → Spacious runs lists → RunsNamed f w.rows t w.types runs w.shape lists
runs-named {w = w} y names room = record {
  levels = w.levels;
  levelled = y.levelled;
  rows_are = y.rows_are;
  shaped = y.shaped;
  runs_are = names;
  deep = y.served.deep;
  shallow = y.served.shallow;
  room = room;
}

-- the next rows of the rows that were read are those of the rows that are worked on
pub next_as : {f : Format} {t s : List ℕ} {w : Work} → Ready f t s w → {read : RowsRead} {levels ks : List ℕ} → RowsIn f t read levels ks
    → (next : List ℕ) → NextRows read.rows ks next × (read.rows ≤ length next) → NextRows w.rows ks next × (w.rows ≤ length next)
next_as y {ks = ks} rows next =
    subst (λ n. NextRows n ks next × (n ≤ length next)) (rows.levelled.typed.rows_n ∙ sym y.levelled.typed.rows_n)

-- what writing leaves, from the first place on
pub left_at_front : {f : Format} {t : List ℕ} {d : Shape} {new₀ sources₀ new sources : List ℕ} {q : ℕ} → WrittenAll f t d new₀ sources₀ new sources q
    → (q ≡ length (all_lines f t d)) × ((new ≡ sets new₀ 0 (bytes_of f t d (all_lines f t d))) × (sources ≡ sets sources₀ 0 (sources_of (all_lines f t d))))
left_at_front {f} written = (omega (arith, written.counted), (rw (mul-zero (row_bytes f)) at written.records, written.places))

module _ {f : Format} {t s : List ℕ} {w : Work} (y : Ready f t s w) (table sources : List ℕ)
    (le : length (lines (nodes (rows f t)) (shape_in f t s) f.levels) ≤ room_in f table sources) where
  abbrev ls : List Line
  ls = lines (nodes (rows f t)) (shape_in f t s) f.levels

  abbrev found : List Numbered
  found = all_lines f t w.shape

  records_in : row_bytes f * length ls ≤ length table
  records_in = records_fit (row_bytes f) (length ls) table (omega arith)

  pub fits : Fits f table sources (length (all_lines f t w.shape))
  fits =
      let n = length-is y in
      record { records = subst (λ k. row_bytes f * k ≤ length table) (sym n) records_in; places = omega (arith, n); few = omega (arith, n) }

  pub lines_left : (n : ℕ) → n ≡ length (all_lines f t w.shape)
      → record { number = 0; place = 0; rest = n } ≡ (reshape f t s table sources).reply
  lines_left n e =
      ap {B = Reply ℕ} (λ k. record { number = 0; place = 0; rest = k }) (e ∙ length-is y)
      ∙ sym (ap (λ (x : Reshaping). x.reply) (reshape-given y table sources le))

  pub table_left : (table' : List ℕ) → table' ≡ sets table 0 (bytes_of f t w.shape (all_lines f t w.shape))
      → table' ≡ (reshape f t s table sources).table
  table_left table' e =
      let new = new_table f (shape_in f t s) (rows f t) ls in
      let long : length new ≡ length ls * row_bytes f = written_length f t s _ y.given_is (omega arith) in
      e ∙ ap (sets table 0) (bytes_are y) ∙ front_written table new (omega (arith, long, records_in, mul_comm (length ls) (row_bytes f)))
      ∙ sym (ap (λ (x : Reshaping). x.table) (reshape-given y table sources le))

  pub sources_left_lem : (sources' : List ℕ) → sources' ≡ sets sources 0 (sources_of (all_lines f t w.shape))
      → sources' ≡ (reshape f t s table sources).sources
  unfolding source_list
  sources_left_lem sources' e =
      let list = source_list ls in
      let long : length list ≡ length ls = length-map ls (λ (l : Line). l.entry * entry_unit + l.source.place) in
      e ∙ ap (sets sources 0) (sources_are y) ∙ front_written sources list (omega (arith, long))
      ∙ sym (ap (λ (x : Reshaping). x.sources) (reshape-given y table sources le))
