-- What an accepted call leaves at the front of the lent bytes is a conversion that is accepted, so that all that holds of one holds of it. Assumes
-- nothing.
use Prim.Native.Nat.{ℕ, ◌<◌}
use native.Mathlib.Omega.{arith}
use mathlib.Core.Path.{◌≡◌, sym, ◌∙◌, ap}
use mathlib.Core.Bool.{◌||◌}
use mathlib.Core.List.{List}
use lib.Dec.{ltb}
use lib.ListN.{length, take, drop}
use lib.Seq.{take_at}
use Rattle.paper.specs.Lists.{any, first_place}
use Rattle.paper.specs.Format.{Format, head_bytes, row_bytes, entry_bytes}
use Rattle.paper.specs.Tables.{Row}
use Rattle.paper.specs.Shapes.{Entry, named}
use Rattle.paper.specs.Calls.{Answer, given, ◌>>=◌, refuse, refuse_at, after, tests1_3, tests5_6}
use Rattle.paper.specs.Labels.{old_range, Pair, pairs, occurring, bad_pair, unlisted, label_at, table_with, shape_with, Converted, none_converted, converting, convert}
use Rattle.paper.proofs.Calls.{Told, bind_told, refuse-told, refuse_at-told, told1_3, told5_6, reply-given, bind_given, given-same, whole1_3, passed5}
use Rattle.keeping.proofs.ConvertedFiles.{length-same}
use Rattle.keeping.proofs.Accepted.{converting_passes}

module _ (f : Format) (b s numbers lent-table lent-shape : List ℕ) where
  abbrev ps : List Pair
  ps = pairs numbers

  -- what is given: the counts, the new table, the new shape
  abbrev Given : Type 0
  Given = Converted × List ℕ × List ℕ

  abbrev answer : Answer Given
  answer = converting f b s ps (length lent-table) (length lent-shape)

  -- A refusal has a number.
  numbered : Told (λ k. 0 < k) answer
  unfolding converting
  numbered =
      let P : ℕ → Type 0 = λ k. 0 < k in
      bind_told P (tests1_3 (old_range f) b) _ (told1_3 P (omega arith) (omega arith) (omega arith) (old_range f) b) (λ rs _.
      bind_told P (tests5_6 (old_range f) s) _ (told5_6 P (omega arith) (omega arith) (old_range f) s) (λ es _.
      bind_told P (refuse_at 25 (bad_pair f (occurring rs es) ps)) _ (refuse_at-told P 25 (bad_pair f (occurring rs es) ps) (omega arith)) (λ _ _.
      bind_told P (refuse_at 26 (first_place (λ (r : Row). unlisted f ps r.label) rs)) _
      (refuse_at-told P 26 (first_place (λ (r : Row). unlisted f ps r.label) rs) (omega arith)) (λ _ _.
      bind_told P (refuse_at 26 (first_place (λ (e : Entry). any (unlisted f ps) (named e)) es)) _
      (refuse_at-told P 26 (first_place (λ (e : Entry). any (unlisted f ps) (named e)) es) (omega arith)) (λ _ _.
      bind_told P (refuse 29 (ltb (length lent-table) (length (table_with f ps b)) || ltb (length lent-shape) (length (shape_with f ps s)))) _
      (refuse-told P 29 (ltb (length lent-table) (length (table_with f ps b)) || ltb (length lent-shape) (length (shape_with f ps s))) (omega arith))
      (λ _ _. tt))))))

  -- AN ACCEPTED CALL leaves the converted table and shape at the front, each as long as it was.
  pub converted_left : f.labels < 65536 → let c = convert f b s numbers lent-table lent-shape in c.reply.number ≡ 0
      → converting f b s (pairs numbers) (length lent-table) (length lent-shape)
      ≡ given (c.reply.rest, take (length b) c.table, take (length s) c.shape)
  unfolding convert
  converted_left few e =
      let counts : Given → Answer Converted = λ x. given x.0 in
      let (k, h, r) = reply-given none_converted (answer >>= counts) (bind_told (λ k. 0 < k) answer counts numbered (λ _ _. tt)) e in
      let (x, h₁, k₁) = bind_given answer counts k h in
      let a = converting_passes f few b s ps (length lent-table) (length lent-shape) x.0 x.1 x.2 h₁ in
      let table-long : length x.1 ≡ length b =
      ap length a.table ∙ length-same ps label_at 1 (row_bytes f) (omega arith) (omega arith) b (whole1_3 (old_range f) b _ a.table_before) in
      let shape-long : length x.2 ≡ length s =
      ap length a.shape ∙ length-same ps head_bytes f.levels (entry_bytes f) (omega arith) (omega arith) s (passed5 (old_range f) s _ a.shape_before).2 in
      let counted = given-same x.0 k k₁ ∙ sym r in
      let table = sym (ap (λ (y : Answer Given). take (length b) (after lent-table (y >>= (λ (z : Given). given z.1)))) h₁
      ∙ take_at x.1 (drop (length x.1) lent-table) (length b) table-long) in
      let shape = sym (ap (λ (y : Answer Given). take (length s) (after lent-shape (y >>= (λ (z : Given). given z.2)))) h₁
      ∙ take_at x.2 (drop (length x.2) lent-shape) (length s) shape-long) in
      h₁ ∙ (λ i. given (counted i, table i, shape i))
