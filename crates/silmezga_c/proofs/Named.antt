-- Whatever a call answers in the paper is an answer of the code's call: each number that it refuses by has a name. So who is told it in numbers is told
-- an answer of Rattle's call. Assumes nothing.
use Prim.Native.Nat.{ℕ, ◌*◌, ◌%◌}
use mathlib.Core.Path.{◌≡◌, refl, sym, ◌∙◌, ap, subst}
use mathlib.Core.Bool.{Bool, true, false, not, ◌||◌}
use mathlib.Core.List.{List, map}
use mathlib.Core.Option.{Option, none, some}
use lib.Dec.{eqb, ltb}
use lib.ListN.{length}
use Rattle.std.specs.Prelude.{Result, Ok, Err}
use Rattle.paper.specs.Lists.{any, first_place}
use Rattle.paper.specs.Format.{Format, most_rows, most_entries, most_lines, row_bytes, entry_bytes}
use Rattle.paper.specs.Tables.{Row, rows, bad_row, types}
use Rattle.paper.specs.Closeness.{nodes}
use Rattle.paper.specs.Shapes.{Entry, entries, named, bad_entry, shape_over}
use Rattle.paper.specs.Adorned.{Summary, adorned}
use Rattle.paper.specs.NewTable.{lines, new_table, source_list}
use Rattle.paper.specs.Figures.{figures, no_figures}
use Rattle.paper.specs.Verdict.{judgement}
use Rattle.paper.specs.Calls.{Answer, refused, given, ◌>>=◌, refuse, refuse_at, Reply, reply, no_judgement, Work, type_too_many, type_missing}
use Rattle.paper.specs.Calls.{tests1_3, tests1_4, tests5_6, tests5_7, test8, examine, adorning, adorn, judge_rows, judge, room_in, reshaping}
use Rattle.paper.specs.Calls.{reshape_rows, reshape, summarise_rows, summarise}
use Rattle.paper.specs.Widths.{table_to, shape_to, row_deep, entry_deep, moving, move_table, move_shape}
use Rattle.paper.specs.Labels.{Pair, pairs, old_range, occurring, bad_pair, unlisted, table_with, shape_with, none_converted, converting, convert}
use Rattle.paper.specs.Index.{too_short, wrong_row, tests_index, index_of, building, build_index, judge_with, summarise_with, reshape_with}
use Rattle.grammar.specs.Typed.{Wanted, Says, matched, shape_back, shaping, reading, Reading, read_as, ReadTree, line_of, whole_path, printing, print_tree}
use Rattle.paper.specs.Refusals.{refusal_number, refusal_place, answer_of, reply_of}
use Rattle.judging.specs.Judged.{judged, in_numbers}
use Rattle.judging.specs.declared.judge.Judged.{Judged}
use Rattle.silmezga_c.specs.Told.{in_four, four_numbers}
use Rattle.silmezga_c.specs.Numbers.{judged_numbers}
use Rattle.silmezga_c.specs.declared.answers.JudgedNumbers.{JudgedNumbers}
use Rattle.silmezga_c.proofs.Told.{tells}
use Rattle.paper.specs.declared.refusal.Refusal.{Refusal}
use Rattle.paper.specs.declared.refusal.Refusal.TheVariants.{TooManyRows, HalfRow, BadRow, TooManyTypes, NoShape, BadEntry, TypeMissing, TooManyLines}
use Rattle.paper.specs.declared.refusal.Refusal.TheVariants.{TooFewSummaries, NoTree, NoOneType, IndexTooShort, WrongIndex, TooDeep, BadPair, Unlisted, NoRoom}

-- ---- an answer that refuses by a name, if it refuses
abbrev Named : {A : Type 0} → Answer A → Type 0
Named {A} x = (r : Result A Refusal) × (x ≡ answer_of (λ a. a) r)

module _ {A : Type 0} where
  named_given : (a : A) → Named (given a)
  named_given a = (Ok a, refl)

  named_refused : (e : Refusal) → Named {A = A} (refused (refusal_number e) (refusal_place e))
  named_refused e = (Err e, refl)

named_bind : {A B : Type 0} (x : Answer A) (next : A → Answer B) → Named x → ((a : A) → Named (next a)) → Named (x >>= next)
named_bind x next (Ok a, e) after = subst (λ y. Named (y >>= next)) (sym e) (after a)
named_bind x next (Err d, e) after = subst (λ y. Named (y >>= next)) (sym e) (named_refused d)

named_if : (e : Refusal) → refusal_place e ≡ 0 → (b : Bool) → Named (refuse (refusal_number e) b)
named_if e z true = (Err e, ap (refused (refusal_number e)) (sym z))
named_if e z false = named_given tt

named_at : (k : ℕ) (e : ℕ → Refusal) → ((i : ℕ) → k ≡ refusal_number (e i)) → ((i : ℕ) → i ≡ refusal_place (e i)) → (o : Option ℕ) → Named (refuse_at k o)
named_at k e n p none = named_given tt
named_at k e n p (some i) = (Err (e i), ap (λ m. refused m i) (n i) ∙ ap (refused (refusal_number (e i))) (p i))

-- ---- the tests that judging makes
named1_3 : (f : Format) (b : List ℕ) → Named (tests1_3 f b)
unfolding tests1_3
named1_3 f b =
    named_bind (refuse 1 (ltb (most_rows * row_bytes f) (length b))) _ (named_if TooManyRows refl (ltb (most_rows * row_bytes f) (length b))) (λ _.
    named_bind (refuse 2 (not (eqb (length b % row_bytes f) 0))) _ (named_if HalfRow refl (not (eqb (length b % row_bytes f) 0))) (λ _.
    named_bind (refuse_at 3 (bad_row f (rows f b))) _ (named_at 3 BadRow (λ i. refl) (λ i. refl) (bad_row f (rows f b))) (λ _. named_given (rows f b))))

named1_4 : (f : Format) (b : List ℕ) → Named (tests1_4 f b)
unfolding tests1_4
named1_4 f b = named_bind (tests1_3 f b) _ (named1_3 f b) (λ rs.
    named_bind (refuse_at 4 (type_too_many rs)) _ (named_at 4 TooManyTypes (λ i. refl) (λ i. refl) (type_too_many rs)) (λ _. named_given rs))

named_index : (f : Format) (b last next : List ℕ) → Named (tests_index f b last next)
unfolding tests_index
named_index f b last next = named_bind (tests1_4 f b) _ (named1_4 f b) (λ rs.
    named_bind (refuse 14 (too_short rs last next)) _ (named_if IndexTooShort refl (too_short rs last next)) (λ _.
    named_bind (refuse_at 15 (wrong_row (nodes rs) last next)) _ (named_at 15 WrongIndex (λ i. refl) (λ i. refl) (wrong_row (nodes rs) last next)) (λ _.
    named_given rs)))

named5_6 : (f : Format) (b : List ℕ) → Named (tests5_6 f b)
unfolding tests5_6
named5_6 f b =
    let none : Bool = eqb (length b) 0 || ltb (most_entries * entry_bytes f) (length b) || not (eqb (length b % entry_bytes f) 0) in
    named_bind (refuse 5 none) _ (named_if NoShape refl none) (λ _.
    named_bind (refuse_at 6 (bad_entry f (entries f b))) _ (named_at 6 BadEntry (λ i. refl) (λ i. refl) (bad_entry f (entries f b))) (λ _.
    named_given (entries f b)))

named5_7 : (f : Format) (read : Answer (List Row)) (sb : List ℕ) → Named read → Named (tests5_7 f read sb)
unfolding tests5_7
named5_7 f read sb n = named_bind read _ n (λ rs. named_bind (tests5_6 f sb) _ (named5_6 f sb) (λ es.
    named_bind (refuse_at 7 (type_missing rs es)) _ (named_at 7 TypeMissing (λ i. refl) (λ i. refl) (type_missing rs es)) (λ _.
    named_given (record { rows = rs; nodes = nodes rs; shape = shape_over (types rs) es }))))

-- ---- the answers of the calls
named_examine : (f : Format) (b : List ℕ) → Named (do rs ← tests1_3 f b; given (length rs))
named_examine f b = named_bind (tests1_3 f b) _ (named1_3 f b) (λ rs. named_given (length rs))

named_adorning : (f : Format) (b : List ℕ) (lent : ℕ) → Named (adorning f b lent)
unfolding adorning
named_adorning f b lent = named_bind (tests1_4 f b) _ (named1_4 f b) (λ rs.
    named_bind (refuse 10 (ltb lent (length (adorned rs)))) _ (named_if TooFewSummaries refl (ltb lent (length (adorned rs)))) (λ _. named_given (adorned rs)))

module _ (f : Format) (read : Answer (List Row)) (sb : List ℕ) (n : Named read) where
  named_judging : Named (do w ← tests5_7 f read sb; given (judgement w.nodes w.shape))
  named_judging = named_bind (tests5_7 f read sb) _ (named5_7 f read sb n) (λ w. named_given (judgement w.nodes w.shape))

  named8 : (w : Work) (room : ℕ) → Named (test8 f w room)
  unfolding test8
  named8 w room =
      let ls = lines w.nodes w.shape f.levels in
      named_bind (refuse 8 (ltb room (length ls))) _ (named_if TooManyLines refl (ltb room (length ls))) (λ _. named_given ls)

  named_reshaping : (room : ℕ) → Named (reshaping f read sb room)
  unfolding reshaping
  named_reshaping room = named_bind (tests5_7 f read sb) _ (named5_7 f read sb n) (λ w.
      named_bind (test8 f w room) _ (named8 w room) (λ ls. named_given (new_table f w.shape w.rows ls, source_list ls)))

  named_summary : Named (do w ← tests5_7 f read sb; ls ← test8 f w most_lines; given (figures w.nodes w.shape ls))
  named_summary = named_bind (tests5_7 f read sb) _ (named5_7 f read sb n) (λ w.
      named_bind (test8 f w most_lines) _ (named8 w most_lines) (λ ls. named_given (figures w.nodes w.shape ls)))

named_moving : {A : Type 0} (tests : Answer (List A)) (deep : A → Bool) (new : List ℕ) (room : ℕ) → Named tests → Named (moving tests deep new room)
unfolding moving
named_moving tests deep new room n = named_bind tests _ n (λ xs.
    named_bind (refuse_at 24 (first_place deep xs)) _ (named_at 24 TooDeep (λ i. refl) (λ i. refl) (first_place deep xs)) (λ _.
    named_bind (refuse 29 (ltb room (length new))) _ (named_if NoRoom refl (ltb room (length new))) (λ _. named_given (length xs, new))))

named_converting : (f : Format) (b s : List ℕ) (ps : List Pair) (n m : ℕ) → Named (converting f b s ps n m)
unfolding converting
named_converting f b s ps n m = named_bind (tests1_3 (old_range f) b) _ (named1_3 (old_range f) b) (λ rs.
    named_bind (tests5_6 (old_range f) s) _ (named5_6 (old_range f) s) (λ es.
    let bad = bad_pair f (occurring rs es) ps in
    let row = first_place (λ (r : Row). unlisted f ps r.label) rs in
    let entry = first_place (λ (e : Entry). any (unlisted f ps) (named e)) es in
    let t = table_with f ps b in
    let u = shape_with f ps s in
    let short = ltb n (length t) || ltb m (length u) in
    named_bind (refuse_at 25 bad) _ (named_at 25 BadPair (λ i. refl) (λ i. refl) bad) (λ _.
    named_bind (refuse_at 26 row) _ (named_at 26 Unlisted (λ i. refl) (λ i. refl) row) (λ _.
    named_bind (refuse_at 26 entry) _ (named_at 26 Unlisted (λ i. refl) (λ i. refl) entry) (λ _.
    named_bind (refuse 29 short) _ (named_if NoRoom refl short) (λ _.
    named_given (record { rows = length rs; entries = length es }, t, u)))))))

named_said : (f : Format) (text : List ℕ) (said : Answer (List Wanted)) → Says f text said → Named said
named_said f text (refused k p) says = (Err (NoTree p), ap (λ m. refused m p) says.0)
named_said f text (given es) says = named_given es

named_shaping : (f : Format) (ts : List (List ℕ)) (es : List Wanted) (room : ℕ) → Named (shaping f ts es room)
unfolding shaping
named_shaping f ts es room =
    let deep = first_place (λ (e : Wanted). ltb f.levels e.level) es in
    let other = first_place (λ (e : Wanted). not (eqb (length (matched ts e)) 1)) es in
    let shape = shape_back f ts es in
    named_bind (refuse 5 (ltb most_entries (length es))) _ (named_if NoShape refl (ltb most_entries (length es))) (λ _.
    named_bind (refuse_at 6 deep) _ (named_at 6 BadEntry (λ i. refl) (λ i. refl) deep) (λ _.
    named_bind (refuse_at 13 other) _ (named_at 13 NoOneType (λ i. refl) (λ i. refl) other) (λ _.
    named_bind (refuse 29 (ltb room (length shape))) _ (named_if NoRoom refl (ltb room (length shape))) (λ _. named_given (length es, shape)))))

named_reading : (f : Format) (b : List ℕ) (said : Answer (List Wanted)) (room : ℕ) → Named said → Named (reading f b said room)
unfolding reading
named_reading f b said room n = named_bind (tests1_4 f b) _ (named1_4 f b) (λ rs. named_bind said _ n (λ es. named_shaping f (types rs) es room))

named_printing : (f : Format) (s : List ℕ) (room : ℕ) → Named (printing f s room)
unfolding printing
named_printing f s room = named_bind (tests5_6 f s) _ (named5_6 f s) (λ es.
    let line = line_of (map whole_path es) in
    named_bind (refuse 29 (ltb room (length line))) _ (named_if NoRoom refl (ltb room (length line))) (λ _. named_given line))

named_building : (f : Format) (b last next : List ℕ) → Named (building f b last next)
unfolding building
named_building f b last next = named_bind (tests1_3 f b) _ (named1_3 f b) (λ rs.
    named_bind (refuse 14 (too_short rs last next)) _ (named_if IndexTooShort refl (too_short rs last next)) (λ _. named_given (index_of (nodes rs))))

-- ---- the replies of the calls: who is told one is told an answer of Rattle's call
-- a reply whose refusal has a name
abbrev pub NamedReply : {A : Type 0} → A → Reply A → Type 0
NamedReply {A} zeros x = (r : Result A Refusal) × (x ≡ reply_of zeros (λ a. a) r)

named_reply : {A : Type 0} (zeros : A) (x : Answer A) → Named x → NamedReply zeros (reply zeros x)
named_reply zeros x n = (n.0, ap (reply zeros) n.1)

-- what is told of an answer that is named
named_part : {A B : Type 0} (zeros : B) (x : Answer A) (part : A → B) → Named x → NamedReply zeros (reply zeros (x >>= (λ a. given (part a))))
named_part zeros x part n = named_reply zeros (x >>= (λ a. given (part a))) (named_bind x _ n (λ a. named_given (part a)))

pub examine_named : (f : Format) (b : List ℕ) → NamedReply 0 (examine f b)
unfolding examine
examine_named f b = named_reply 0 _ (named_examine f b)

pub adorn_named : (f : Format) (b : List ℕ) (before : List Summary) → NamedReply 0 (adorn f b before).reply
unfolding adorn
adorn_named f b before = named_part 0 (adorning f b (length before)) length (named_adorning f b (length before))

module _ (f : Format) (read : Answer (List Row)) (sb : List ℕ) (n : Named read) where
  judge_rows_named : NamedReply no_judgement (judge_rows f read sb)
  unfolding judge_rows
  judge_rows_named = named_reply no_judgement _ (named_judging f read sb n)

  summarise_rows_named : NamedReply no_figures (summarise_rows f read sb)
  unfolding summarise_rows
  summarise_rows_named = named_reply no_figures _ (named_summary f read sb n)

  reshape_rows_named : (new sources : List ℕ) → NamedReply 0 (reshape_rows f read sb new sources).reply
  unfolding reshape_rows
  reshape_rows_named new sources =
      let room = room_in f new sources in named_part 0 (reshaping f read sb room) (λ x. length x.1) (named_reshaping f read sb n room)

pub judge_named : (f : Format) (b sb : List ℕ) → NamedReply no_judgement (judge f b sb)
unfolding judge
judge_named f b sb = judge_rows_named f (tests1_4 f b) sb (named1_4 f b)

pub judge_with_named : (f : Format) (b sb last next : List ℕ) → NamedReply no_judgement (judge_with f b sb last next)
unfolding judge_with
judge_with_named f b sb last next = judge_rows_named f (tests_index f b last next) sb (named_index f b last next)

pub summarise_named : (f : Format) (b sb : List ℕ) → NamedReply no_figures (summarise f b sb)
unfolding summarise
summarise_named f b sb = summarise_rows_named f (tests1_4 f b) sb (named1_4 f b)

pub summarise_with_named : (f : Format) (b sb last next : List ℕ) → NamedReply no_figures (summarise_with f b sb last next)
unfolding summarise_with
summarise_with_named f b sb last next = summarise_rows_named f (tests_index f b last next) sb (named_index f b last next)

pub reshape_named : (f : Format) (b sb new sources : List ℕ) → NamedReply 0 (reshape f b sb new sources).reply
unfolding reshape
reshape_named f b sb new sources = reshape_rows_named f (tests1_4 f b) sb (named1_4 f b) new sources

pub reshape_with_named : (f : Format) (b sb last next new sources : List ℕ) → NamedReply 0 (reshape_with f b sb last next new sources).reply
unfolding reshape_with
reshape_with_named f b sb last next new sources = reshape_rows_named f (tests_index f b last next) sb (named_index f b last next) new sources

pub move_table_named : (f g : Format) (b lent : List ℕ) → NamedReply 0 (move_table f g b lent).reply
unfolding move_table
move_table_named f g b lent = named_part 0 _ (λ x. x.0) (named_moving (tests1_3 f b) (row_deep g) (table_to f g b) (length lent) (named1_3 f b))

pub move_shape_named : (f g : Format) (s lent : List ℕ) → NamedReply 0 (move_shape f g s lent).reply
unfolding move_shape
move_shape_named f g s lent = named_part 0 _ (λ x. x.0) (named_moving (tests5_6 f s) (entry_deep g) (shape_to f g s) (length lent) (named5_6 f s))

pub convert_named : (f : Format) (b s numbers t u : List ℕ) → NamedReply none_converted (convert f b s numbers t u).reply
unfolding convert
convert_named f b s numbers t u =
    named_part none_converted _ (λ x. x.0) (named_converting f b s (pairs numbers) (length t) (length u))

pub read_tree_named : (f : Format) (b text lent : List ℕ) (r : Reading) → ReadTree f b text lent r → NamedReply 0 r.reply
unfolding read_as
read_tree_named f b text lent r x =
    let n = named_part 0 _ (λ y. y.0) (named_reading f b x.said (length lent) (named_said f text x.said x.says)) in
    (n.0, ap (λ (y : Reading). y.reply) x.answer ∙ n.1)

pub print_tree_named : (f : Format) (s lent : List ℕ) → NamedReply 0 (print_tree f s lent).reply
unfolding print_tree
print_tree_named f s lent = named_part 0 (printing f s (length lent)) length (named_printing f s (length lent))

pub build_index_named : (f : Format) (b last next : List ℕ) → NamedReply 0 (build_index f b last next).reply
unfolding build_index
build_index_named f b last next = named_part 0 _ (λ x. length x.last) (named_building f b last next)

-- the same where the code's answer gives what it gives in a struct of its own
pub told_so : {A B : Type 0} (zeros : B) (told : A → B) → ((b : B) → (a : A) × (told a ≡ b)) → (x : Reply B) → NamedReply zeros x
    → (j : Result A Refusal) × (x ≡ reply_of zeros told j)
told_so zeros told back x (Ok b, e) = let (a, u) = back b in (Ok a, e ∙ ap (λ y. reply zeros (given y)) (sym u))
told_so zeros told back x (Err d, e) = (Err d, e)

-- ---- judging
pub judge_told : (f : Format) (b sb : List ℕ) (r : JudgedNumbers) → in_four r ≡ four_numbers (judge f b sb)
    → (j : Result Judged Refusal) × ((judged j ≡ in_numbers (judge f b sb)) × (in_four r ≡ judged_numbers j))
judge_told f b sb r = let n = judge_named f b sb in tells (judge f b sb) n.0 n.1 r

pub judge_with_told : (f : Format) (b sb last next : List ℕ) (r : JudgedNumbers) → in_four r ≡ four_numbers (judge_with f b sb last next)
    → (j : Result Judged Refusal) × ((judged j ≡ in_numbers (judge_with f b sb last next)) × (in_four r ≡ judged_numbers j))
judge_with_told f b sb last next r = let n = judge_with_named f b sb last next in tells (judge_with f b sb last next) n.0 n.1 r
