-- What a call has found out when it refuses nothing. Assumes nothing.
use Prim.Native.Nat.{ℕ, zero, suc, ◌+◌, ◌*◌, ◌/◌, ◌%◌, ◌≤◌, ◌<◌}
use native.Mathlib.Nat.{div-add-mod', div-lt_iff_lt-mul, zero-mul}
use native.Mathlib.Omega.{arith}
use mathlib.Core.Path.{◌≡◌, refl, sym, ◌∙◌, ap, ap₂, subst}
use mathlib.Core.Logic.{◌⊎◌, inl, inr}
use mathlib.Core.Bool.{Bool, true, false, not, ◌||◌, true≢false}
use mathlib.Core.List.{List, []}
use mathlib.Core.Option.{Option, none, some}
use lib.Dec.{eqb, ltb}
use lib.ListN.{length, get_or, length-map}
use borrow.Author.Tests.{ltb-false, le-ltb, eqb-false, eqb-true, eq-eqb, not-false}
use Rattle.paper.specs.Lists.{place, same}
use Rattle.paper.specs.Format.{Format, most_rows, most_types, most_entries, row_bytes, entry_bytes, whole, records}
use Rattle.paper.specs.Tables.{Row, rows, row_of, bad_row, row_types, types}
use Rattle.paper.specs.Closeness.{nodes}
use Rattle.paper.specs.Shapes.{Entry, entries, entry_of, bad_entry, shape_over}
use Rattle.paper.specs.NewTable.{Line, lines, new_table, source_list}
use Rattle.paper.specs.Calls.{Answer, refused, given, ◌>>=◌, refuse, refuse_at, reply, Work, type_too_many, type_missing, tests1_3, tests1_4, tests5_6, tests5_7, tests1_7, test8, examine, room_in, reshaping, reshape_rows, reshape}

-- ---- answers
module _ {A B : Type 0} where
  pub refused-given : (k p : ℕ) (v : A) → refused k p ≡ given v → B
  refused-given k p v h = let z : ◌≡◌ {A = ℕ} 0 1 = cc in let w : ⊥ = omega arith in absurd w

  pub bind_given : (a : Answer A) (next : A → Answer B) (v : B) → (a >>= next) ≡ given v → (x : A) × (a ≡ given x) × (next x ≡ given v)
  bind_given (refused k p) next v h = let z : ◌≡◌ {A = ℕ} 0 1 = cc in let w : ⊥ = omega arith in absurd w
  bind_given (given x) next v h = (x, refl, h)

pub refuse-given : (k : ℕ) (b : Bool) (u : Unit {0}) → refuse k b ≡ given u → b ≡ false
refuse-given k true u h = refused-given k 0 u h
refuse-given k false u h = refl

pub refuse_at-given : (k : ℕ) (o : Option ℕ) (u : Unit {0}) → refuse_at k o ≡ given u → o ≡ none
refuse_at-given k none u h = refl
refuse_at-given k (some p) u h = refused-given k p u h

pub given-same : {A : Type 0} (x y : A) → given x ≡ given y → x ≡ y
given-same x y h = cc

-- what holds of a refusal's number
abbrev pub Told : {A : Type 0} → (ℕ → Type 0) → Answer A → Type 0
Told P (refused k p) = P k
Told P (given v) = Unit

-- it is past m
abbrev pub Past : {A : Type 0} → ℕ → Answer A → Type 0
Past m a = Told (λ k. m < k) a

module _ (P : ℕ → Type 0) where
  pub bind_told : {A B : Type 0} (a : Answer A) (next : A → Answer B) → Told P a → ((x : A) → a ≡ given x → Told P (next x)) → Told P (a >>= next)
  bind_told (refused k p) next n after = n
  bind_told (given x) next n after = after x refl

  pub refuse-told : (k : ℕ) (b : Bool) → P k → Told P (refuse k b)
  refuse-told k true h = h
  refuse-told k false h = tt

  pub refuse_at-told : (k : ℕ) (o : Option ℕ) → P k → Told P (refuse_at k o)
  refuse_at-told k none h = tt
  refuse_at-told k (some p) h = h

pub bind_past : {A B : Type 0} (m : ℕ) (a : Answer A) (next : A → Answer B) → Past m a → ((x : A) → Past m (next x)) → Past m (a >>= next)
bind_past m a next n after = bind_told (λ k. m < k) a next n (λ x _. after x)

reply_past : {A : Type 0} (m : ℕ) (zeros : A) (a : Answer A) → Past m a → ((reply zeros a).number ≡ 0) ⊎ (m < (reply zeros a).number)
reply_past m zeros (refused k p) n = inr n
reply_past m zeros (given v) n = inl refl

-- an answer whose reply has number 0 is given
pub reply-given : {A : Type 0} (zeros : A) (a : Answer A) → Past 0 a → (reply zeros a).number ≡ 0 → (v : A) × (a ≡ given v) × ((reply zeros a).rest ≡ v)
reply-given zeros (refused k p) n e = let w : ⊥ = omega (arith, e, n) in absurd w
reply-given zeros (given v) n e = (v, refl, refl)

-- what holds of the zeros, and of all that is given, holds of what a reply adds
pub reply-rest : {A : Type 0} (P : A → Type 0) (zeros : A) (a : Answer A) → P zeros → ((v : A) → a ≡ given v → P v) → P (reply zeros a).rest
reply-rest P zeros (refused k p) z h = z
reply-rest P zeros (given v) z h = h v refl

-- ---- 1 to 3
pub passed1_3 : (f : Format) (b : List ℕ) (rs : List Row) → tests1_3 f b ≡ given rs
    → (rows f b ≡ rs) × (bad_row f rs ≡ none) × (length b ≤ most_rows * row_bytes f)
unfolding tests1_3
passed1_3 f b rs h =
    let (u, h₁, k₁) = bind_given (refuse 1 (ltb (most_rows * row_bytes f) (length b))) _ rs h in
    let (v, h₂, k₂) = bind_given (refuse 2 (not (eqb (length b % row_bytes f) 0))) _ rs k₁ in
    let (x, h₃, k₃) = bind_given (refuse_at 3 (bad_row f (rows f b))) _ rs k₂ in
    let e = given-same (rows f b) rs k₃ in (
      e,
      subst (λ r. bad_row f r ≡ none) e (refuse_at-given 3 (bad_row f (rows f b)) x h₃),
      ltb-false (most_rows * row_bytes f) (length b) (refuse-given 1 (ltb (most_rows * row_bytes f) (length b)) u h₁),
    )

-- a table past 1 to 3 is one of whole records
pub whole1_3 : (f : Format) (b : List ℕ) (rs : List Row) → tests1_3 f b ≡ given rs → length b % row_bytes f ≡ 0
unfolding tests1_3
whole1_3 f b rs h =
    let even = eqb (length b % row_bytes f) 0 in
    let (u, h₁, k₁) = bind_given (refuse 1 (ltb (most_rows * row_bytes f) (length b))) _ rs h in
    let (v, h₂, k₂) = bind_given (refuse 2 (not even)) _ rs k₁ in
    eqb-true (length b % row_bytes f) 0 (not-false even (refuse-given 2 (not even) v h₂))

-- what passes each of 1 to 3
pub pass1_3 : (f : Format) (b : List ℕ) → length b ≤ most_rows * row_bytes f → length b % row_bytes f ≡ 0 → bad_row f (rows f b) ≡ none
    → tests1_3 f b ≡ given (rows f b)
unfolding tests1_3
pass1_3 f b short whole-rows sound =
    let tested : Bool → Bool → Option ℕ → Answer (List Row) =
    λ long whole bad. refuse 1 long >>= (λ _. refuse 2 (not whole) >>= (λ _. refuse_at 3 bad >>= (λ _. given (rows f b)))) in
    ap₂ (λ x y. tested x y (bad_row f (rows f b))) (le-ltb (most_rows * row_bytes f) (length b) short) (eq-eqb (length b % row_bytes f) 0 whole-rows)
    ∙ ap (tested false true) sound

-- what passes 1 to 3 is accepted, with the count of its rows
pub examine-given : (f : Format) (b : List ℕ) → tests1_3 f b ≡ given (rows f b) → examine f b ≡ record { number = 0; place = 0; rest = length (rows f b) }
unfolding examine
examine-given f b passes = ap (λ (a : Answer (List Row)). reply 0 (a >>= (λ rs. given (length rs)))) passes

-- ---- 1 to 4
-- what passes 1 to 3 and has at most 64 types
pub pass1_4 : (f : Format) (b : List ℕ) → tests1_3 f b ≡ given (rows f b) → length (types (rows f b)) ≤ most_types → tests1_4 f b ≡ given (rows f b)
unfolding tests1_4 type_too_many
pass1_4 f b passes few =
    let place-of-65th = place (same (get_or (types (rows f b)) most_types [])) (row_types (rows f b)) in
    ap (λ (a : Answer (List Row)). a >>= (λ rs. refuse_at 4 (type_too_many rs) >>= (λ _. given rs))) passes
    ∙ ap (λ over. refuse_at 4 (elim over as (λ _. Option ℕ) [ true ↦ some place-of-65th | false ↦ none ]) >>= (λ _. given (rows f b)))
    (le-ltb most_types (length (types (rows f b))) few)

pub passed1_4 : (f : Format) (b : List ℕ) (rs : List Row) → tests1_4 f b ≡ given rs → tests1_3 f b ≡ given rs
unfolding tests1_4
passed1_4 f b rs h =
    let (x, h₁, k₁) = bind_given (tests1_3 f b) _ rs h in
    let (u, h₂, k₂) = bind_given (refuse_at 4 (type_too_many x)) _ rs k₁ in
    h₁ ∙ k₂

-- ---- 5 and 6
pub length-records : (w n : ℕ) (b : List ℕ) → length (records w n b) ≡ n
length-records w zero b = refl
length-records w (suc n) b = ap suc (length-records w n (lib.ListN.drop w b))

pub count_entries : (f : Format) (b : List ℕ) → length (entries f b) ≡ length b / entry_bytes f
unfolding entries
count_entries f b =
    length-map (records (entry_bytes f) (whole (entry_bytes f) b) b) (entry_of f) ∙ length-records (entry_bytes f) (whole (entry_bytes f) b) b

pub count-rows : (f : Format) (b : List ℕ) → length (rows f b) ≡ length b / row_bytes f
unfolding rows
count-rows f b = length-map (records (row_bytes f) (whole (row_bytes f) b) b) (row_of f) ∙ length-records (row_bytes f) (whole (row_bytes f) b) b

-- the bytes of n records of w hold at most n
few_records : (w n : ℕ) (b : List ℕ) → 0 < w → length b ≤ n * w → length b / w ≤ n
few_records w n b pos le =
    let lt : length b < suc n * w = omega (arith, native.Mathlib.Nat.suc-mul n w) in
    omega (arith, (div-lt_iff_lt-mul {k = w} {x = length b} {y = suc n} pos).1 lt)

-- a table past 1 to 3 has at most 1,024 rows
pub few_rows : (f : Format) (b : List ℕ) → length b ≤ most_rows * row_bytes f → length (rows f b) ≤ most_rows
few_rows f b le = omega (arith, count-rows f b, few_records (row_bytes f) most_rows b (omega arith) le)

-- a shape past 5 has some whole entries and no more than 16
pub passed5 : (f : Format) (b : List ℕ) (es : List Entry) → tests5_6 f b ≡ given es
    → (length b ≡ 0 → ⊥) × (length b ≤ most_entries * entry_bytes f) × (length b % entry_bytes f ≡ 0)
unfolding tests5_6
passed5 f b es h =
    let lengths = eqb (length b) 0 || ltb (most_entries * entry_bytes f) (length b) || not (eqb (length b % entry_bytes f) 0) in
    let (u, h₁, k₁) = bind_given (refuse 5 lengths) _ es h in
    let passed = refuse-given 5 lengths u h₁ in
    let (z, over, m) = neither (eqb (length b) 0) (ltb (most_entries * entry_bytes f) (length b)) (eqb (length b % entry_bytes f) 0) passed in
    (eqb-false (length b) 0 z, ltb-false (most_entries * entry_bytes f) (length b) over, eqb-true (length b % entry_bytes f) 0 m)
  where
    neither : (x y z : Bool) → x || y || not z ≡ false → (x ≡ false) × (y ≡ false) × (z ≡ true)
    neither false false true e = (refl, refl, refl)
    neither false false false e = absurd (true≢false e)
    neither false true z e = absurd (true≢false e)
    neither true y z e = absurd (true≢false e)

pub passed5_6 : (f : Format) (b : List ℕ) (es : List Entry) → tests5_6 f b ≡ given es
    → (entries f b ≡ es) × (bad_entry f es ≡ none) × (0 < length es) × (length es ≤ most_entries)
unfolding tests5_6
passed5_6 f b es h =
    let lengths = eqb (length b) 0 || ltb (most_entries * entry_bytes f) (length b) || not (eqb (length b % entry_bytes f) 0) in
    let (u, h₁, k₁) = bind_given (refuse 5 lengths) _ es h in
    let (v, h₂, k₂) = bind_given (refuse_at 6 (bad_entry f (entries f b))) _ es k₁ in
    let e = given-same (entries f b) es k₂ in
    let (filled, short, even) = passed5 f b es h in (
      e,
      subst (λ r. bad_entry f r ≡ none) e (refuse_at-given 6 (bad_entry f (entries f b)) v h₂),
      subst (λ r. 0 < length r) e (some-entry filled even),
      omega (arith, count_entries f b, ap length e, few_records (entry_bytes f) most_entries b (omega arith) short),
    )
  where
    some-entry : (length b ≡ 0 → ⊥) → length b % entry_bytes f ≡ 0 → 0 < length (entries f b)
    some-entry ne e = go (length b / entry_bytes f) refl
      where
        go : (n : ℕ) → length b / entry_bytes f ≡ n → 0 < length (entries f b)
        go zero q =
            absurd (ne (sym (div-add-mod' (length b) (entry_bytes f)) ∙ ap₂ (λ x y. x * entry_bytes f + y) q e
            ∙ (ap (λ z. z + 0) (zero-mul (entry_bytes f)))))
        go (suc n) q = omega (arith, count_entries f b, q)

-- ---- 1 to 7
pub passed1_7 : (f : Format) (b sb : List ℕ) (w : Work) → tests1_7 f b sb ≡ given w
    → let rs = rows f b in let es = entries f sb in
    (tests1_3 f b ≡ given rs) × (tests5_6 f sb ≡ given es)
    × (w ≡ record { rows = rs; nodes = nodes rs; shape = shape_over (types rs) es })
unfolding tests5_7
passed1_7 f b sb w h =
    let (rs, h₁, k₁) = bind_given (tests1_4 f b) _ w h in
    let (es, h₂, k₂) = bind_given (tests5_6 f sb) _ w k₁ in
    let (u, h₃, k₃) = bind_given (refuse_at 7 (type_missing rs es)) _ w k₂ in
    let a = passed1_4 f b rs h₁ in
    let er = sym (passed1_3 f b rs a).0 in
    let ee = sym (passed5_6 f sb es h₂).0 in
    let same = given-same (record { rows = rs; nodes = nodes rs; shape = shape_over (types rs) es }) w k₃ in (
      subst (λ r. tests1_3 f b ≡ given r) er a,
      subst (λ x. tests5_6 f sb ≡ given x) ee h₂,
      sym same ∙ ap₂ {C = Work} (λ r x. record { rows = r; nodes = nodes r; shape = shape_over (types r) x }) er ee,
    )

pub told1_3 : (P : ℕ → Type 0) → P 1 → P 2 → P 3 → (f : Format) (b : List ℕ) → Told P (tests1_3 f b)
unfolding tests1_3
told1_3 P one two three f b =
    let long = ltb (most_rows * row_bytes f) (length b) in
    let ragged = not (eqb (length b % row_bytes f) 0) in
    bind_told P (refuse 1 long) _ (refuse-told P 1 long one) (λ _ _.
    bind_told P (refuse 2 ragged) _ (refuse-told P 2 ragged two) (λ _ _.
    bind_told P (refuse_at 3 (bad_row f (rows f b))) _ (refuse_at-told P 3 (bad_row f (rows f b)) three) (λ _ _. tt)))

pub past1_3 : (f : Format) (b : List ℕ) → Past 0 (tests1_3 f b)
past1_3 = told1_3 (λ k. 0 < k) (omega arith) (omega arith) (omega arith)

pub told5_6 : (P : ℕ → Type 0) → P 5 → P 6 → (f : Format) (b : List ℕ) → Told P (tests5_6 f b)
unfolding tests5_6
told5_6 P five six f b =
    let lengths = eqb (length b) 0 || ltb (most_entries * entry_bytes f) (length b) || not (eqb (length b % entry_bytes f) 0) in
    bind_told P (refuse 5 lengths) _ (refuse-told P 5 lengths five) (λ _ _.
    bind_told P (refuse_at 6 (bad_entry f (entries f b))) _ (refuse_at-told P 6 (bad_entry f (entries f b)) six) (λ _ _. tt))

pub past1_4 : (f : Format) (b : List ℕ) → Past 0 (tests1_4 f b)
unfolding tests1_4
past1_4 f b =
    bind_past 0 (tests1_3 f b) _ (past1_3 f b) (λ rs.
    bind_past 0 (refuse_at 4 (type_too_many rs)) _ (refuse_at-told (λ k. 0 < k) 4 (type_too_many rs) (omega arith)) (λ _. tt))

-- ---- from 5 on the numbers are past 4, so that they are past m wherever those of 1 to 4 are
module _ (m : ℕ) (le : m ≤ 4) (f : Format) where
  past8 : (w : Work) (room : ℕ) → Past m (test8 f w room)
  unfolding test8
  past8 w room =
      let over = ltb room (length (lines w.nodes w.shape f.levels)) in
      bind_past m (refuse 8 over) _ (refuse-told (λ k. m < k) 8 over (omega arith)) (λ _. tt)

  module _ (b : List ℕ) (earlier : Past m (tests1_4 f b)) (sb : List ℕ) where
    pub past1_7 : Past m (tests1_7 f b sb)
    unfolding tests5_7
    past1_7 =
        bind_past m (tests1_4 f b) _ earlier (λ rs.
        bind_past m (tests5_6 f sb) _ (told5_6 (λ k. m < k) (omega arith) (omega arith) f sb) (λ es.
        bind_past m (refuse_at 7 (type_missing rs es)) _ (refuse_at-told (λ k. m < k) 7 (type_missing rs es) (omega arith)) (λ _. tt)))

    past_reshaping : (room : ℕ) → Past m (reshaping f (tests1_4 f b) sb room)
    unfolding reshaping
    past_reshaping room = bind_past m (tests1_7 f b sb) _ past1_7 (λ w. bind_past m (test8 f w room) _ (past8 w room) (λ _. tt))

-- ---- 8
pub passed8 : (f : Format) (w : Work) (room : ℕ) (ls : List Line) → test8 f w room ≡ given ls → (lines w.nodes w.shape f.levels ≡ ls) × (length ls ≤ room)
unfolding test8
passed8 f w room ls h =
    let l = lines w.nodes w.shape f.levels in
    let (u, h₁, k₁) = bind_given (refuse 8 (ltb room (length l))) _ ls h in
    let e = given-same l ls k₁ in
    (e, subst (λ z. length z ≤ room) e (ltb-false room (length l) (refuse-given 8 (ltb room (length l)) u h₁)))

-- ---- reshaping
pub passed_reshaping : (f : Format) (b sb : List ℕ) (room : ℕ) (x : List ℕ × List ℕ) → reshaping f (tests1_4 f b) sb room ≡ given x
    → (w : Work) × (ls : List Line) × (tests1_7 f b sb ≡ given w) × (test8 f w room ≡ given ls)
    × (◌≡◌ {A = List ℕ × List ℕ} x (new_table f w.shape w.rows ls, source_list ls))
unfolding reshaping
passed_reshaping f b sb room x h =
    let (w, h₁, k₁) = bind_given (tests1_7 f b sb) _ x h in
    let (ls, h₂, k₂) = bind_given (test8 f w room) _ x k₁ in
    (w, ls, h₁, h₂, sym (given-same (new_table f w.shape w.rows ls, source_list ls) x k₂))

pub numbered_reshaping : (f : Format) (b sb : List ℕ) (room : ℕ) → Past 0 (reshaping f (tests1_4 f b) sb room)
numbered_reshaping f b sb room = past_reshaping 0 (omega arith) f b (past1_4 f b) sb room

-- A table that passes 1 to 4 is reshaped, or refused by a number past 4.
pub reshape_past4 : (f : Format) (b : List ℕ) → tests1_4 f b ≡ given (rows f b) → (sb table sources : List ℕ)
    → let number = (reshape f b sb table sources).reply.number in (number ≡ 0) ⊎ (4 < number)
unfolding reshape reshape_rows
reshape_past4 f b passes sb table sources =
    let a = reshaping f (tests1_4 f b) sb (room_in f table sources) in
    let passed : Past 4 (tests1_4 f b) = subst (λ a. Past 4 a) (sym passes) tt in
    let count : List ℕ × List ℕ → Answer ℕ = λ x. given (length x.1) in
    reply_past 4 0 (a >>= count) (bind_past 4 a count (past_reshaping 4 (omega arith) f b passed sb (room_in f table sources)) (λ _. tt))
