-- What a table and a shape have passed where the tests 1 to 7 give what is worked on, and what passes these tests. Assumes nothing.
use Prim.Native.Nat.{ℕ, zero, suc, ◌*◌, ◌/◌, ◌%◌, ◌≤◌, ◌<◌, pred}
use native.Mathlib.Nat.{div-lt_iff_lt-mul, suc-mul}
use native.Mathlib.Omega.{arith}
use mathlib.Core.Path.{◌≡◌, refl, sym, ◌∙◌, ap, ap₂, subst}
use mathlib.Core.Bool.{Bool, true, false, not, ◌||◌, true≢false}
use mathlib.Core.List.{List, [], ◌∷◌, ◌++◌}
use mathlib.Core.Option.{Option, none, some}
use lib.Dec.{eqb, ltb}
use lib.ListN.{length, take, drop, length-map}
use borrow.Author.Tests.{ltb-false, le-ltb, eq-eqb, ne_eqb}
use Rattle.paper.specs.Lists.{ways}
use Rattle.paper.specs.Format.{Format, most_rows, most_entries, row_bytes, entry_bytes, whole, records}
use Rattle.paper.specs.Tables.{Row, rows, row_of, bad_row, types}
use Rattle.paper.specs.Closeness.{nodes}
use Rattle.paper.specs.Shapes.{Entry, entries, entry_of, bad_entry, steps, shape_over}
use Rattle.paper.specs.Calls.{Answer, refused, given, ◌>>=◌, refuse, refuse_at, Work, type_too_many, type_missing}
use Rattle.paper.specs.Calls.{tests1_3, tests1_4, tests5_6, tests5_7, tests1_7}

-- ---- answers
refused-given : {A B : Type 0} (k p : ℕ) (v : A) → refused k p ≡ given v → B
refused-given k p v h = let z : ◌≡◌ {A = ℕ} 0 1 = cc in let w : ⊥ = omega arith in absurd w

pub given-same : {A : Type 0} (x y : A) → given x ≡ given y → x ≡ y
given-same x y h = cc

pub bind_given : {A B : Type 0} (a : Answer A) (next : A → Answer B) (v : B) → (a >>= next) ≡ given v → (x : A) × (a ≡ given x) × (next x ≡ given v)
bind_given (refused k p) next v h = refused-given k p v h
bind_given (given x) next v h = (x, refl, h)

pub refuse-given : (k : ℕ) (b : Bool) (u : Unit {0}) → refuse k b ≡ given u → b ≡ false
refuse-given k true u h = refused-given k 0 u h
refuse-given k false u h = refl

pub refuse_at-given : (k : ℕ) (o : Option ℕ) (u : Unit {0}) → refuse_at k o ≡ given u → o ≡ none
refuse_at-given k none u h = refl
refuse_at-given k (some p) u h = refused-given k p u h

-- ---- how many records there are
pub length-records : (w n : ℕ) (b : List ℕ) → length (records w n b) ≡ n
length-records w zero b = refl
length-records w (suc n) b = ap suc (length-records w n (drop w b))

pub count-rows : (f : Format) (b : List ℕ) → length (rows f b) ≡ length b / row_bytes f
unfolding rows
count-rows f b = length-map (records (row_bytes f) (whole (row_bytes f) b) b) (row_of f) ∙ length-records (row_bytes f) (whole (row_bytes f) b) b

pub count_entries : (f : Format) (b : List ℕ) → length (entries f b) ≡ length b / entry_bytes f
unfolding entries
count_entries f b =
    length-map (records (entry_bytes f) (whole (entry_bytes f) b) b) (entry_of f) ∙ length-records (entry_bytes f) (whole (entry_bytes f) b) b

length-ways : (w : List ℕ) (i : ℕ) (es : List Entry) → length (ways w (steps i es)) ≡ length es
length-ways w i [] = refl
length-ways w i (e ∷ es) = ap suc (length-ways (take (pred e.level) w ++ (i ∷ [])) (suc i) es)

count-ways : (ts : List (List ℕ)) (es : List Entry) → length (shape_over ts es).ways ≡ length es
unfolding shape_over
count-ways ts es = length-ways [] 0 es

-- ---- 1 to 4
passed1_3 : (f : Format) (b : List ℕ) (rs : List Row) → tests1_3 f b ≡ given rs
    → (rows f b ≡ rs) × (length b ≤ most_rows * row_bytes f)
unfolding tests1_3
passed1_3 f b rs h =
    let even = eqb (length b % row_bytes f) 0 in
    let (u, h₁, k₁) = bind_given (refuse 1 (ltb (most_rows * row_bytes f) (length b))) _ rs h in
    let (v, h₂, k₂) = bind_given (refuse 2 (not even)) _ rs k₁ in
    let (x, h₃, k₃) = bind_given (refuse_at 3 (bad_row f (rows f b))) _ rs k₂ in (
      given-same (rows f b) rs k₃,
      ltb-false (most_rows * row_bytes f) (length b) (refuse-given 1 (ltb (most_rows * row_bytes f) (length b)) u h₁),
    )

passed1_4 : (f : Format) (b : List ℕ) (rs : List Row) → tests1_4 f b ≡ given rs → tests1_3 f b ≡ given rs
unfolding tests1_4
passed1_4 f b rs h =
    let (x, h₁, k₁) = bind_given (tests1_3 f b) _ rs h in
    let (u, h₂, k₂) = bind_given (refuse_at 4 (type_too_many x)) _ rs k₁ in
    h₁ ∙ k₂

-- the bytes of at most n records hold no more of them
few : (w n l : ℕ) → 0 < w → l ≤ n * w → l / w ≤ n
few w n l some_bytes le =
    let lt : l < suc n * w = omega (arith, suc-mul n w) in
    omega (arith, (div-lt_iff_lt-mul {k = w} {x = l} {y = suc n} some_bytes).1 lt)

-- ---- 5 and 6
passed5_6 : (f : Format) (sb : List ℕ) (es : List Entry) → tests5_6 f sb ≡ given es
    → (entries f sb ≡ es) × (bad_entry f (entries f sb) ≡ none) × (length sb ≤ most_entries * entry_bytes f)
unfolding tests5_6
passed5_6 f sb es h =
    let empty = eqb (length sb) 0 in
    let long = ltb (most_entries * entry_bytes f) (length sb) in
    let even = eqb (length sb % entry_bytes f) 0 in
    let (u, h₁, k₁) = bind_given (refuse 5 (empty || long || not even)) _ es h in
    let (v, h₂, k₂) = bind_given (refuse_at 6 (bad_entry f (entries f sb))) _ es k₁ in (
      given-same (entries f sb) es k₂,
      refuse_at-given 6 (bad_entry f (entries f sb)) v h₂,
      ltb-false (most_entries * entry_bytes f) (length sb) (second empty long even (refuse-given 5 (empty || long || not even) u h₁)),
    )
  where
    second : (x y z : Bool) → x || y || not z ≡ false → y ≡ false
    second x false z e = refl
    second true true z e = absurd (true≢false e)
    second false true z e = absurd (true≢false e)

-- what passes each of 5 and 6
pub pass5_6 : (f : Format) (sb : List ℕ) → 0 < length sb → length sb ≤ most_entries * entry_bytes f → length sb % entry_bytes f ≡ 0
    → bad_entry f (entries f sb) ≡ none → tests5_6 f sb ≡ given (entries f sb)
unfolding tests5_6
pass5_6 f sb some_bytes short whole-entries sound =
    let even = eq-eqb (length sb % entry_bytes f) 0 whole-entries in
    rw (ne_eqb (length sb) 0 (λ e. omega arith), le-ltb (most_entries * entry_bytes f) (length sb) short, even, sound)

-- ---- 1 to 7
pub record Passed (f : Format) (b sb : List ℕ) (w : Work) : Type 0 where
  pub rows_are : w.rows ≡ rows f b
  pub nodes_are : w.nodes ≡ nodes w.rows
  pub shape_is : w.shape ≡ shape_over (types (rows f b)) (entries f sb)
  pub few_rows : length w.rows ≤ most_rows
  pub few_entries : length (entries f sb) ≤ most_entries
  -- each of the tests by itself
  pub read : tests1_4 f b ≡ given w.rows
  pub none_bad : bad_entry f (entries f sb) ≡ none
  pub none_missing : type_missing w.rows (entries f sb) ≡ none

pub passed : (f : Format) (b sb : List ℕ) (w : Work) → tests1_7 f b sb ≡ given w → Passed f b sb w
unfolding tests5_7
passed f b sb w h =
    let (rs, h₁, k₁) = bind_given (tests1_4 f b) _ w h in
    let (es, h₂, k₂) = bind_given (tests5_6 f sb) _ w k₁ in
    let (u, h₃, k₃) = bind_given (refuse_at 7 (type_missing rs es)) _ w k₂ in
    let (er, le) = passed1_3 f b rs (passed1_4 f b rs h₁) in
    let (ee, sound, short) = passed5_6 f sb es h₂ in
    let same = given-same (record { rows = rs; nodes = nodes rs; shape = shape_over (types rs) es }) w k₃ in
    subst (λ w. Passed f b sb w) same (record {
      rows_are = sym er;
      nodes_are = refl;
      shape_is = ap₂ (λ r x. shape_over (types r) x) (sym er) (sym ee);
      few_rows = omega (arith, ap length er, count-rows f b, few (row_bytes f) most_rows (length b) (omega arith) le);
      few_entries = omega (arith, count_entries f sb, few (entry_bytes f) most_entries (length sb) (omega arith) short);
      read = h₁;
      none_bad = sound;
      none_missing = ap (type_missing rs) ee ∙ refuse_at-given 7 (type_missing rs es) u h₃;
    })

-- what passes each of 1 to 7
pub pass1_7 : (f : Format) (b sb : List ℕ) (rs : List Row) (es : List Entry)
    → tests1_4 f b ≡ given rs → tests5_6 f sb ≡ given es → type_missing rs es ≡ none
    → tests1_7 f b sb ≡ given (record { rows = rs; nodes = nodes rs; shape = shape_over (types rs) es })
unfolding tests5_7
pass1_7 f b sb rs es read entries-read none_missing = rw (read, entries-read, none_missing)

-- there are as many ways as entries
pub count-shape : (f : Format) (b sb : List ℕ) (w : Work) → Passed f b sb w → length w.shape.ways ≡ length (entries f sb)
count-shape f b sb w p = ap (λ s. length s.ways) p.shape_is ∙ count-ways (types (rows f b)) (entries f sb)
