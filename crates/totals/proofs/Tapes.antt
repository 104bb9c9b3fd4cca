-- A tape accepted by itself: how large its sums are, and that together they are the values of all rows of the type. Assumes nothing.
use Prim.Native.Nat.{ℕ, ◌≤◌, ◌<◌}
use native.Mathlib.Nat.{mul-le-mul_right}
use native.Mathlib.Omega.{arith}
use mathlib.Core.Path.{◌≡◌, refl, sym, ◌∙◌, ap, ap₂}
use mathlib.Core.Bool.{Bool, true, false, not}
use mathlib.Core.List.{List, [], ◌∷◌}
use mathlib.Core.Option.{none}
use lib.Dec.{leb}
use lib.ListN.{length}
use lib.IntN.{ℤ, ◌+ℤ◌}
use borrow.Author.Tests.{leb-false}
use Rattle.paper.specs.Lists.{Has, keep}
use Rattle.paper.specs.Format.{most_rows, most_lines}
use Rattle.paper.specs.Closeness.{Node}
use Rattle.paper.specs.NewTable.{Line}
use Rattle.paper.specs.Figures.{entry_lines, appears}
use Rattle.paper.specs.Calls.{Answer, refused, given, refuse, refuse_at, reply, Work, tests1_7, test8}
use Rattle.totals.specs.Sums.{sum_of, within}
use Rattle.totals.specs.Tape.{Tape, most_value, value_of, type_rows, out_of_range, shown_rows, unshown_rows, first_of}
use Rattle.totals.specs.Tape.{Sums, no_sums, sums_of, sum_tape, sum_of_type}
use Rattle.totals.specs.Total.{most_sum}
use Rattle.totals.specs.History.{shown_in, unshown_in}
use Rattle.totals.proofs.Integers.{within_le, le_within}
use Rattle.totals.proofs.Lists.{keep-has, has-keep, length-keep}
use Rattle.totals.proofs.Sums.{sum_parts, sum_size}
use Rattle.totals.proofs.Refusals.{Numbered, numbered, is_numbered}
use Rattle.totals.proofs.Passed.{Passed, passed, bind_given, given-same, refuse-given, refuse_at-given}
use Rattle.totals.proofs.Reshaped.{passed8}
use Rattle.totals.proofs.Shown.{type_rows_few, shown_of_type, sum_of_type_lem}

-- What an accepted tape has passed, and its sums, over what is worked on and its lines.
pub record Accepted (t : Tape) (w : Work) (ls : List Line) : Type 0 where
  pub passes1_7 : tests1_7 t.format t.table t.shape ≡ given w
  pub passes8 : test8 t.format w most_lines ≡ given ls
  pub entry_in : t.entry < length w.shape.ways
  pub none_out : out_of_range w t.entry ≡ []
  pub shown-is : shown_in t ≡ sum_of (value_of w.rows) (shown_rows w t.entry ls)
  pub unshown-is : unshown_in t ≡ sum_of (value_of w.rows) (unshown_rows w t.entry ls)

-- where there is no first row there is none
none_first : (rs : List Node) → first_of rs ≡ none → rs ≡ []
none_first [] e = refl
none_first (r ∷ rs) e = let z : ◌≡◌ {A = ℕ} 0 1 = cc in let w : ⊥ = omega arith in absurd w

-- number 0 says that sums are given
given_sums : (t : Tape) → (sum_tape t).number ≡ 0 → (s : Sums) × (sums_of t ≡ given s) × ((sum_tape t).rest ≡ s)
unfolding sum_tape
given_sums t = go (sums_of t) (numbered t)
  where
    go : (a : Answer Sums) → Numbered a → (reply no_sums a).number ≡ 0 → (s : Sums) × (a ≡ given s) × ((reply no_sums a).rest ≡ s)
    go (refused k p) n e = let z : ⊥ = omega (arith, is_numbered k n) in absurd z
    go (given s) n e = (s, refl, refl)

-- A tape accepted by itself has passed each test, and its sums are those of the rows shown and of those not shown.
pub accepted-tape : (t : Tape) → (sum_tape t).number ≡ 0 → (w : Work) × (ls : List Line) × Accepted t w ls
unfolding sums_of
accepted-tape t is0 =
    let (s, gives, is-rest) = given_sums t is0 in
    let (w, past, h₁) = bind_given (tests1_7 t.format t.table t.shape) _ s gives in
    let (ls, past8, h₂) = bind_given (test8 t.format w most_lines) _ s h₁ in
    let no_entry = leb (length w.shape.ways) t.entry in
    let (u, past16, h₃) = bind_given (refuse 16 no_entry) _ s h₂ in
    let first_out = first_of (out_of_range w t.entry) in
    let (v, past17, h₄) = bind_given (refuse_at 17 first_out) _ s h₃ in
    let sums : Sums = record {
      shown = sum_of (value_of w.rows) (shown_rows w t.entry ls);
      unshown = sum_of (value_of w.rows) (unshown_rows w t.entry ls);
    } in
    let are : (sum_tape t).rest ≡ sums = is-rest ∙ sym (given-same sums s h₄) in (
      w,
      ls,
      record {
        passes1_7 = past;
        passes8 = past8;
        entry_in = leb-false (length w.shape.ways) t.entry (refuse-given 16 no_entry u past16);
        none_out = none_first (out_of_range w t.entry) (refuse_at-given 17 first_out v past17);
        shown-is = ap (λ (x : Sums). x.shown) are;
        unshown-is = ap (λ (x : Sums). x.unshown) are;
      },
    )

module _ (t : Tape) (w : Work) (ls : List Line) (a : Accepted t w ls) where
  -- the row's value, the rows of the entry's type, and whether the entry's lines show a row
  abbrev value : Node → ℤ
  value = value_of w.rows

  abbrev of_type : List Node
  of_type = type_rows w t.entry

  abbrev shows : Node → Bool
  shows = appears (entry_lines ls t.entry)

  past : Passed t.format t.table t.shape w
  past = passed t.format t.table t.shape w a.passes1_7

  -- each value of a row of the type is in its range
  pub value_within : (r : Node) → Has r of_type → within most_value (value r) ≡ true
  unfolding out_of_range
  value_within r h = go (within most_value (value r)) refl
    where
      out : Node → Bool
      out q = not (within most_value (value q))

      go : (b : Bool) → within most_value (value r) ≡ b → b ≡ true
      go true e = refl
      go false e = absurd (rw a.none_out at (has-keep out r of_type h (ap not e)))

  -- so those that pass some test add up to no more than 1,024 of the largest
  kept_within : (p : Node → Bool) → within most_sum (sum_of value (keep p of_type)) ≡ true
  kept_within p =
      let some = keep p of_type in
      let small = sum_size value most_value some (λ r h. within_le most_value (value r) (value_within r (keep-has p r of_type h).0)) in
      let few : length some ≤ most_rows = omega (arith, length-keep p of_type, type_rows_few t.format t.table t.shape w past t.entry) in
      le_within most_sum (sum_of value some) (omega (arith, small, mul-le-mul_right {m = length some} {n = most_rows} most_value few))

  -- both sums, as parts of the rows of the type
  shown-parts : shown_in t ≡ sum_of value (keep shows of_type)
  shown-parts =
      a.shown-is
      ∙ ap (sum_of value)
      (shown_of_type t.format t.table t.shape w past t.entry ls (passed8 t.format w most_lines ls a.passes8).0)

  unshown-parts : unshown_in t ≡ sum_of value (keep (λ r. not (shows r)) of_type)
  unfolding unshown_rows
  unshown-parts = a.unshown-is

  sums_within : (within most_sum (shown_in t) ≡ true) × (within most_sum (unshown_in t) ≡ true)
  sums_within = (ap (within most_sum) shown-parts ∙ kept_within shows, ap (within most_sum) unshown-parts ∙ kept_within (λ r. not (shows r)))

  sums_together : shown_in t +ℤ unshown_in t ≡ sum_of_type t
  sums_together = ap₂ (λ x y. x +ℤ y) shown-parts unshown-parts ∙ sum_parts value shows of_type ∙ sym (sum_of_type_lem t w past)

-- Both sums of an accepted tape lie within ±1.024 × 10^15.
pub tape-within : (t : Tape) → (sum_tape t).number ≡ 0 → (within most_sum (shown_in t) ≡ true) × (within most_sum (unshown_in t) ≡ true)
tape-within t is0 = let (w, ls, a) = accepted-tape t is0 in sums_within t w ls a

-- Shown and unshown together are the values of all rows of the entry's type.
pub tape-together : (t : Tape) → (sum_tape t).number ≡ 0 → shown_in t +ℤ unshown_in t ≡ sum_of_type t
tape-together t is0 = let (w, ls, a) = accepted-tape t is0 in sums_together t w ls a
