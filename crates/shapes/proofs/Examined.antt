-- Refusals 5 and 6 one by one, and what examining a shape tells of them. Assumes nothing.
use Prim.Native.Nat.{ℕ, suc, ◌*◌, ◌%◌, ◌≤◌, ◌<◌}
use native.Mathlib.Nat.{div-lt_iff_lt-mul, suc-mul}
use native.Mathlib.Omega.{arith}
use mathlib.Core.Path.{◌≡◌, refl, sym, ◌∙◌, ap, ap₂}
use mathlib.Core.Bool.{Bool, true, false, not, ◌||◌, true≢false}
use mathlib.Core.List.{List}
use mathlib.Core.Option.{Option, none, some}
use lib.Dec.{eqb, ltb}
use lib.ListN.{length}
use borrow.Author.Tests.{lt-ltb, le-ltb, ltb-false, eq-eqb, ne_eqb}
use Rattle.paper.specs.Format.{Format, most_entries, entry_bytes, whole}
use Rattle.paper.specs.Shapes.{Entry, entries, bad_entry}
use Rattle.paper.specs.Calls.{Answer, refused, given, ◌>>=◌, refuse, refuse_at, Reply, reply, tests5_6}
use Rattle.paper.proofs.Lists.{or_left, or_right}
use Rattle.paper.proofs.Calls.{count_entries}
use Rattle.tables.specs.Place.{place_of}
use Rattle.std.specs.Prelude.{Ok, Err}
use Rattle.paper.specs.Refusals.{refusal_number, refusal_place}
use Rattle.paper.specs.declared.refusal.Refusal.{Refusal}
use Rattle.paper.proofs.Refusals.{numbered}
use Rattle.shapes.specs.Tests.{shape_reply, shape_examined}

-- ---- a place among n
pub place-some : (r n : ℕ) → r < n → place_of r n ≡ some r
unfolding place_of
place-some r n lt = rw (lt-ltb r n lt, place_of) refl

pub place_none : (r n : ℕ) → n ≤ r → place_of r n ≡ none
unfolding place_of
place_none r n le = rw (le-ltb r n le, place_of) refl

-- ---- the tests, from what each finds
abbrev tested : Bool → Option ℕ → List Entry → Answer (List Entry)
tested wrong bad es = refuse 5 wrong >>= (λ _. refuse_at 6 bad >>= (λ _. given es))

abbrev replied : Answer (List Entry) → Reply ℕ
replied a = reply 0 (a >>= (λ (es : List Entry). given (length es)))

-- a reply with a number is a refusal's
told-refused : (b : Bool) (o : Option ℕ) (es : List Entry) → ((replied (tested b o es)).number ≡ 0 → ⊥)
    → tested b o es ≡ refused (replied (tested b o es)).number (replied (tested b o es)).place
told-refused true o es ne = refl
told-refused false (some p) es ne = refl
told-refused false none es ne = absurd (ne refl)

-- a reply with number 0 is that of a shape that both tests pass
told-given : (b : Bool) (o : Option ℕ) (es : List Entry) → (replied (tested b o es)).number ≡ 0 → (b ≡ false) × (o ≡ none)
told-given true o es z = let w : ⊥ = omega (arith, z) in absurd w
told-given false (some p) es z = let w : ⊥ = omega (arith, z) in absurd w
told-given false none es z = (refl, refl)

module _ (f : Format) (s : List ℕ) where
  abbrev empty : Bool
  empty = eqb (length s) 0

  abbrev long : Bool
  long = ltb (most_entries * entry_bytes f) (length s)

  abbrev ragged : Bool
  ragged = not (eqb (length s % entry_bytes f) 0)

  abbrev wrong : Bool
  wrong = empty || long || ragged

  tests_are : tests5_6 f s ≡ tested wrong (bad_entry f (entries f s)) (entries f s)
  unfolding tests5_6
  tests_are = refl

  reply-is : shape_reply f s ≡ replied (tested wrong (bad_entry f (entries f s)) (entries f s))
  unfolding shape_reply
  reply-is = ap replied tests_are

  refused_5 : wrong ≡ true → record { number = 5; place = 0; rest = 0 } ≡ shape_reply f s
  refused_5 e = sym (reply-is ∙ ap (λ b. replied (tested b (bad_entry f (entries f s)) (entries f s))) e)

  pub refused_empty : length s ≡ 0 → record { number = 5; place = 0; rest = 0 } ≡ shape_reply f s
  refused_empty z = refused_5 (or_left ragged (or_left long (eq-eqb (length s) 0 z)))

  pub refused_long : most_entries * entry_bytes f < length s → record { number = 5; place = 0; rest = 0 } ≡ shape_reply f s
  refused_long lt = refused_5 (or_left ragged (or_right empty (lt-ltb (most_entries * entry_bytes f) (length s) lt)))

  pub refused_ragged : (length s % entry_bytes f ≡ 0 → ⊥) → record { number = 5; place = 0; rest = 0 } ≡ shape_reply f s
  refused_ragged ne = refused_5 (or_right (empty || long) (ap not (ne_eqb (length s % entry_bytes f) 0 ne)))

  module _ (ne : length s ≡ 0 → ⊥) (le : length s ≤ most_entries * entry_bytes f) (z : length s % entry_bytes f ≡ 0) where
    right : wrong ≡ false
    right =
        ap₂ (λ a b. a || b || ragged) (ne_eqb (length s) 0 ne) (le-ltb (most_entries * entry_bytes f) (length s) le)
        ∙ ap not (eq-eqb (length s % entry_bytes f) 0 z)

    replied_right : (o : Option ℕ) → bad_entry f (entries f s) ≡ o → shape_reply f s ≡ replied (tested false o (entries f s))
    replied_right o e = reply-is ∙ ap₂ (λ b x. replied (tested b x (entries f s))) right e

    pub refused_6 : (p : ℕ) → bad_entry f (entries f s) ≡ some p → record { number = 6; place = p; rest = 0 } ≡ shape_reply f s
    refused_6 p e = sym (replied_right (some p) e)

    pub accepted : bad_entry f (entries f s) ≡ none → record { number = 0; place = 0; rest = whole (entry_bytes f) s } ≡ shape_reply f s
    accepted e =
        ap (λ m. record { number = 0; place = 0; rest = m }) (sym (count_entries f s)) ∙ sym (replied_right none e)

  -- ---- what examining tells of the tests
  module _ (k p c : ℕ) (e : ◌≡◌ {A = Reply ℕ} (record { number = k; place = p; rest = c }) (shape_reply f s)) where
    told : record { number = k; place = p; rest = c } ≡ replied (tested wrong (bad_entry f (entries f s)) (entries f s))
    told = e ∙ reply-is

    number : k ≡ (replied (tested wrong (bad_entry f (entries f s)) (entries f s))).number
    number = ap (λ (r : Reply ℕ). r.number) told

    pub examined-refused : (k ≡ 0 → ⊥) → tests5_6 f s ≡ refused k p
    examined-refused ne =
        tests_are ∙ told-refused wrong (bad_entry f (entries f s)) (entries f s) (λ q. ne (number ∙ q))
        ∙ ap₂ {C = Answer (List Entry)} (λ a b. refused a b) (sym number) (sym (ap (λ (r : Reply ℕ). r.place) told))

    module _ (z : k ≡ 0) where
      passes : (wrong ≡ false) × (bad_entry f (entries f s) ≡ none)
      passes = told-given wrong (bad_entry f (entries f s)) (entries f s) (sym number ∙ z)

      short : length s ≤ most_entries * entry_bytes f
      short = ltb-false (most_entries * entry_bytes f) (length s) (second empty long ragged passes.0)
        where
          second : (a b c : Bool) → a || b || c ≡ false → b ≡ false
          second true b c h = absurd (true≢false h)
          second false true c h = absurd (true≢false h)
          second false false c h = refl

      pub kept : bad_entry f (entries f s) ≡ none
      kept = passes.1

      pub examined-given : tests5_6 f s ≡ given (entries f s)
      examined-given = tests_are ∙ ap₂ (λ b o. tested b o (entries f s)) passes.0 kept

      pub counted : c ≡ whole (entry_bytes f) s
      counted =
          ap (λ (r : Reply ℕ). r.rest) told ∙ ap₂ (λ b o. (replied (tested b o (entries f s))).rest) passes.0 kept ∙ count_entries f s

      pub few_entries : c ≤ most_entries
      few_entries =
          let lt : length s < suc most_entries * entry_bytes f = omega (arith, short, suc-mul most_entries (entry_bytes f)) in
          omega (arith, counted, (div-lt_iff_lt-mul {k = entry_bytes f} {x = length s} {y = suc most_entries} (omega arith)).1 lt)

-- what an answer of examining tells of them
module _ (f : Format) (s : List ℕ) where
  pub tests_refuse : (e : Refusal) → shape_examined (Err e) ≡ shape_reply f s → tests5_6 f s ≡ refused (refusal_number e) (refusal_place e)
  tests_refuse e q = examined-refused f s (refusal_number e) (refusal_place e) 0 q (numbered e)

  pub tests_give : (n : ℕ) → shape_examined (Ok n) ≡ shape_reply f s → (tests5_6 f s ≡ given (entries f s)) × (n ≡ whole (entry_bytes f) s)
  tests_give n q = (examined-given f s 0 0 n q refl, counted f s 0 0 n q refl)
