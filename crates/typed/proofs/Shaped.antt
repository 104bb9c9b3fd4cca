-- The refusals of the entries that a text asks for one by one, and what is written of them. Assumes nothing.
use Prim.Native.Nat.{ℕ, suc, ◌+◌, ◌*◌, ◌≤◌, ◌<◌}
use native.Mathlib.Omega.{arith}
use native.Mathlib.Nat.{mul-suc, mul-zero}
use native.Mathlib.Numerals.{add-one}
use mathlib.Core.Path.{◌≡◌, refl, sym, ◌∙◌, ap, ap₂}
use mathlib.Core.Bool.{Bool, true, false, not}
use mathlib.Core.List.{List, [], ◌∷◌}
use mathlib.Core.Option.{Option, none, some}
use lib.Dec.{eqb, leb, ltb}
use lib.ListN.{length, take, length-append, length-map}
use lib.Seq.{sets, take_all}
use borrow.Author.Tests.{lt-ltb, le-ltb, le-leb, lt-leb, leb-false, eqb-true, eqb-false}
use Rattle.paper.specs.Lists.{keep, place, first_place, first_or}
use Rattle.paper.specs.Format.{Format, most_types, most_entries, entry_bytes}
use Rattle.paper.specs.Calls.{Answer, given, ◌>>=◌, refuse, refuse_at, reply, after}
use Rattle.paper.proofs.Kept.{place_same, first-none}
use Rattle.octets.proofs.Writing.{front_written}
use Rattle.tables.specs.Place.{place_of}
use Rattle.grammar.proofs.Fitting.{entry-size}
use Rattle.grammar.specs.Typed.{Wanted, matches, matched, entry_back, shape_back, shaping, Reading}
use Rattle.typed.specs.Matching.{sole_number}
use Rattle.typed.specs.Entries.{entries_back}
use Rattle.typed.specs.Walk.{levels_of, numbers_of}
use Rattle.typed.specs.Read.{reading_of}
use Rattle.typed.specs.Shaped.{shaped_as, Of}
use Rattle.typed.specs.declared.walk.Walked.{Walked}
use Rattle.typed.proofs.Soles.{sole_one, sole_none}
use Rattle.typed.proofs.Back.{kept_place, shape_back_lem}

-- what is given: the count of entries and the shape
abbrev pub Given : Type 0
Given = ℕ × List ℕ

module _ (lent : List ℕ) where
  abbrev pub left : Answer Given → Reading
  left a = record { reply = reply 0 (a >>= (λ (x : Given). given x.0)); shape = after lent (a >>= (λ (x : Given). given x.1)) }

-- ---- what the tests find
-- the number is that of no type exactly where not one type is matched
number-none : (ts : List (List ℕ)) (count : ℕ) → count ≡ length ts → count ≤ most_types → (e : Wanted)
    → leb count (sole_number ts e.name) ≡ not (eqb (length (matched ts e)) 1)
unfolding matched
number-none ts count is few e = go (eqb (length (keep (matches e.name) ts)) 1) refl
  where
    go : (t : Bool) → eqb (length (keep (matches e.name) ts)) 1 ≡ t → leb count (sole_number ts e.name) ≡ not t
    go true q =
        let one : length (keep (matches e.name) ts) ≡ 1 = eqb-true _ 1 q in
        lt-leb count (sole_number ts e.name)
        (omega (arith, sole_one ts e.name one, kept_place (matches e.name) ts (omega (arith, one)), is))
    go false q = le-leb count (sole_number ts e.name) (omega (arith, sole_none ts e.name (eqb-false _ 1 q), few))

pub shape-length : (f : Format) (ts : List (List ℕ)) (es : List Wanted) → length (shape_back f ts es) ≡ entry_bytes f * length es
unfolding shape_back
shape-length f ts [] = sym (mul-zero (entry_bytes f))
shape-length f ts (e ∷ es) =
    let own = entry_back f e.level (first_or [] (matched ts e)) in
    omega (
      arith,
      length-append own (shape_back f ts es),
      entry-size f e.level (first_or [] (matched ts e)),
      shape-length f ts es,
      mul-suc (entry_bytes f) (length es),
    )

module _ (f : Format) (ts : List (List ℕ)) (es : List Wanted) (lent : List ℕ) where
  abbrev tested : Bool → Option ℕ → Option ℕ → Bool → Answer Given
  tested many deep unmatched short =
      refuse 5 many >>= (λ _. refuse_at 6 deep >>= (λ _. refuse_at 13 unmatched >>= (λ _. refuse 29 short >>= (λ _.
      given (length es, shape_back f ts es)))))

  -- the answer, from what each test finds
  shaped_is : (many : Bool) (deep unmatched : Option ℕ) (short : Bool) → ltb most_entries (length es) ≡ many
      → first_place (λ (e : Wanted). ltb f.levels e.level) es ≡ deep
      → first_place (λ (e : Wanted). not (eqb (length (matched ts e)) 1)) es ≡ unmatched
      → ltb (length lent) (length (shape_back f ts es)) ≡ short → shaped_as f ts es lent ≡ left lent (tested many deep unmatched short)
  unfolding shaped_as shaping
  shaped_is many deep unmatched short em ed eu es = λ i. left lent (tested (em i) (ed i) (eu i) (es i))

  module _ (w : Walked) (of : Of ts es w) where
    pub too_many : most_entries < w.entries → reading_of (record { number = 5; place = 0; rest = 0 }) lent ≡ shaped_as f ts es lent
    too_many lt = sym (shaped_is true _ _ _ (lt-ltb most_entries (length es) (omega (arith, lt, of.count-is))) refl refl refl)

    module _ (few : w.entries ≤ most_entries) where
      not-many : ltb most_entries (length es) ≡ false
      not-many = le-ltb most_entries (length es) (omega (arith, few, of.count-is))

      -- of so few entries all levels and types are kept
      pub all_levels : take w.entries w.levels ≡ levels_of es
      all_levels =
          of.levels_are ∙ take_all most_entries (levels_of es) (omega (arith, few, of.count-is, length-map es (λ (e : Wanted). e.level)))

      pub all_types : take w.entries w.types ≡ numbers_of ts es
      all_types =
          of.types_are
          ∙ take_all most_entries (numbers_of ts es) (omega (arith, few, of.count-is, length-map es (λ (e : Wanted). sole_number ts e.name)))

      -- the first entry that is too deep, where there is one
      abbrev pub deep : Option ℕ
      deep = place_of (place (leb (f.levels + 1)) (take w.entries w.levels)) w.entries

      deep-first : first_place (λ (e : Wanted). ltb f.levels e.level) es ≡ deep
      unfolding place_of
      deep-first =
          ap₂ place_of
          (sym (place_same (leb (suc f.levels)) (λ (e : Wanted). ltb f.levels e.level) (λ (e : Wanted). e.level) es (λ e h. refl))
          ∙ sym (ap₂ (λ b l. place (leb b) l) (add-one f.levels) all_levels))
          (sym of.count-is)

      pub too_deep : (e : ℕ) → some e ≡ deep → reading_of (record { number = 6; place = e; rest = 0 }) lent ≡ shaped_as f ts es lent
      too_deep e is = sym (shaped_is false _ _ _ not-many (deep-first ∙ sym is) refl refl)

      module _ (shallow : none ≡ deep) (count : ℕ) (count-is : count ≡ length ts) (count-few : count ≤ most_types) where
        not-deep : first_place (λ (e : Wanted). ltb f.levels e.level) es ≡ none
        not-deep = deep-first ∙ sym shallow

        -- the first entry whose name matches no type or several
        abbrev alone : Option ℕ
        alone = place_of (place (leb count) (take w.entries w.types)) w.entries

        alone-first : first_place (λ (e : Wanted). not (eqb (length (matched ts e)) 1)) es ≡ alone
        unfolding place_of
        alone-first =
            ap₂ place_of
            (sym (place_same (leb count) (λ (e : Wanted). not (eqb (length (matched ts e)) 1)) (λ (e : Wanted). sole_number ts e.name) es
            (λ e h. number-none ts count count-is count-few e))
            ∙ sym (ap (place (leb count)) all_types))
            (sym of.count-is)

        pub unmatched : (e : ℕ) → some e ≡ alone → reading_of (record { number = 13; place = e; rest = 0 }) lent ≡ shaped_as f ts es lent
        unmatched e is = sym (shaped_is false _ _ _ not-many not-deep (alone-first ∙ sym is) refl)

        module _ (matching : none ≡ alone) where
          all-matched : first_place (λ (e : Wanted). not (eqb (length (matched ts e)) 1)) es ≡ none
          all-matched = alone-first ∙ sym matching

          pub no_room : length lent < entry_bytes f * w.entries
              → reading_of (record { number = 29; place = 0; rest = 0 }) lent ≡ shaped_as f ts es lent
          no_room lt =
              sym (shaped_is false _ _ true not-many not-deep all-matched
              (lt-ltb (length lent) (length (shape_back f ts es)) (omega (arith, lt, shape-length f ts es, ap (λ n. entry_bytes f * n) of.count-is))))

          -- what the records of the entries are
          written : entries_back f ts (take w.entries w.levels) (take w.entries w.types) ≡ shape_back f ts es
          written =
              ap₂ (entries_back f ts) all_levels all_types
              ∙ shape_back_lem ts (omega (arith, count-is, count-few)) f es (λ e h.
              let passes : leb count (sole_number ts e.name) ≡ false =
              number-none ts count count-is count-few e ∙ first-none (λ (e : Wanted). not (eqb (length (matched ts e)) 1)) es all-matched e h in
              omega (arith, leb-false count (sole_number ts e.name) passes, count-is))

          pub shaped : entry_bytes f * w.entries ≤ length lent → (new : List ℕ)
              → new ≡ sets lent 0 (entries_back f ts (take w.entries w.levels) (take w.entries w.types))
              → reading_of (record { number = 0; place = 0; rest = w.entries }) new ≡ shaped_as f ts es lent
          shaped room new put =
              let fits : length (shape_back f ts es) ≤ length lent =
              omega (arith, room, shape-length f ts es, ap (λ n. entry_bytes f * n) of.count-is) in
              ap₂ (λ n (s : List ℕ). reading_of (record { number = 0; place = 0; rest = n }) s) of.count-is
              (put ∙ ap (sets lent 0) written ∙ front_written lent (shape_back f ts es) fits)
              ∙ sym (shaped_is false _ _ false not-many not-deep all-matched (le-ltb (length lent) (length (shape_back f ts es)) fits))
