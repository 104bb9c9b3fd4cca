-- A reshaped table keeps the row rules, and one of at most 1,024 lines is a sound source. Assumes nothing.
use Prim.Native.Nat.{ℕ, zero, suc, ◌*◌, ◌/◌, ◌%◌, ◌≤◌, ◌<◌}
use native.Mathlib.Nat.{mul-mod_left, mul-le-mul_right, div-mul-le_self}
use native.Mathlib.Omega.{arith}
use mathlib.Core.Path.{◌≡◌, refl, sym, ◌∙◌, ap, subst}
use mathlib.Core.Logic.{◌⊎◌, inl, inr}
use mathlib.Core.List.{List, [], ◌∷◌}
use lib.ListN.{length, get_or, take, drop}
use Rattle.paper.specs.Lists.{Has, last_or}
use Rattle.paper.specs.Format.{Format, most_rows, head_bytes, row_bytes, entry_bytes, radix, byte, words, records, whole}
use Rattle.paper.specs.Tables.{rows, types}
use Rattle.paper.specs.Shapes.{Entry, entries, entry_of, named, shape_over}
use Rattle.paper.specs.NewTable.{new_table, entry_unit}
use Rattle.paper.specs.Calls.{Reply, Reshaping, reshape}
use Rattle.paper.specs.Sound.{KeepsRules, SoundSource}
use Rattle.paper.proofs.Lists.{take-has, drop-has, map-has, last_has}
use Rattle.paper.proofs.Bytes.{Small}
use Rattle.paper.proofs.Calls.{count-rows, pass1_3, examine-given, pass1_4, passed1_4, passed5_6, passed1_7, reshape_past4}
use Rattle.paper.proofs.Promises.{s, ls, Wrote, reshape_writes, new_left_lem, written_length, written_rows, written_sound, written_types, format_small}

-- ---- labels that are read from bytes are of 16 bits
-- every number of the list is below m
abbrev Below : ℕ → List ℕ → Type 0
Below m l = (x : ℕ) → Has x l → x < m

module _ (m : ℕ) (pos : 0 < m) where
  get_d_below : (l : List ℕ) → Below m l → (i : ℕ) → get_or l i 0 < m
  get_d_below [] low i = pos
  get_d_below (x ∷ l) low zero = low x (inl refl)
  get_d_below (x ∷ l) low (suc i) = get_d_below l (λ y h. low y (inr h)) i

  last_below : (l : List ℕ) → Below m l → last_or 0 l < m
  last_below [] low = pos
  last_below (x ∷ l) low = low (last_or 0 (x ∷ l)) (last_has 0 x l)

record_below : (m w n : ℕ) (b : List ℕ) → Below m b → (y : List ℕ) → Has y (records w n b) → Below m y
record_below m w zero b low y h = absurd h
record_below m w (suc n) b low y (inl e) = λ x i. low x (take-has w b x (subst (λ z. Has x z) e i))
record_below m w (suc n) b low y (inr h) = record_below m w n (drop w b) (λ x i. low x (drop-has w b x i)) y h

words_below : (n : ℕ) (b : List ℕ) (i : ℕ) → Below radix b → Below (radix * radix) (words n b i)
words_below zero b i low x h = absurd h
words_below (suc n) b i low x (inl e) = omega (arith, e, get_d_below radix (omega arith) b low i, get_d_below radix (omega arith) b low (suc i))
words_below (suc n) b i low x (inr h) = words_below n b (suc (suc i)) low x h

labels_below : (f : Format) (ts : List (List ℕ)) (sb : List ℕ) → Below radix sb → Below (radix * radix) (shape_over ts (entries f sb)).labels
unfolding shape_over entries entry_of
labels_below f ts sb low x h =
    let (e, he, q) = map-has (λ (e : Entry). last_or 0 (named e)) x (entries f sb) h in
    let (y, hy, ey) = map-has (entry_of f) e (records (entry_bytes f) (whole (entry_bytes f) sb) sb) he in
    let labels = words f.levels y head_bytes in
    let each = words_below f.levels y head_bytes (record_below radix (entry_bytes f) (whole (entry_bytes f) sb) sb low y hy) in
    let last = last_below (radix * radix) (omega arith) (take (byte y 1) labels) (λ z i. each z (take-has (byte y 1) labels z i)) in
    subst (λ z. z < radix * radix) (sym (q ∙ ap (λ (e : Entry). last_or 0 (named e)) ey)) last

-- ---- the theorem
module _ (f : Format) (b sb table sources : List ℕ) where
  abbrev r : Reshaping
  r = reshape f b sb table sources

  -- the last label of each entry is of 16 bits
  abbrev LabelsSmall : Wrote f b sb table sources → Type 0
  LabelsSmall o = (e : ℕ) → e < length (s f b sb o.work o.passed).ways → Small (get_or (s f b sb o.work o.passed).labels e 0)

  -- Where they are, the new table keeps the row rules,
  keeps : (o : Wrote f b sb table sources) → LabelsSmall o → KeepsRules f (take (r.reply.rest * row_bytes f) r.table) r.reply.rest
  keeps o Label-small =
      let room : length (ls f b sb o.work o.passed) < entry_unit = omega (arith, o.room) in
      subst (λ z. KeepsRules f z r.reply.rest) (sym (new_left_lem f b sb table sources o)) (record {
        counted = written_rows f b sb o.work o.passed room ∙ sym o.count;
        none_bad = written_sound f b sb o.work o.passed room Label-small;
      })

  -- and is sound up to 1,024 lines.
  sound : (o : Wrote f b sb table sources) → LabelsSmall o
      → r.reply.rest ≤ most_rows → SoundSource f sb (take (r.reply.rest * row_bytes f) r.table) r.reply.rest
  sound o Label-small few =
      let w = o.work in
      let h = o.passed in
      let l = ls f b sb w h in
      let new = new_table f (s f b sb w h) (rows f b) l in
      let room : length l < entry_unit = omega (arith, o.room) in
      let long = written_length f b sb w h room in
      let counted : length (rows f new) ≡ r.reply.rest = written_rows f b sb w h room ∙ sym o.count in
      let short : length new ≤ most_rows * row_bytes f =
      subst (λ n. n ≤ most_rows * row_bytes f) (sym long) (mul-le-mul_right (row_bytes f) (omega (arith, o.count))) in
      let whole-rows : length new % row_bytes f ≡ 0 = ap (λ n. n % row_bytes f) long ∙ mul-mod_left (length l) (row_bytes f) in
      let passes = pass1_3 f new short whole-rows (written_sound f b sb w h room Label-small) in
      let one-type-each = written_types f b sb w h room Label-small in
      subst (λ z. SoundSource f sb z r.reply.rest) (sym (new_left_lem f b sb table sources o)) (record {
        examined = examine-given f new passes ∙ ap (λ n. record { number = 0; place = 0; rest = n }) counted;
        one_each = one-type-each;
        passes = pass1_4 f new passes (omega (arith, one-type-each, (passed5_6 f sb (entries f sb) (passed1_7 f b sb w h).1).3));
      })

  -- in a format whose largest label is of 16 bits, as the base's is
  pub narrow_keeps : Small f.labels → r.reply.number ≡ 0 → KeepsRules f (take (r.reply.rest * row_bytes f) r.table) r.reply.rest
  narrow_keeps lim e = let o = reshape_writes f b sb table sources e in keeps o (format_small f b sb o.work o.passed lim)

  pub narrow_sound : Small f.labels → r.reply.number ≡ 0 → r.reply.rest ≤ most_rows
      → SoundSource f sb (take (r.reply.rest * row_bytes f) r.table) r.reply.rest
  narrow_sound lim e few = let o = reshape_writes f b sb table sources e in sound o (format_small f b sb o.work o.passed lim) few

  -- in every format, where the shape is one of bytes
  bytes_small : ((x : ℕ) → Has x sb → x < radix) → (o : Wrote f b sb table sources) → LabelsSmall o
  bytes_small low o i le = get_d_below (radix * radix) (omega arith) (s f b sb o.work o.passed).labels (labels_below f (types (rows f b)) sb low) i

  -- A RESHAPED TABLE KEEPS THE ROW RULES: whatever records an accepted call leaves, up to 4,096 lines, do.
  pub reshape_keeps : ((x : ℕ) → Has x sb → x < radix) → r.reply.number ≡ 0
      → KeepsRules f (take (r.reply.rest * row_bytes f) r.table) r.reply.rest
  reshape_keeps low e = let o = reshape_writes f b sb table sources e in keeps o (bytes_small low o)

  -- A RESHAPED TABLE IS A SOUND SOURCE: in every format, where the shape is one of bytes and the call is accepted with at most
  -- 1,024 lines, the records that it leaves are.
  pub reshape-sound : ((x : ℕ) → Has x sb → x < radix) → r.reply.number ≡ 0 → r.reply.rest ≤ most_rows
      → SoundSource f sb (take (r.reply.rest * row_bytes f) r.table) r.reply.rest
  reshape-sound low e few = let o = reshape_writes f b sb table sources e in sound o (bytes_small low o) few

-- a sound source holds its rows whole
pub source_whole : (f : Format) (sb new : List ℕ) (n : ℕ) → SoundSource f sb new n → n * row_bytes f ≤ length new
source_whole f sb new n source =
    let counted : n ≡ length new / row_bytes f =
    ap (λ (r : Reply ℕ). r.rest) (sym source.examined ∙ examine-given f new (passed1_4 f new (rows f new) source.passes)) ∙ count-rows f new in
    subst (λ k. k * row_bytes f ≤ length new) (sym counted) (div-mul-le_self (length new) (row_bytes f))

-- A reshape of a sound source needs no test in between: it is accepted, or refused by a number past 4.
pub reshape-again : (f : Format) (sb new : List ℕ) (n : ℕ) → SoundSource f sb new n → (shape table sources : List ℕ)
    → let number = (reshape f new shape table sources).reply.number in (number ≡ 0) ⊎ (4 < number)
reshape-again f sb new n source = reshape_past4 f new source.passes
