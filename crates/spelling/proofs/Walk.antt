-- The entries of a shape put one after the other: what stands behind each is still to be put. Assumes nothing.
use Prim.Native.Nat.{ℕ, ◌+◌, ◌*◌, ◌≤◌, ◌<◌}
use native.Mathlib.Numerals.{add-one}
use native.Mathlib.Omega.{arith}
use mathlib.Core.Path.{◌≡◌, refl, sym, ◌∙◌, ap, ap₂}
use mathlib.Core.List.{List, [], ◌∷◌, ◌++◌, map}
use mathlib.Core.Option.{none}
use lib.ListN.{length, take, drop, length-take}
use Rattle.paper.specs.Format.{Format, most_entries, entry_bytes, byte, words, whole}
use Rattle.paper.specs.Shapes.{Entry, entry_of, entries, bad_entry}
use Rattle.paper.proofs.Calls.{count_entries, passed5_6}
use Rattle.paper.proofs.Tables.{length-words}
use Rattle.octets.specs.Served.{most_levels}
use Rattle.tables.proofs.Rows.{rec, row_in}
use Rattle.shapes.proofs.Entries.{entries_from_lem, entries_end, entry-size}
use Rattle.shapes.proofs.Fields.{level_fits}
use Rattle.grammar.specs.Text.{space}
use Rattle.grammar.specs.Typed.{whole_path, line_of}
use Rattle.names.specs.Put.{Put}
use Rattle.names.proofs.Putting.{put_then, put_as}
use Rattle.spelling.specs.Line.{path_text, brackets_text, shape_line, Passed}
use Rattle.spelling.proofs.Left.{Left, left_all, left_less}
use Rattle.spelling.proofs.Parts.{path_word}
use Rattle.spelling.proofs.Entries.{word_of, behind, line_first, behind_next, behind_last}

-- The entries from e on are still to be put, behind one of level l.
abbrev pub Going : Format → List ℕ → List ℕ → ℕ → List ℕ → List ℕ → ℕ → ℕ → ℕ → Type 0
Going f s out₀ at text out p l e = Left out₀ at text out p (behind l (drop e (entries f s)))

module _ (f : Format) (s : List ℕ) (n : ℕ) (passed : Passed f s n) where
  abbrev es : List Entry
  es = entries f s

  sound : (entries f s ≡ es) × (bad_entry f es ≡ none) × (0 < length es) × (length es ≤ most_entries)
  sound = passed5_6 f s es passed.passes

  -- There is an entry, and no more than 16.
  pub count_fits : (1 ≤ n) × (n ≤ most_entries)
  count_fits =
      let counted = passed.counted in
      (omega (arith, counted, sound.2, count_entries f s), omega (arith, counted, sound.3, count_entries f s))

  -- entry i, whose bytes are b
  module _ (i : ℕ) (lt : i < n) where
    inside : i < whole (entry_bytes f) s
    inside = omega (arith, lt, passed.counted)

    pub entry_in : (w : ℕ) → w ≡ entry_bytes f → w * i + w ≤ length s
    entry_in w e = row_in w i s (omega (arith, inside, ap (λ v. whole v s) e))

    module _ (b : List ℕ) (own : b ≡ rec (entry_bytes f) i s) where
      pub level_in : (l : ℕ) → l ≡ byte b 0 → (1 ≤ l) × (l ≤ most_levels)
      level_in l e =
          let (lo, hi) = level_fits f s sound.1 i inside in
          let is = e ∙ ap (λ x. byte x 0) own in
          (omega (arith, lo, is), omega (arith, hi, is, passed.served.shallow))

      pub size_in : (z : ℕ) → z ≡ byte b 1 → (1 ≤ z) × (z ≤ f.levels)
      size_in z e =
          let (lo, hi) = entry-size f s i inside sound.1 in
          let is = e ∙ ap (λ x. byte x 1) own in
          (omega (arith, lo, is), omega (arith, hi, is))

      -- The path of its labels is its word.
      word-is : (z : ℕ) → z ≡ byte b 1 → path_text (take z (words f.levels b 4)) ≡ word_of (entry_of f b)
      unfolding entry_of
      word-is z e =
          let ws = words f.levels b 4 in
          let fits = size_in z e in
          path_word (take z ws) (omega (arith, length-take z ws, length-words f.levels b 4, fits.0, fits.1))
          ∙ ap (λ k. word_of (record { level = byte b 0; size = k; spare = 0; labels = ws })) e

      entry_next : drop i es ≡ entry_of f b ∷ drop (i + 1) es
      entry_next = entries_from_lem f s i inside ∙ ap₂ {C = List Entry} (λ x k. entry_of f x ∷ drop k es) (sym own) (sym (add-one i))

  -- The first entry's word is put.
  module _ (b : List ℕ) (own : b ≡ rec (entry_bytes f) 0 s) (l z : ℕ) (level : l ≡ byte b 0) (size : z ≡ byte b 1) where
    pub going_first : (out₀ out : List ℕ) (p : ℕ) → Put out₀ 0 (path_text (take z (words f.levels b 4))) out p → Going f s out₀ 0 (shape_line f s) out p l 1
    unfolding entry_of
    going_first out₀ out p put =
        let first = ap (λ (xs : List Entry). line_of (map whole_path xs)) (entry_next 0 count_fits.0 b own)
        ∙ line_first (entry_of f b) (drop 1 es)
        ∙ ap (λ k. word_of (entry_of f b) ++ behind k (drop 1 es)) (sym level) in
        left_less (left_all out₀ 0 (shape_line f s)) (behind l (drop 1 es)) first (put_as put (word-is 0 count_fits.0 b own z size))

  module _ {out₀ : List ℕ} {at : ℕ} {text out : List ℕ} {p : ℕ} (before e : ℕ) (going : Going f s out₀ at text out p before e) where
    -- The brackets to the next entry, a space and its word are put.
    module _ (lt : e < n) (b : List ℕ) (own : b ≡ rec (entry_bytes f) e s) (l z : ℕ) (level : l ≡ byte b 0) (size : z ≡ byte b 1) where
      pub going_on : {out₁ out₂ out₃ : List ℕ} {p₁ p₂ p₃ : ℕ} → Put out p (brackets_text before l) out₁ p₁ → Put out₁ p₁ (space ∷ []) out₂ p₂
          → Put out₂ p₂ (path_text (take z (words f.levels b 4))) out₃ p₃ → Going f s out₀ at text out₃ p₃ l (e + 1)
      unfolding entry_of
      going_on brackets gap path =
          let rest = behind l (drop (e + 1) es) in
          let next = ap (behind before) (entry_next e lt b own)
          ∙ behind_next before (entry_of f b) (drop (e + 1) es)
          ∙ ap (λ k. brackets_text before k ++ ((space ∷ word_of (entry_of f b)) ++ behind k (drop (e + 1) es))) (sym level) in
          let word = put_then gap (put_as path (word-is e lt b own z size)) in
          left_less (left_less going ((space ∷ word_of (entry_of f b)) ++ rest) next brackets) rest refl word

    -- Behind the last the brackets are put that are still open.
    pub going_last : n ≤ e → {out' : List ℕ} {j : ℕ} → Put out p (brackets_text before 1) out' j → Put out₀ at text out' j
    going_last le {out'} {j} put =
        let none = entries_end f s e (omega (arith, le, passed.counted)) in
        going.asked out' j (put_as put (sym (ap (behind before) none ∙ behind_last before)))
