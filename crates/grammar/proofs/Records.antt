-- A shape past 5 and 6 is one of bytes, which are those of its entries, written back. Assumes nothing.
use Prim.Native.Nat.{ℕ, zero, suc, ◌+◌, ◌-◌, ◌*◌, ◌≤◌, ◌<◌}
use native.Mathlib.Omega.{arith}
use mathlib.Core.Path.{◌≡◌, refl, sym, ◌∙◌, ap, ap₂, subst}
use mathlib.Core.Logic.{inl, inr, ⊎_elim}
use mathlib.Core.Bool.{true, ◌&&◌}
use mathlib.Core.List.{List, [], ◌∷◌, ◌++◌, append_assoc}
use lib.Dec.{eqb}
use lib.ListN.{length, take, drop, replicate, length-append, length-take, length-drop, take-append-drop}
use lib.Seq.{get_or_at}
use borrow.Author.Tests.{eqb-true}
use Rattle.paper.specs.Lists.{Has, all, between, join_map, padded}
use Rattle.paper.specs.Format.{Format, head_bytes, entry_bytes, byte, word, words, records, whole, bytes}
use Rattle.paper.specs.Shapes.{Entry, entry_of, entries, named, level_kept, entry_kept, bad_entry}
use Rattle.paper.specs.Calls.{given, tests5_6}
use Rattle.paper.proofs.Lists.{both, within, all-has, has_append, has-map, join-has, take-has, drop-has, join_map_lem, join-same}
use Rattle.paper.proofs.Kept.{padded_longer}
use Rattle.paper.proofs.Tables.{none-rules, rules-each, length-words}
use Rattle.paper.proofs.Shapes.{Parts, level_of, entry-parts}
use Rattle.paper.proofs.Bytes.{file_record, whole-records}
use Rattle.paper.proofs.Calls.{passed5, passed5_6}
use Rattle.grammar.specs.Typed.{entry_back}

-- ---- bytes
-- Every byte is one.
abbrev pub Octets : List ℕ → Type 0
Octets s = (x : ℕ) → Has x s → x < 256

record_octets : (w n : ℕ) (s r : List ℕ) → Octets s → Has r (records w n s) → Octets r
record_octets w zero s r small h = absurd h
record_octets w (suc n) s r small (inl e) = λ x i. small x (take-has w s x (subst (λ l. Has x l) e i))
record_octets w (suc n) s r small (inr h) = record_octets w n (drop w s) r (λ x i. small x (drop-has w s x i)) h

-- ---- numbers of two bytes
word_at : (pre : List ℕ) (x y : ℕ) (rest : List ℕ) (i : ℕ) → length pre ≡ i → word (pre ++ x ∷ y ∷ rest) i ≡ x + 256 * y
word_at pre x y rest i at =
    let lo : byte (pre ++ x ∷ y ∷ rest) i ≡ x = get_or_at pre x (y ∷ rest) 0 i at in
    let past : pre ++ x ∷ y ∷ rest ≡ (pre ++ (x ∷ [])) ++ y ∷ rest = sym (append_assoc pre (x ∷ []) (y ∷ rest)) in
    let hi : byte (pre ++ x ∷ y ∷ rest) (suc i) ≡ y =
    ap (λ l. byte l (suc i)) past ∙ get_or_at (pre ++ (x ∷ [])) y rest 0 (suc i) (omega (arith, at, length-append pre (x ∷ []))) in
    omega (arith, lo, hi)

numbers_back : (n : ℕ) (pre rest : List ℕ) (i : ℕ) → length pre ≡ i → length rest ≡ 2 * n → Octets rest
    → join_map (bytes 2) (words n (pre ++ rest) i) ≡ rest
numbers_back zero pre [] i at long small = refl
numbers_back zero pre (x ∷ rest) i at long small = let z : ⊥ = omega (arith, long) in absurd z
numbers_back (suc n) pre [] i at long small = let z : ⊥ = omega (arith, long) in absurd z
numbers_back (suc n) pre (x ∷ []) i at long small = let z : ⊥ = omega (arith, long) in absurd z
numbers_back (suc n) pre (x ∷ y ∷ rest) i at long small =
    let all-bytes = pre ++ x ∷ y ∷ rest in
    let more : all-bytes ≡ (pre ++ (x ∷ y ∷ [])) ++ rest = sym (append_assoc pre (x ∷ y ∷ []) rest) in
    let ih = ap (λ l. join_map (bytes 2) (words n l (suc (suc i)))) more
    ∙ numbers_back n (pre ++ (x ∷ y ∷ [])) rest (suc (suc i)) (omega (arith, at, length-append pre (x ∷ y ∷ []))) (omega (arith, long))
    (λ z h. small z (inr (inr h))) in
    let small-x = small x (inl refl) in
    let small-y = small y (inr (inl refl)) in
    let two : bytes 2 (word all-bytes i) ≡ x ∷ y ∷ [] =
    ap (bytes 2) (word_at pre x y rest i at) ∙ ap₂ {C = List ℕ} (λ a b. a ∷ b ∷ []) (omega arith) (omega arith) in
    ap₂ (λ a b. a ++ b) two ih

-- numbers below 256 are of bytes
words_octets : (n : ℕ) (pre rest : List ℕ) (i : ℕ) → length pre ≡ i → length rest ≡ 2 * n
    → ((x : ℕ) → Has x (words n (pre ++ rest) i) → x < 256) → Octets rest
words_octets n pre [] i at long low z h = absurd h
words_octets zero pre (x ∷ rest) i at long low z h = let n : ⊥ = omega (arith, long) in absurd n
words_octets (suc n) pre (x ∷ []) i at long low z h = let n : ⊥ = omega (arith, long) in absurd n
words_octets (suc n) pre (x ∷ y ∷ rest) i at long low z (inl e) =
    omega (arith, e, word_at pre x y rest i at, low (word (pre ++ x ∷ y ∷ rest) i) (inl refl))
words_octets (suc n) pre (x ∷ y ∷ rest) i at long low z (inr (inl e)) =
    omega (arith, e, word_at pre x y rest i at, low (word (pre ++ x ∷ y ∷ rest) i) (inl refl))
words_octets (suc n) pre (x ∷ y ∷ rest) i at long low z (inr (inr h)) =
    words_octets n (pre ++ (x ∷ y ∷ [])) rest (suc (suc i)) (omega (arith, at, length-append pre (x ∷ y ∷ []))) (omega (arith, long))
    (λ k j. low k (inr (subst (λ l. Has k (words n l (suc (suc i)))) (append_assoc pre (x ∷ y ∷ []) rest) j))) z h

-- ---- an entry
all-zeros : (xs : List ℕ) → all (eqb 0) xs ≡ true → xs ≡ replicate (length xs) 0
all-zeros [] h = refl
all-zeros (x ∷ xs) h =
    let (z, zs) = both (eqb 0 x) (all (eqb 0) xs) h in
    ap₂ {C = List ℕ} (λ a l. a ∷ l) (sym (eqb-true 0 x z)) (all-zeros xs zs)

-- labels with zeros past a length are those within it, padded
padded_back : (n k : ℕ) (xs : List ℕ) → length xs ≡ n → k ≤ n → all (eqb 0) (drop k xs) ≡ true → padded n (take k xs) ≡ xs
padded_back n k xs long le zeros =
    let more : n ≡ k + (n - k) = omega arith in
    let past : n - k ≡ length (drop k xs) = omega (arith, length-drop k xs, long) in
    ap (λ m. padded m (take k xs)) more ∙ padded_longer k (n - k) (take k xs) (omega (arith, length-take k xs, long))
    ∙ ap (λ m. take k xs ++ replicate m 0) past ∙ ap (λ l. take k xs ++ l) (sym (all-zeros (drop k xs) zeros)) ∙ take-append-drop k xs

module _ (f : Format) where
  spare_zero : (before : ℕ) (e : Entry) → entry_kept f before e ≡ true → e.spare ≡ 0
  unfolding entry_kept
  spare_zero before e h =
      let l = between 1 e.level f.levels && between 1 e.size f.levels in
      let ls = all (λ x. between 1 x f.labels) (named e) in
      let zs = all (eqb 0) (drop e.size e.labels) in
      let a = (both (l && eqb e.spare 0 && ls && zs) (level_kept before e.level) h).0 in
      let b = (both (l && eqb e.spare 0 && ls) zs a).0 in
      eqb-true e.spare 0 (both l (eqb e.spare 0) (both (l && eqb e.spare 0) ls b).0).1

  -- an entry that keeps the rules, written back
  entry_back_lem : (before : ℕ) (r : List ℕ) → length r ≡ entry_bytes f → Octets r → entry_kept f before (entry_of f r) ≡ true
      → entry_back f (entry_of f r).level (named (entry_of f r)) ≡ r
  unfolding entry_of entry_back
  entry_back_lem before [] long small kept = let z : ⊥ = omega (arith, long) in absurd z
  entry_back_lem before (a ∷ []) long small kept = let z : ⊥ = omega (arith, long) in absurd z
  entry_back_lem before (a ∷ b ∷ []) long small kept = let z : ⊥ = omega (arith, long) in absurd z
  entry_back_lem before (a ∷ b ∷ c ∷ []) long small kept = let z : ⊥ = omega (arith, long) in absurd z
  entry_back_lem before (a ∷ b ∷ c ∷ d ∷ rest) long small kept =
      let e = entry_of f (a ∷ b ∷ c ∷ d ∷ rest) in
      let p = entry-parts f before e kept in
      let spare = spare_zero before e kept in
      let laid : length e.labels ≡ f.levels = length-words f.levels (a ∷ b ∷ c ∷ d ∷ rest) head_bytes in
      let size : length (named e) ≡ b = omega (arith, p.size, laid, length-take e.size e.labels) in
      let third : 0 ≡ c = omega (arith, spare) in
      let fourth : 0 ≡ d = omega (arith, spare) in
      let numbers : join_map (bytes 2) (padded f.levels (named e)) ≡ rest =
      ap (join_map (bytes 2)) (padded_back f.levels e.size e.labels laid p.size.1 p.zeros)
      ∙ numbers_back f.levels (a ∷ b ∷ c ∷ d ∷ []) rest head_bytes refl (omega (arith, long)) (λ x h. small x (inr (inr (inr (inr h))))) in
      λ i. a ∷ size i ∷ third i ∷ fourth i ∷ numbers i

  -- an entry that keeps the rules is of bytes, where the format's levels and labels are
  module _ (levels : f.levels < 256) (labels : f.labels < 256) where
    labels-low : {before : ℕ} {e : Entry} → Parts f before e → (x : ℕ) → Has x e.labels → x < 256
    labels-low {e = e} p x h =
        ⊎_elim (λ i. omega (arith, (within 1 x f.labels (all-has (λ x. between 1 x f.labels) x (named e) p.labels i)).1))
        (λ i. omega (arith, eqb-true 0 x (all-has (eqb 0) x (drop e.size e.labels) p.zeros i)))
        (has_append x (named e) (drop e.size e.labels) (subst (λ l. Has x l) (sym (take-append-drop e.size e.labels)) h))

    entry_octets : (before : ℕ) (r : List ℕ) → length r ≡ entry_bytes f → entry_kept f before (entry_of f r) ≡ true → Octets r
    unfolding entry_of
    entry_octets before [] long kept = let z : ⊥ = omega (arith, long) in absurd z
    entry_octets before (a ∷ []) long kept = let z : ⊥ = omega (arith, long) in absurd z
    entry_octets before (a ∷ b ∷ []) long kept = let z : ⊥ = omega (arith, long) in absurd z
    entry_octets before (a ∷ b ∷ c ∷ []) long kept = let z : ⊥ = omega (arith, long) in absurd z
    entry_octets before (a ∷ b ∷ c ∷ d ∷ rest) long kept = each
      where
        e : Entry
        e = entry_of f (a ∷ b ∷ c ∷ d ∷ rest)

        p : Parts f before e
        p = entry-parts f before e kept

        each : Octets (a ∷ b ∷ c ∷ d ∷ rest)
        each x (inl q) = omega (arith, q, p.level.1)
        each x (inr (inl q)) = omega (arith, q, p.size.1)
        each x (inr (inr (inl q))) = omega (arith, q, spare_zero before e kept)
        each x (inr (inr (inr (inl q)))) = omega (arith, q, spare_zero before e kept)
        each x (inr (inr (inr (inr h)))) =
            words_octets f.levels (a ∷ b ∷ c ∷ d ∷ []) rest head_bytes refl (omega (arith, long)) (labels-low p) x h

  -- ---- a shape
  module _ (s : List ℕ) (es : List Entry) (passes : tests5_6 f s ≡ given es) where
    -- past 5 and 6 each of its records keeps the rules
    record_kept : (r : List ℕ) → Has r (records (entry_bytes f) (whole (entry_bytes f) s) s) → (before : ℕ) × (entry_kept f before (entry_of f r) ≡ true)
    unfolding entries bad_entry
    record_kept r h =
        let (same, sound, filled, most) = passed5_6 f s es passes in
        rules-each (entry_kept f) level_of 0 es (none-rules (entry_kept f) level_of 0 0 es sound) (entry_of f r)
        (subst (λ l. Has (entry_of f r) l) same (has-map (entry_of f) r (records (entry_bytes f) (whole (entry_bytes f) s) s) h))

    -- A SHAPE PAST 5 AND 6 is one of bytes, where the format's levels and labels are.
    pub octets5_6 : f.levels < 256 → f.labels < 256 → Octets s
    octets5_6 levels labels x h =
        let w = entry_bytes f in
        let (some, short, even) = passed5 f s es passes in
        let (r, there, i) = join-has (λ r. r) x (records w (whole w s) s) (subst (λ l. Has x l) (sym (whole-records w s even)) h) in
        let (before, kept) = record_kept r there in
        entry_octets levels labels before r (file_record w s r there) kept x i

  -- A SHAPE PAST 5 AND 6 is its entries, written back.
  pub entries_back_lem : (s : List ℕ) (es : List Entry) → tests5_6 f s ≡ given es → Octets s → join_map (λ e. entry_back f e.level (named e)) es ≡ s
  unfolding entries
  entries_back_lem s es passes small =
      let w = entry_bytes f in
      let rs = records w (whole w s) s in
      let (same, sound, filled, most) = passed5_6 f s es passes in
      let (some, short, even) = passed5 f s es passes in
      let back : Entry → List ℕ = λ e. entry_back f e.level (named e) in
      let each : (r : List ℕ) → Has r rs → back (entry_of f r) ≡ r = λ r h.
      let (before, kept) = record_kept s es passes r h in
      entry_back_lem before r (file_record w s r h) (record_octets w (whole w s) s r small h) kept in
      ap (join_map back) (sym same) ∙ join_map_lem back (entry_of f) rs ∙ join-same (λ r. back (entry_of f r)) (λ r. r) rs each ∙ whole-records w s even
