-- Records that are widened or narrowed: their bytes, and a file of them moved there and back. Assumes nothing.
use Prim.Native.Nat.{ℕ, ◌+◌, ◌*◌, ◌%◌, ◌≤◌, ◌<◌}
use native.Mathlib.Nat.{mul-mod_left}
use native.Mathlib.Omega.{arith}
use mathlib.Core.Path.{◌≡◌, refl, sym, ◌∙◌, ap, ap₂}
use mathlib.Core.List.{List, ◌++◌, map, append_assoc}
use lib.ListN.{length, take, drop, replicate, length-append, length-take, length-drop, length-replicate, take-append-drop}
use lib.Seq.{take_at, drop_at, take-take, drop-drop, take-append-le, length-take-le}
use Rattle.paper.specs.Lists.{Has, join_map, padded}
use Rattle.paper.specs.Format.{Format, base, eight, row_bytes, entry_bytes, records, whole}
use Rattle.paper.specs.Widths.{deeper, record_to, records_to, table_to, shape_to}
use Rattle.paper.proofs.Lists.{join_map_lem, join-same}
use Rattle.paper.proofs.Kept.{padded_longer}
use Rattle.paper.proofs.Bytes.{whole_back, length_back, records_back, file_record, whole-records}
use Rattle.paper.proofs.Calls.{length-records}

-- ---- a record of format f with n levels more, and back
module _ (f : Format) (n : ℕ) where
  abbrev g : Format
  g = deeper f n

  abbrev a : ℕ
  a = entry_bytes f

  abbrev zeros : List ℕ
  zeros = replicate (2 * n) 0

  pub wider : (r : List ℕ) → a ≤ length r → record_to f g r ≡ take a r ++ (zeros ++ drop a r)
  unfolding record_to
  wider r le =
      let more : entry_bytes g ≡ a + 2 * n = omega arith in
      ap (λ c. padded c (take a r) ++ drop a r) more ∙ ap (λ l. l ++ drop a r) (padded_longer a (2 * n) (take a r) (length-take-le a r le))
      ∙ append_assoc (take a r) zeros (drop a r)

  pub narrower : (r : List ℕ) → entry_bytes g ≤ length r → record_to g f r ≡ take a r ++ drop (entry_bytes g) r
  unfolding record_to
  narrower r le =
      let c = entry_bytes g in
      ap (λ l. l ++ drop c r) (take-append-le a (take c r) (replicate a 0) (omega (arith, length-take c r)) ∙ take-take a c r (omega arith))

  pub wider_length : (r : List ℕ) → a ≤ length r → length (record_to f g r) ≡ length r + 2 * n
  wider_length r le =
      ap length (wider r le)
      ∙ (omega (
        arith,
        length-append (take a r) (zeros ++ drop a r),
        length-append zeros (drop a r),
        length-take a r,
        length-drop a r,
        length-replicate {A = ℕ} (2 * n) 0,
      ))

  pub narrower_length : (r : List ℕ) → entry_bytes g ≤ length r → length (record_to g f r) + 2 * n ≡ length r
  narrower_length r le =
      let c = entry_bytes g in
      ap (λ l. length l + 2 * n) (narrower r le) ∙ (omega (arith, length-append (take a r) (drop c r), length-take a r, length-drop c r))

  -- a widened record is narrowed to what it was
  pub record_back : (r : List ℕ) → a ≤ length r → record_to g f (record_to f g r) ≡ r
  record_back r le =
      let q = take a r ++ (zeros ++ drop a r) in
      let front : length (take a r) ≡ a = length-take-le a r le in
      let long : entry_bytes g ≤ length (record_to f g r) = omega (arith, wider_length r le) in
      let past : length (take a r ++ zeros) ≡ entry_bytes g = omega (arith, length-append (take a r) zeros, length-replicate {A = ℕ} (2 * n) 0) in
      narrower (record_to f g r) long ∙ ap (λ l. take a l ++ drop (entry_bytes g) l) (wider r le)
      ∙ ap₂ (λ x y. x ++ y) (take_at (take a r) (zeros ++ drop a r) a front)
      (ap (drop (entry_bytes g)) (sym (append_assoc (take a r) zeros (drop a r))) ∙ drop_at (take a r ++ zeros) (drop a r) (entry_bytes g) past)
      ∙ take-append-drop a r

  -- a narrowed record is widened to what it was, where zeros stood in what it lost
  pub record_forth : (r : List ℕ) → entry_bytes g ≤ length r → take (2 * n) (drop a r) ≡ zeros → record_to f g (record_to g f r) ≡ r
  record_forth r le lost =
      let c = entry_bytes g in
      let front : length (take a r) ≡ a = length-take-le a r (omega arith) in
      let more : a + 2 * n ≡ c = omega arith in
      wider (record_to g f r) (omega (arith, narrower_length r le)) ∙ ap (λ l. take a l ++ (zeros ++ drop a l)) (narrower r le)
      ∙ ap₂ (λ x y. x ++ (zeros ++ y)) (take_at (take a r) (drop c r) a front) (drop_at (take a r) (drop c r) a front)
      ∙ ap₂ (λ x y. take a r ++ (x ++ y)) (sym lost) (ap (λ k. drop k r) (sym more) ∙ sym (drop-drop (2 * n) a r))
      ∙ ap (λ l. take a r ++ l) (take-append-drop (2 * n) (drop a r)) ∙ take-append-drop a r

-- ---- a file moved from records of w bytes to records of v bytes
module _ (f g : Format) (w v : ℕ) (pos : 0 < v) (size : (r : List ℕ) → length r ≡ w → length (record_to f g r) ≡ v) (b : List ℕ) where
  abbrev rs : List (List ℕ)
  rs = records w (whole w b) b

  each : (r : List ℕ) → Has r rs → length (record_to f g r) ≡ v
  each r h = size r (file_record w b r h)

  -- each record is moved for itself
  pub records-moved : records v (whole v (records_to f g w b)) (records_to f g w b) ≡ map (record_to f g) rs
  unfolding records_to
  records-moved =
      ap (λ k. records v k (join_map (record_to f g) rs)) (whole_back v pos (record_to f g) rs each) ∙ records_back v pos (record_to f g) rs each

  pub length_moved : length (records_to f g w b) ≡ whole w b * v
  unfolding records_to
  length_moved = length_back v pos (record_to f g) rs each ∙ ap (λ k. k * v) (length-records w (whole w b) b)

  pub whole-moved : length (records_to f g w b) % v ≡ 0
  whole-moved = ap (λ k. k % v) length_moved ∙ mul-mod_left (whole w b) v

  -- moved back, a file of whole records is what it was where each of its records is
  pub moved_back : length b % w ≡ 0 → ((r : List ℕ) → Has r rs → record_to g f (record_to f g r) ≡ r) → records_to g f v (records_to f g w b) ≡ b
  unfolding records_to
  moved_back e back =
      ap (join_map (record_to g f)) records-moved ∙ join_map_lem (record_to g f) (record_to f g) rs
      ∙ join-same (λ r. record_to g f (record_to f g r)) (λ r. r) rs back ∙ whole-records w b e

-- ---- records of w bytes widened by n levels, and narrowed again
module _ (f : Format) (n w v : ℕ) (le : entry_bytes f ≤ w) (more : v ≡ w + 2 * n) where
  pub wide-size : (r : List ℕ) → length r ≡ w → length (record_to f (deeper f n) r) ≡ v
  wide-size r e = omega (arith, wider_length f n r (omega arith))

  pub narrow_size : (r : List ℕ) → length r ≡ v → length (record_to (deeper f n) f r) ≡ w
  narrow_size r e = omega (arith, narrower_length f n r (omega arith))

  narrow_widened_records : (b : List ℕ) → length b % w ≡ 0 → records_to (deeper f n) f v (records_to f (deeper f n) w b) ≡ b
  narrow_widened_records b e =
      moved_back f (deeper f n) w v (omega arith) wide-size b e (λ r h. record_back f n r (omega (arith, file_record w b r h)))

-- NARROWING A WIDENED TABLE gives back the same bytes, where it is one of whole records.
pub narrow_widened : (f : Format) (n : ℕ) (b : List ℕ) → length b % row_bytes f ≡ 0 → table_to (deeper f n) f (table_to f (deeper f n) b) ≡ b
narrow_widened f n b = narrow_widened_records f n (row_bytes f) (row_bytes (deeper f n)) (omega arith) (omega arith) b

-- So does narrowing a widened shape.
pub narrow_widened_shape : (f : Format) (n : ℕ) (s : List ℕ) → length s % entry_bytes f ≡ 0 → shape_to (deeper f n) f (shape_to f (deeper f n) s) ≡ s
narrow_widened_shape f n s = narrow_widened_records f n (entry_bytes f) (entry_bytes (deeper f n)) (omega arith) (omega arith) s

-- Eight levels are two more than document 01's.
pub eight-deeper : deeper base 2 ≡ eight
unfolding base eight
eight-deeper = refl
