-- Records of one format as records of another: one of them, and one after the other. Assumes nothing.
use Prim.Native.Nat.{ℕ, zero, suc, ◌+◌, ◌*◌, ◌-◌, ◌≤◌, ◌<◌, min}
use native.Mathlib.Nat.{mul-div-le}
use native.Mathlib.Omega.{arith}
use mathlib.Core.Path.{◌≡◌, refl, sym, ◌∙◌, ap, subst, subst₂}
use mathlib.Core.Bool.{Bool, true, false}
use mathlib.Core.List.{List, [], ◌∷◌, ◌++◌}
use lib.Dec.{ltb}
use lib.ListN.{length, get_or, take, drop, replicate, length-append, length-drop}
use lib.Seq.{sets, get_or-take, take_all}
use borrow.Author.Tests.{ltb-true, ltb-false}
use borrow.Rule.Slice.PartMut.{put_mid}
use Rattle.std.proofs.Math.Seq.{take-append-add, take-take}
use Rattle.std.proofs.lemmas.List.{length-take-le, take-append-le, take-replicate, append-nil}
use Rattle.std.proofs.lemmas.List.Edits.{sets-eq}
use Rattle.std.proofs.lemmas.Grind.{common_steps}
use Rattle.paper.specs.Lists.{join_map, padded}
use Rattle.paper.specs.Format.{Format, entry_bytes, records, whole}
use Rattle.paper.specs.Widths.{record_to, records_to}
use Rattle.paper.proofs.Reread.{length-padded}
use Rattle.octets.proofs.Writing.{all_left, part_written}
use Rattle.tables.proofs.Walks.{joined_length}
use Rattle.widths.specs.Moves.{fitted, moved_bytes}

-- zeros behind a list are what is read past its end
filled_at : (l : List ℕ) (m k : ℕ) → get_or (l ++ replicate m 0) k 0 ≡ get_or l k 0
filled_at [] zero k = refl
filled_at [] (suc m) zero = refl
filled_at [] (suc m) (suc k) = filled_at [] m k
filled_at (x ∷ l) m zero = refl
filled_at (x ∷ l) m (suc k) = filled_at l m k

pub padded-at : (n : ℕ) (l : List ℕ) (k : ℕ) → k < n → get_or (padded n l) k 0 ≡ get_or l k 0
padded-at n l k lt = get_or-take n (l ++ replicate n 0) k 0 lt ∙ filled_at l n k

-- A list that is cut or filled is what is kept of it, and zeros.
module _ (r : List ℕ) (from to : ℕ) (long : from ≤ length r) where
  filled_up : (m : ℕ) → to ≡ length (take from r) + m → padded to (take from r) ≡ take from r ++ replicate m 0
  filled_up m e =
      ap (λ n. take n (take from r ++ replicate to 0)) e ∙ take-append-add (take from r) (replicate to 0) m
      ∙ ap (λ l. take from r ++ l) (take-replicate m to 0 (omega arith))

  cut_off : to ≤ from → padded to (take from r) ≡ take to r ++ replicate 0 0
  cut_off le =
      take-append-le to (take from r) (replicate to 0) (omega (arith, length-take-le from r long)) ∙ take-take to from r le ∙ sym (append-nil (take to r))

  pub padded_parts : (kept : ℕ) → kept ≡ min from to → padded to (take from r) ≡ take kept r ++ replicate (to - kept) 0
  padded_parts kept least = go (ltb kept to) refl
    where
      go : (b : Bool) → ltb kept to ≡ b → padded to (take from r) ≡ take kept r ++ replicate (to - kept) 0
      go true e =
          let lt = ltb-true kept to e in
          subst (λ n. padded to (take from r) ≡ take n r ++ replicate (to - kept) 0) (omega (arith, least))
          (filled_up (to - kept) (omega (arith, least, length-take-le from r long)))
      go false e =
          let le = ltb-false kept to e in
          let all : to ≡ kept = omega (arith, least) in
          let none : 0 ≡ to - kept = omega arith in
          subst₂ (λ n m. padded to (take from r) ≡ take n r ++ replicate m 0) all none (cut_off (omega (arith, least)))

-- Two parts of a list, one behind the other, are written as one.
part_put : (at k : ℕ) (l v : List ℕ) → at + k ≤ length l → k ≡ length v → put_mid at k l v ≡ sets l at v
part_put at k l v fits e = grind (arith, common_steps, sets-eq)

pub parts_put : (at m next n : ℕ) (l u v : List ℕ) → next ≡ at + m → next + n ≤ length l → m ≡ length u → n ≡ length v
    → put_mid next n (put_mid at m l u) v ≡ sets l at (u ++ v)
parts_put at m next n l u v e fits em en =
    let first = part_put at m l u (omega arith) em in
    let w = part_written (all_left l at (u ++ v) at refl) u v refl (put_mid at m l u) first next (omega arith) in
    part_put next n (put_mid at m l u) v (omega (arith, w.as_long)) en ∙ w.asked

-- ---- one record
-- Its list, cut or filled, and the rest behind it are written as one.
pub record_written : (r : List ℕ) (from to at : ℕ) (l l₁ l₂ : List ℕ) → l₁ ≡ sets l at (padded to (take from r))
    → l₂ ≡ sets l₁ (at + to) (take (length r - from) (drop from r)) → l₂ ≡ sets l at (fitted from to r)
record_written r from to at l l₁ l₂ e₁ e₂ =
    let a = padded to (take from r) in
    let w = part_written (all_left l at (fitted from to r) at refl) a (drop from r) refl l₁ e₁ (at + to) (omega (arith, length-padded to (take from r))) in
    e₂ ∙ ap (sets l₁ (at + to)) (take_all (length r - from) (drop from r) (omega (arith, length-drop from r))) ∙ w.asked

pub fitted-length : (from to : ℕ) (r : List ℕ) → length (fitted from to r) ≡ moved_bytes (length r) from to
fitted-length from to r =
    omega (arith, length-append (padded to (take from r)) (drop from r), length-padded to (take from r), length-drop from r)

-- a record of w bytes becomes one of so many
pub fitted_as : (w from to : ℕ) (r : List ℕ) → length r ≡ w → length (fitted from to r) ≡ moved_bytes w from to
fitted_as w from to r e = fitted-length from to r ∙ ap (λ k. moved_bytes k from to) e

-- ---- one after the other
-- The records of a file of format f, moved to format g, are so written.
module _ (f g : Format) (w : ℕ) (b : List ℕ) (from to n : ℕ) (ef : from ≡ entry_bytes f) (eg : to ≡ entry_bytes g) (en : n ≡ whole w b) where
  pub records_to_lem : join_map (fitted from to) (records w n b) ≡ records_to f g w b
  unfolding records_to record_to
  records_to_lem = λ i. join_map (fitted (ef i) (eg i)) (records w (en i) b)

  pub records-length : length (records_to f g w b) ≡ moved_bytes w from to * n
  records-length =
      sym (ap length records_to_lem) ∙ joined_length (fitted from to) w (moved_bytes w from to) (fitted_as w from to) n b
      (omega (arith, ap (λ k. w * k) en, mul-div-le (length b) w))
