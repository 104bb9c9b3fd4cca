-- A record written in its three parts, and a file record by record. Assumes nothing.
use Prim.Native.Nat.{ℕ, ◌+◌, ◌*◌, ◌-◌, ◌≤◌}
use native.Mathlib.Omega.{arith}
use mathlib.Core.Path.{◌≡◌, refl, ◌∙◌, ap}
use mathlib.Core.List.{List, ◌++◌, map}
use lib.ListN.{length, take, drop, length-drop}
use lib.Seq.{sets, take_all}
use Rattle.paper.specs.Lists.{join_map}
use Rattle.paper.specs.Format.{bytes, words}
use Rattle.paper.specs.Labels.{Pair, converted, record_with}
use Rattle.keeping.proofs.ConvertedFiles.{parts, front, middle, length-with}
use Rattle.octets.proofs.Writing.{all_left, part_written}

module _ (ps : List Pair) (i n : ℕ) where
  -- What stands before the labels, what they become, and what stands past them are written as one.
  pub record_written : (r : List ℕ) → i + 2 * n ≤ length r → (at : ℕ) (l l₁ l₂ l₃ : List ℕ) → l₁ ≡ sets l at (take i r)
      → l₂ ≡ sets l₁ (at + i) (join_map (bytes 2) (map (converted ps) (words n r i)))
      → l₃ ≡ sets l₂ (at + (i + 2 * n)) (take (length r - (i + 2 * n)) (drop (i + 2 * n) r)) → l₃ ≡ sets l at (record_with ps i n r)
  record_written r le at l l₁ l₂ l₃ e₁ e₂ e₃ =
      let labels = join_map (bytes 2) (map (converted ps) (words n r i)) in
      let back = drop (i + 2 * n) r in
      let w₁ = part_written (all_left l at (record_with ps i n r) at refl) (take i r) (labels ++ back) (parts ps i n r le) l₁
      e₁ (at + i) (omega (arith, front ps i n r le)) in
      let w₂ = part_written w₁ labels back refl l₂ e₂ (at + (i + 2 * n)) (omega (arith, middle ps i n r le)) in
      e₃ ∙ ap (sets l₂ (at + (i + 2 * n))) (take_all (length r - (i + 2 * n)) back (omega (arith, length-drop (i + 2 * n) r))) ∙ w₂.asked

  -- A record has as many bytes as before.
  pub as_long : (w : ℕ) → i + 2 * n ≤ w → (r : List ℕ) → length r ≡ w → length (record_with ps i n r) ≡ w
  as_long w le r e = length-with ps i n r (omega (arith, e)) ∙ e
