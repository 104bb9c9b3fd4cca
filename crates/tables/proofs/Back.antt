-- What a look-up hands back, from what the paper says of it. Assumes nothing.
use Prim.Native.Nat.{ℕ, zero, suc, ◌+◌, ◌*◌}
use native.Mathlib.Omega.{arith}
use mathlib.Core.Path.{◌≡◌, refl, sym, ◌∙◌, ap}
use mathlib.Core.List.{List, []}
use lib.ListN.{take, drop}
use denote.Ref.{Bor}
use Rattle.paper.specs.Format.{Format, row_bytes}
use Rattle.paper.specs.Calls.{Reply, look_up}
use Rattle.octets.specs.Part.{OwnFrom}
use Rattle.tables.specs.Reply.{start_of, HandsBack}

-- a refusal's empty part begins at the table's first byte
pub refused_start : (f : Format) (k i : ℕ) → (k ≡ 0 → ⊥) → start_of f k i ≡ 0
refused_start f zero i ne = absurd (ne refl)
refused_start f (suc k) i ne = refl

module _ (f : Format) (t : Bor (List ℕ)) (i : ℕ) where
  -- a look-up that is refused
  pub nothing_back : (k p : ℕ) → (k ≡ 0 → ⊥) → look_up f t.now i ≡ record { number = k; place = p; rest = [] }
      → HandsBack f t i (record { ref_ptr = (t.ref_ptr.0, 0 + t.ref_ptr.1); now = [] })
  nothing_back k p ne e =
      let start : start_of f (look_up f t.now i).number i ≡ 0 = ap (λ (r : Reply (List ℕ)). start_of f r.number i) e ∙ refused_start f k i ne in
      (sym (ap (λ (r : Reply (List ℕ)). r.rest) e), (refl, omega (arith, start)))

  -- a look-up that is accepted
  pub row_back_lem : (p : Bor (List ℕ)) → p.now ≡ take (row_bytes f) (drop (row_bytes f * i) t.now) → OwnFrom t (row_bytes f * i) p
      → look_up f t.now i ≡ record { number = 0; place = 0; rest = take (row_bytes f) (drop (row_bytes f * i) t.now) } → HandsBack f t i p
  row_back_lem p is own e =
      let start : start_of f (look_up f t.now i).number i ≡ row_bytes f * i = ap (λ (r : Reply (List ℕ)). start_of f r.number i) e in
      (is ∙ sym (ap (λ (r : Reply (List ℕ)). r.rest) e), (own.0, omega (arith, own.1, start)))
