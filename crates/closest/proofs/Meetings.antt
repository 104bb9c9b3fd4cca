-- The walk that finds how deep wanted types meet the others: each row's level, and a row's turn place by place. Assumes nothing.
use Prim.Native.Nat.{ℕ, suc, ◌+◌, ◌*◌, ◌≤◌, ◌<◌, max}
use native.Mathlib.Omega.{arith}
use native.Mathlib.Numerals.{add-one}
use mathlib.Core.Path.{◌≡◌, refl, sym, ◌∙◌, ap, ap₂, subst}
use mathlib.Core.Logic.{◌⊎◌, inl, inr}
use mathlib.Core.Bool.{Bool, true, false}
use mathlib.Core.List.{List}
use lib.Dec.{eqb, ltb}
use lib.ListN.{length, get_or}
use borrow.Author.Tests.{eqb-true, eqb-false, ltb-true, ltb-false}
use Rattle.paper.specs.Format.{Format, most_rows, most_types, most_entries, row_bytes, byte, whole}
use Rattle.paper.proofs.Calls.{count-rows}
use Rattle.tables.proofs.Rows.{rec, row_in}
use Rattle.tables.proofs.Laws.{dewey-length}
use Rattle.closest.specs.Runs.{SoundRows, LevelsOf}
use Rattle.closest.specs.Deepest.{Onward, Deepened, Meetings, onward, nearest, deepest}
use Rattle.closest.proofs.Nodes.{row-level}
use Rattle.closest.proofs.Filled.{Filled}

-- ---- each row's level
-- the first byte of a record
abbrev pub first_byte : ℕ → List ℕ → ℕ → ℕ
first_byte w t i = byte (rec w i t) 0

module _ (f : Format) (rows : ℕ) (t : List ℕ) (sound : SoundRows f rows t) (w : ℕ) (wide : w ≡ row_bytes f) where
  inside : (i : ℕ) → i < rows → i < whole (row_bytes f) t
  inside i lt = omega (arith, count-rows f t, sound.rows_n)

  pub row_inside : (i : ℕ) → i < rows → w * i + w ≤ length t
  row_inside i lt = rw wide (row_in (row_bytes f) i t (inside i lt))

  level_kept_lem : (i : ℕ) → i < rows → (1 ≤ first_byte w t i) × (first_byte w t i ≤ f.levels)
  level_kept_lem i lt = rw wide (row-level f t sound.sound.kept i (inside i lt))

  -- the first bytes of a sound table's rows are their levels
  pub levels_read : (i : ℕ) (levels : List ℕ) → i ≡ rows → Filled (first_byte w t) 0 most_rows i levels → LevelsOf f rows t levels
  levels_read i levels all filled = record {
    level-is = λ j lt. at j lt ∙ ap (λ n. first_byte n t j) wide ∙ sym (dewey-length f (rec (row_bytes f) j t) (rw wide at (level_kept_lem j lt).1));
    level-some = λ j lt. omega (arith, at j lt, (level_kept_lem j lt).0);
    level_most = λ j lt. omega (arith, at j lt, (level_kept_lem j lt).1);
  }
    where
      at : (j : ℕ) → j < rows → get_or levels j 0 ≡ first_byte w t j
      at j lt = filled.at j (omega arith)

-- ---- the walk along the rows
-- after i rows: how deep the last of them meets the wanted types, and how deep the rows of each type do
pub record Walked (levels types wanted : List ℕ) (i : ℕ) (near places : List ℕ) : Type 0 where
  pub long : length places ≡ most_entries * most_types
  pub nears : (e : ℕ) → e < most_entries → get_or near e 0 ≡ nearest levels types (get_or wanted e 0) i
  pub deeps : Meetings i levels types wanted places

pub walked_none : (levels types wanted near places : List ℕ) → length places ≡ most_entries * most_types
    → ((e : ℕ) → get_or near e 0 ≡ 0) → ((j : ℕ) → get_or places j 0 ≡ 0) → Walked levels types wanted 0 near places
unfolding nearest deepest
walked_none levels types wanted near places long zn zp =
    record { long = long; nears = λ e le. zn e; deeps = λ k e lk le. zp (most_entries * k + e) }

module _ {levels types wanted : List ℕ} {i : ℕ} {near places : List ℕ} (w : Walked levels types wanted i near places) (next : List ℕ)
    (on : Onward wanted (get_or types i 0) (get_or levels i 0) near next) where
  abbrev own : ℕ
  own = get_or types i 0

  nears_more : (e : ℕ) → e < most_entries → get_or next e 0 ≡ nearest levels types (get_or wanted e 0) (suc i)
  unfolding nearest
  nears_more e le = on e le ∙ ap (onward own (get_or wanted e 0) (get_or levels i 0)) (w.nears e le)

  deeps_more : (after : List ℕ) → Deepened most_entries (most_entries * get_or types i 0) next places after → Meetings (suc i) levels types wanted after
  unfolding deepest
  deeps_more after d k e lk le = go (eqb own k) refl
    where
      go : (b : Bool) → eqb own k ≡ b → get_or after (most_entries * k + e) 0
          ≡ elim b as (λ _. ℕ) [
            | true ↦ max (deepest levels types (get_or wanted e 0) k i) (nearest levels types (get_or wanted e 0) (suc i))
            | false ↦ deepest levels types (get_or wanted e 0) k i
          ]
      go true q =
          subst (λ x. get_or after (most_entries * x + e) 0 ≡ max (get_or places (most_entries * x + e) 0) (get_or next e 0)) (eqb-true own k q) (d.deeper e le)
          ∙ ap₂ max (w.deeps k e lk le) (nears_more e le)
      go false q = d.others (most_entries * k + e) (apart (ltb k own) refl) ∙ w.deeps k e lk le
        where
          other : own ≡ k → ⊥
          other = eqb-false own k q

          apart : (b : Bool) → ltb k own ≡ b → (most_entries * k + e < most_entries * own) ⊎ (most_entries * own + most_entries ≤ most_entries * k + e)
          apart true l = inl (omega (arith, ltb-true k own l))
          apart false l = inr (omega (arith, ltb-false k own l, other))

  -- one row more, of type k
  pub walked_more : (k : ℕ) (after : List ℕ) → k ≡ get_or types i 0 → Deepened most_entries (most_entries * k) next places after
      → length after ≡ most_entries * most_types → Walked levels types wanted (i + 1) next after
  walked_more k after q d long =
      rw (add-one i) (record { long = long; nears = nears_more; deeps = deeps_more after (rw q at d) })
