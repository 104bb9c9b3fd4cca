-- The walk that looks for the first entry that breaks a rule. Assumes nothing.
use Prim.Native.Nat.{ℕ, suc, ◌+◌, ◌≤◌, ◌<◌}
use native.Mathlib.Numerals.{add-one}
use native.Mathlib.Omega.{arith}
use mathlib.Core.Path.{◌≡◌, refl, sym, ◌∙◌, ap, ap₂}
use mathlib.Core.Bool.{true, false}
use mathlib.Core.List.{List, ◌∷◌}
use mathlib.Core.Option.{none, some}
use lib.ListN.{drop}
use Rattle.paper.specs.Lists.{first_break}
use Rattle.paper.specs.Format.{Format, entry_bytes, byte, whole}
use Rattle.paper.specs.Shapes.{Entry, entry_of, entries, entry_kept, bad_entry}
use Rattle.paper.proofs.Shapes.{level_of}
use Rattle.tables.proofs.Rows.{rec}
use Rattle.shapes.proofs.Entries.{entries_from_lem, entries_end}

-- ---- the walk: from entry i on, after one of level `before`, the first break is the shape's
abbrev pub Search : Format → List ℕ → ℕ → ℕ → Type 0
Search f s before i = (before ≤ 255) × (first_break (entry_kept f) level_of i before (drop i (entries f s)) ≡ bad_entry f (entries f s))

pub search_start : (f : Format) (s : List ℕ) → Search f s 0 0
unfolding bad_entry
search_start f s = (omega arith, refl)

module _ (f : Format) (s : List ℕ) (n : ℕ) (counted : n ≡ whole (entry_bytes f) s) (before i : ℕ) (walk : Search f s before i) where
  module _ (lt : i < n) (e : List ℕ) (is-entry : e ≡ rec (entry_bytes f) i s) where
    unrolled : bad_entry f (entries f s) ≡ first_break (entry_kept f) level_of i before (entry_of f e ∷ drop (suc i) (entries f s))
    unrolled =
        sym walk.1
        ∙ ap (first_break (entry_kept f) level_of i before)
        (entries_from_lem f s i (omega arith)
        ∙ ap {B = List Entry} (λ b. entry_of f b ∷ drop (suc i) (entries f s)) (sym is-entry))

    -- An entry that breaks a rule is the first that does.
    pub search_stop : entry_kept f before (entry_of f e) ≡ false → bad_entry f (entries f s) ≡ some i
    search_stop breaks = unrolled ∙ rw (breaks, first_break) refl

    -- After an entry that keeps the rules the walk goes on from its level.
    pub search_step : entry_kept f before (entry_of f e) ≡ true → (level : ℕ) → level ≡ byte e 0 → level ≤ 255 → Search f s level (i + 1)
    unfolding entry_of
    search_step keeps level is-level fits = (
      fits,
      ap₂ (λ l k. first_break (entry_kept f) level_of k l (drop k (entries f s))) is-level (add-one i)
          ∙ sym (unrolled ∙ rw (keeps, first_break) refl),
    )

  -- Past the last entry none breaks a rule.
  pub search_end : n ≤ i → bad_entry f (entries f s) ≡ none
  search_end le = sym walk.1 ∙ ap (first_break (entry_kept f) level_of i before) (entries_end f s i (omega arith))
