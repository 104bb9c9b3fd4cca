-- The entries of a shape one by one. Assumes nothing.
use Prim.Native.Nat.{ℕ, suc, ◌≤◌, ◌<◌}
use native.Mathlib.Omega.{arith}
use mathlib.Core.Path.{◌≡◌, refl}
use mathlib.Core.Bool.{Bool, true, false, ◌&&◌, false≢true}
use mathlib.Core.List.{List, [], ◌∷◌}
use mathlib.Core.Option.{none}
use lib.Dec.{leb, eqb}
use lib.ListN.{drop, drop_of_length-le}
use borrow.Author.Tests.{leb-true}
use Rattle.paper.specs.Lists.{Has, all, between}
use Rattle.paper.specs.Format.{Format, entry_bytes, byte, whole}
use Rattle.paper.specs.Shapes.{Entry, entry_of, entries, named, level_kept, entry_kept, bad_entry}
use Rattle.paper.proofs.Lists.{both}
use Rattle.paper.proofs.Tables.{none-rules, rules-each}
use Rattle.paper.proofs.Calls.{count_entries}
use Rattle.tables.proofs.Rows.{rec, drop-records}
use Rattle.types.proofs.Listed.{drop-has}

-- ---- entry i
abbrev pub entry : Format → List ℕ → ℕ → Entry
entry f s i = entry_of f (rec (entry_bytes f) i s)

pub entries_from_lem : (f : Format) (s : List ℕ) (i : ℕ) → i < whole (entry_bytes f) s → drop i (entries f s) ≡ entry f s i ∷ drop (suc i) (entries f s)
unfolding entries
entries_from_lem f s i lt = drop-records (entry_of f) (entry_bytes f) (whole (entry_bytes f) s) s i lt

pub entries_end : (f : Format) (s : List ℕ) (i : ℕ) → whole (entry_bytes f) s ≤ i → drop i (entries f s) ≡ []
entries_end f s i le = drop_of_length-le (entries f s) {i = i} (omega (arith, count_entries f s))

-- the type that an entry names has a length of the format
kept_size : (f : Format) (before : ℕ) (e : Entry) → entry_kept f before e ≡ true → (1 ≤ e.size) × (e.size ≤ f.levels)
unfolding entry_kept
kept_size f before e h =
    let k =
    second (between 1 e.level f.levels) (between 1 e.size f.levels) (eqb e.spare 0) (all (λ x. between 1 x f.labels) (named e))
    (all (eqb 0) (drop e.size e.labels)) (level_kept before e.level) h in
    let b = both (leb 1 e.size) (leb e.size f.levels) k in
    (leb-true 1 e.size b.0, leb-true e.size f.levels b.1)
  where
    second : (a b c d e g : Bool) → a && b && c && d && e && g ≡ true → b ≡ true
    second true true c d e g h = refl
    second true false c d e g h = h
    second false b c d e g h = absurd (false≢true h)

module _ (f : Format) (s : List ℕ) (i : ℕ) (lt : i < whole (entry_bytes f) s) where
  has-entry : Has (entry f s i) (entries f s)
  has-entry = drop-has (entries f s) i (entry f s i) (drop (suc i) (entries f s)) (entries_from_lem f s i lt)

  pub entry-size : bad_entry f (entries f s) ≡ none → (1 ≤ byte (rec (entry_bytes f) i s) 1) × (byte (rec (entry_bytes f) i s) 1 ≤ f.levels)
  unfolding bad_entry entry_of
  entry-size sound =
      let level : Entry → ℕ = λ e. e.level in
      let (b, k) = rules-each (entry_kept f) level 0 (entries f s) (none-rules (entry_kept f) level 0 0 (entries f s) sound) (entry f s i) has-entry in
      kept_size f b (entry f s i) k
