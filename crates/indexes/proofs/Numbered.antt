-- Rows are alike exactly where their types have one number. Assumes nothing.
use Prim.Native.Nat.{ℕ, ◌<◌}
use native.Mathlib.Omega.{arith}
use mathlib.Core.Path.{◌≡◌, sym, ◌∙◌, ap}
use mathlib.Core.List.{List, [], map}
use lib.ListN.{length, get_or, length-map}
use lib.Seq.{ext_get_or, take_all}
use Rattle.paper.specs.Lists.{Has}
use Rattle.paper.specs.Format.{Format, row_bytes, whole}
use Rattle.paper.specs.Tables as Tables
use Rattle.paper.specs.Tables.{row_types, types, type_number}
use Rattle.paper.proofs.Lists.{get_d_has}
use Rattle.paper.proofs.Tables.{step, length-ways, has-distinct, number_same}
use Rattle.paper.proofs.Calls.{count-rows}
use Rattle.tables.proofs.Rows.{rec}
use Rattle.tables.proofs.Laws.{dewey-length}
use Rattle.types.specs.Types.{kinds}
use Rattle.types.proofs.Listed.{map_at}
use Rattle.closest.specs.Runs.{SoundRows, LevelsOf, Levelled}
use Rattle.closest.proofs.Nodes.{row-level, length-kinds}
use Rattle.indexes.specs.Labels.{LabelLists, Alike, Numbers}
use Rattle.indexes.proofs.Labelled.{way_long}

module _ (f : Format) (n : ℕ) (t levels : List ℕ) (sound : SoundRows f n t) (ls : LevelsOf f n t levels) where
  abbrev rs : List Tables.Row
  rs = Tables.rows f t

  abbrev ws : List (List ℕ)
  ws = row_types rs

  in_table : (i : ℕ) → i < n → i < whole (row_bytes f) t
  in_table i lt = omega (arith, sound.rows_n, count-rows f t)

  -- the rows with the numbers of their types, however many there are
  pub levelled : Levelled f n t levels (kinds (Tables.rows f t))
  levelled = record {
    typed = record { sound = sound.sound; rows_n = sound.rows_n; listed = take_all n (kinds rs) (omega (arith, length-kinds f t, sound.rows_n)) };
    level-is = ls.level-is;
  }

  -- a row's type is as long as its level
  long : (i : ℕ) → i < n → length (get_or ws i []) ≡ get_or levels i 0
  long i lt =
      let b = rec (row_bytes f) i t in
      way_long f t sound.sound.kept i (in_table i lt)
      ∙ sym (ls.level-is i lt ∙ dewey-length f b (row-level f t sound.sound.kept i (in_table i lt)).1)

  length_ws : length ws ≡ n
  unfolding row_types
  length_ws = length-ways [] (map step rs) ∙ length-map rs step ∙ sym sound.rows_n

  number : (i : ℕ) → i < n → get_or (kinds rs) i 0 ≡ type_number (types rs) (get_or ws i [])
  unfolding kinds
  number i lt = map_at (type_number (types rs)) ws i (omega (arith, length_ws))

  listed : (i : ℕ) → i < n → Has (get_or ws i []) (types rs)
  unfolding types
  listed i lt = has-distinct (get_or ws i []) ws (get_d_has [] ws i (omega (arith, length_ws)))

  pub numbers : (labels : List ℕ) → LabelLists n (row_types (Tables.rows f t)) labels → Numbers n levels labels (kinds (Tables.rows f t))
  numbers labels lists i j li lj = (to, from)
    where
      to : Alike levels labels i j → get_or (kinds rs) j 0 ≡ get_or (kinds rs) i 0
      to alike =
          number j lj ∙ ap (type_number (types rs)) (ext_get_or 0 (get_or ws j []) (get_or ws i []) (omega (arith, long i li, long j lj, alike.level)) (λ m lm.
          sym (lists j m lj lm) ∙ sym (alike.label m (omega (arith, long j lj, alike.level))) ∙ lists i m li (omega (arith, long i li, long j lj, alike.level))))
          ∙ sym (number i li)

      from : get_or (kinds rs) j 0 ≡ get_or (kinds rs) i 0 → Alike levels labels i j
      from e =
          let q = number_same (get_or ws j []) (get_or ws i []) (types rs) (listed j lj) (listed i li) (sym (number j lj) ∙ e ∙ number i li) in
          record {
            level = sym (long j lj) ∙ ap length q ∙ long i li;
            label = λ m lm. lists i m li (omega (arith, long i li)) ∙ ap (λ w. get_or w m 0) (sym q) ∙ sym (lists j m lj (omega (arith, long i li, ap length q)));
          }
