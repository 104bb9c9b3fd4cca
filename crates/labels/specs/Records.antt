-- The labels of the records of a file: n in each, from byte i on. Assumes nothing.
use Rattle.std.specs.Prelude.{ℕ, Bool, List, ◌++◌, eqb}
use Rattle.paper.specs.Lists.{any, join_map}
use Rattle.paper.specs.Format.{Format, head_bytes, row_bytes, entry_bytes, words, records, whole}
use Rattle.paper.specs.Labels.{Pair, unlisted, label_at}

-- The record has the label x.
abbrev pub has_label : ℕ → ℕ → ℕ → List ℕ → Bool
has_label i n x r = any (eqb x) (words n r i)

-- Some label of the record is too large and not in the list.
abbrev pub any_unlisted : Format → List Pair → ℕ → ℕ → List ℕ → Bool
any_unlisted f ps i n r = any (unlisted f ps) (words n r i)

-- the labels of the first `count` records of w bytes
abbrev pub file_labels : ℕ → ℕ → ℕ → ℕ → List ℕ → List ℕ
file_labels w count i n b = join_map (λ (r : List ℕ). words n r i) (records w count b)

-- those of a table and a shape; the zeros past an entry's type are among them
unfoldable pub standing : Format → List ℕ → List ℕ → List ℕ
standing f b s =
    file_labels (row_bytes f) (whole (row_bytes f) b) label_at 1 b ++ file_labels (entry_bytes f) (whole (entry_bytes f) s) head_bytes f.levels s
