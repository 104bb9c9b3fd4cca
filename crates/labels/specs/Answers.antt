-- What converting answers and leaves, in the paper's terms. Assumes nothing.
use Rattle.std.specs.Prelude.{ℕ, ◌≡◌, List, Result}
use Rattle.paper.specs.Calls.{Reply}
use Rattle.paper.specs.Labels as Labels
use Rattle.paper.specs.Labels.{Converting, none_converted}
use Rattle.paper.specs.Refusals.{reply_of}
use Rattle.paper.specs.declared.refusal.Refusal.{Refusal}
use Rattle.labels.specs.declared.convert.Converted.{Converted}

-- the counts of rows and entries
abbrev pub counts_of : Converted → Labels.Converted
counts_of r = record { rows = r.rows; entries = r.entries }

-- number, place, and the counts
abbrev pub converted : Result Converted Refusal → Reply Labels.Converted
converted r = reply_of none_converted counts_of r

-- The answer, and every byte lent for the table and for the shape, are the definition's.
abbrev pub Converts : Converting → Reply Labels.Converted → List ℕ → List ℕ → Type 0
Converts c r new-table new-shape = (r ≡ c.reply) × (new-table ≡ c.table) × (new-shape ≡ c.shape)
