-- What the calls' answers say, in the paper's terms. Assumes nothing.
use Rattle.std.specs.Prelude.{ℕ, zero, suc, ◌*◌, ◌≡◌, List, Result}
use Rattle.std.specs.Borrow.{Bor}
use Rattle.paper.specs.Format.{Format, row_bytes}
use Rattle.paper.specs.Calls.{Reply, look_up}
use Rattle.paper.specs.Refusals.{reply_of}
use Rattle.paper.specs.declared.refusal.Refusal.{Refusal}
use Rattle.octets.specs.Part.{OwnFrom}

-- examining: number, place, count of rows
abbrev pub examined : Result ℕ Refusal → Reply ℕ
examined r = reply_of 0 (λ rows. rows) r

-- where row i begins in the table that it is looked up in; refused, with a number above 0: the table's first byte
abbrev pub start_of : Format → ℕ → ℕ → ℕ
start_of f zero i = row_bytes f * i
start_of f (suc k) i = 0

-- what the look-up of row i in the lent table t hands back: the row's own bytes of t; refused, an empty part of it
abbrev pub HandsBack : Format → Bor (List ℕ) → ℕ → Bor (List ℕ) → Type 0
HandsBack f t i p = (p.now ≡ (look_up f t.now i).rest) × OwnFrom t (start_of f (look_up f t.now i).number i) p
