-- `names::name_bytes`: the table holds the names. Assumes nothing.
use Prim.Native.Nat.{ℕ}
use mathlib.Core.Path.{◌≡◌, refl, sym}
use mathlib.Core.List.{List, map}
use lib.ListN.{get_or}
use Rattle.std.specs.Borrow.{Bor}
use Rattle.std.proofs.Math.ListN.{get_or-map}
use Rattle.grammar.specs.Names.{names, name_of}
use Rattle.names.proofs.names.name_bytes.Goals as goal

-- the bytes that a place of a table shows
abbrev shown : Bor (List ℕ) → List ℕ
shown b = b.now

-- Place k of a table shows what place k of all that it shows is.
all_shown : (table : List (Bor (List ℕ))) (k : ℕ) (d : Bor (List ℕ)) → (get_or table k d).now ≡ get_or (map shown table) k (d.now)
all_shown table k d = sym (get_or-map shown table k d)

pub returns-clause-name : goal.returns-clause-name
unfolding names name_of
returns-clause-name c = rw all_shown refl
