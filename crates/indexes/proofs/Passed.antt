-- A table that passes tests 1 to 3. Assumes nothing.
use native.Mathlib.Omega.{arith}
use mathlib.Core.Path.{◌≡◌, sym, ◌∙◌}
use Prim.Native.Nat.{ℕ}
use mathlib.Core.List.{List}
use Rattle.paper.specs.Format.{Format}
use Rattle.paper.specs.Tables.{rows}
use Rattle.paper.specs.Calls.{given, examine, tests1_3}
use Rattle.paper.proofs.Calls.{passed1_3, few_rows, count-rows}
use Rattle.octets.specs.Served.{Served}
use Rattle.tables.specs.Reply.{examined}
use Rattle.std.specs.Prelude.{Ok}
use Rattle.tables.proofs.Examine.{tests_give}
use Rattle.closest.specs.Runs.{SoundRows}

pub passed : {f : Format} {t : List ℕ} → Served f → (n : ℕ) → examined (Ok n) ≡ examine f t → (tests1_3 f t ≡ given (rows f t)) × SoundRows f n t
passed {f} {t} served n e =
    let (g, w) = tests_give f t n e in
    let (same, kept, short) = passed1_3 f t (rows f t) g in (
      g,
      record {
        sound = record { kept = kept; shallow = omega (arith, served.shallow) };
        rows_n = w ∙ sym (count-rows f t);
        few = omega (arith, w, few_rows f t short, count-rows f t);
      },
    )
