-- The type list of a table tells its types. Assumes nothing.
use Prim.Native.Nat.{ℕ, ◌≤◌, ◌<◌}
use native.Mathlib.Omega.{arith}
use mathlib.Core.Path.{◌≡◌, sym, ap, subst}
use mathlib.Core.List.{List, [], ◌∷◌, map}
use lib.ListN.{length, take, length-append}
use lib.Seq.{take-length}
use Rattle.paper.specs.Lists.{Has, ways}
use Rattle.paper.specs.Tables.{Row, row_types, types}
use Rattle.paper.proofs.Tables.{step, has-distinct, distinct-has}
use Rattle.types.specs.Types.{Lists, Told}
use Rattle.types.specs.declared.list.Types.{Types}
use Rattle.types.proofs.Ways.{closed, way_whole}
use Rattle.types.proofs.Few.{few_from}

-- no type is empty
whole_type : (rs : List Row) (v : List ℕ) → Has v (types rs) → 0 < length v
unfolding types row_types
whole_type rs v h =
    let (u, c, e) = way_whole [] (map step rs) v (distinct-has v (ways [] (map step rs)) h) in
    omega (arith, ap length e, length-append u (c ∷ []))

-- what stands above a type is a type
type_above : (rs : List Row) (v : List ℕ) → Has v (types rs) → (k : ℕ) → 0 < k → k ≤ length v → Has (take k v) (types rs)
unfolding types row_types
type_above rs v h k pos le =
    let ws = ways [] (map step rs) in
    let all : take (length ws) ws ≡ ws = take-length ws in
    has-distinct (take k v) ws
    (subst (λ l. Has (take k v) l) all (closed (map step rs) (length ws) v (subst (λ l. Has v l) (sym all) (distinct-has v ws h)) k pos le))

-- a type list tells the table's types
pub told : (rs : List Row) (ks : List ℕ) (ty : Types) → Lists rs ks ty → Told (types rs) ty.parents ty.labels ty.count
told rs ks ty l = record {
  count-is = l.count;
  few = omega (arith, l.count, few_from rs l.few);
  parent = l.parent;
  label = l.label;
  whole = whole_type rs;
  above = type_above rs;
}
