-- A typed tree that is read has sixteen entries at most, and so has room in the bytes of a shape. Assumes nothing.
use Prim.Native.Nat.{ℕ, ◌*◌, ◌≤◌}
use native.Mathlib.Nat.{mul-le-mul_right}
use native.Mathlib.Omega.{arith}
use mathlib.Core.Path.{◌≡◌, refl, ap}
use mathlib.Core.Bool.{Bool, true, false, not}
use mathlib.Core.List.{List}
use mathlib.Core.Option.{Option, none, some}
use lib.Dec.{eqb, ltb}
use lib.ListN.{length}
use borrow.Author.Tests.{ltb-false}
use Rattle.paper.specs.Lists.{first_place}
use Rattle.paper.specs.Format.{Format, most_entries}
use Rattle.paper.specs.Tables.{Row, types}
use Rattle.paper.specs.Calls.{Answer, refused, given, ◌>>=◌, refuse, refuse_at, reply, tests1_4}
use Rattle.grammar.specs.Typed.{Wanted, matched, shape_back, shaping, reading, Reading, read_as, ReadTree}

-- no more than sixteen entries are given
abbrev Few : Answer (ℕ × List ℕ) → Type 0
Few (refused k p) = Unit
Few (given x) = x.0 ≤ most_entries

few_shaped : (f : Format) (ts : List (List ℕ)) (es : List Wanted) (room : ℕ) → Few (shaping f ts es room)
unfolding shaping
few_shaped f ts es room =
    go (ltb most_entries (length es)) refl (first_place (λ (e : Wanted). ltb f.levels e.level) es)
    (first_place (λ (e : Wanted). not (eqb (length (matched ts e)) 1)) es) (ltb room (length (shape_back f ts es)))
  where
    go : (many : Bool) → ltb most_entries (length es) ≡ many → (deep unmatched : Option ℕ) (short : Bool)
        → Few (refuse 5 many >>= (λ _. refuse_at 6 deep >>= (λ _. refuse_at 13 unmatched >>= (λ _. refuse 29 short >>= (λ _.
        given (length es, shape_back f ts es))))))
    go true e deep unmatched short = tt
    go false e (some p) unmatched short = tt
    go false e none (some p) short = tt
    go false e none none true = tt
    go false e none none false = ltb-false most_entries (length es) e

few_read : (f : Format) (b : List ℕ) (said : Answer (List Wanted)) (room : ℕ) → Few (reading f b said room)
unfolding reading
few_read f b said room = go (tests1_4 f b) said
  where
    go : (a : Answer (List Row)) (s : Answer (List Wanted)) → Few (a >>= (λ rs. s >>= (λ es. shaping f (types rs) es room)))
    go (refused k p) s = tt
    go (given rs) (refused k p) = tt
    go (given rs) (given es) = few_shaped f (types rs) es room

-- The entries of a typed tree that is read, or refused.
pub few_entries : (f : Format) (b text lent : List ℕ) (r : Reading) → ReadTree f b text lent r → r.reply.rest ≤ most_entries
unfolding read_as
few_entries f b text lent r t = omega (arith, ap (λ (x : Reading). x.reply.rest) t.answer, counted (reading f b t.said (length lent)) (few_read f b t.said (length lent)))
  where
    counted : (a : Answer (ℕ × List ℕ)) → Few a → (reply 0 (a >>= (λ x. given x.0))).rest ≤ most_entries
    counted (refused k p) few = omega arith
    counted (given x) few = few

-- No more than sixteen, of no more than twenty bytes each, have room.
pub in_shape : (n w : ℕ) → n ≤ most_entries → w ≤ 20 → n * w ≤ 320
in_shape n w few short =
    let most : n * w ≤ 16 * w = mul-le-mul_right w few in
    omega (arith, most, short)
