-- Samples of request 6, one list under one statement: small tapes, totals and histories, settled by computing them. Assumes nothing.
use Rattle.std.specs.Prelude.{ℕ, suc, ◌*◌, ◌-◌, ◌^◌, ◌≡◌, refl, List, [], ◌∷◌, ◌++◌, map, ℤ, pos, negsuc, neg_ℤ, length, drop, replicate}
use Rattle.paper.specs.Lists.{join_map, padded, count}
use Rattle.paper.specs.Format.{Format, base, eight, value_bytes, bytes}
use Rattle.paper.specs.Tables.{row_back}
use Rattle.totals.specs.Tape.{Tape, sum_tape, sum_of_type}
use Rattle.totals.specs.Total.{Total, nothing, take_in}
use Rattle.totals.specs.History.{after_all, taken_in}
use Rattle.totals.specs.Told.{tape}
use Rattle.totals.specs.Opened.{opened}

-- ---- figures
-- −n
abbrev minus : ℕ → ℤ
minus n = neg_ℤ (pos n)

-- document 02's largest value and one more, and what three tapes can add up to and one more
abbrev top : ℕ
top = 1000000000000

abbrev over : ℕ
over = 1000000000001

abbrev three : ℕ
three = 3072000000000000

abbrev over_three : ℕ
over_three = 3072000000000001

-- ---- tapes
-- the 64 bits of a value
abbrev bits : ℤ → ℕ
bits (pos n) = n
bits (negsuc n) = 2 ^ 64 - suc n

-- rows with these Dewey numbers and labels, and with these values
unfoldable pub table : Format → List (List ℕ × ℕ) → List ℤ → List ℕ
unfolding opened
table f [] vs = []
table f (x ∷ xs) [] = []
table f (x ∷ xs) (v ∷ vs) =
    row_back (record { level = length x.0; spare = 0; label = x.1; components = padded f.levels x.0; value = bytes value_bytes (bits v) })
    ++ table f xs vs

-- an entry with its level and its type
unfoldable pub entry : Format → ℕ → List ℕ → List ℕ
entry f l k = l ∷ length k ∷ 0 ∷ 0 ∷ join_map (bytes 2) (padded f.levels k)

-- types of document 01's table A
unfoldable pub lessee : List ℕ
lessee = 1 ∷ 2 ∷ []

unfoldable pub lease : List ℕ
lease = 1 ∷ 2 ∷ 3 ∷ []

unfoldable pub asset : List ℕ
asset = 1 ∷ 2 ∷ 3 ∷ 4 ∷ []

-- table A with these values, beside asset[lease[lessee]]
unfoldable pub tape_a : List ℤ → ℕ → Tape
unfolding opened
tape_a vs e =
    tape base
    (table base ((1 ∷ [], 1) ∷ (1 ∷ 1 ∷ [], 2) ∷ (1 ∷ 1 ∷ 1 ∷ [], 3) ∷ (1 ∷ 1 ∷ 1 ∷ 1 ∷ [], 4) ∷ (1 ∷ 1 ∷ 1 ∷ 2 ∷ [], 4)
    ∷ (1 ∷ 1 ∷ 2 ∷ [], 3) ∷ (1 ∷ 1 ∷ 2 ∷ 1 ∷ [], 4) ∷ (1 ∷ 2 ∷ [], 2) ∷ (1 ∷ 2 ∷ 1 ∷ [], 3) ∷ []) vs)
    (entry base 1 asset ++ entry base 2 lease ++ entry base 3 lessee) e

-- its own values, 100 × k in row k
unfoldable pub hundreds : List ℤ
hundreds = map (λ k. pos (100 * k)) (count 0 9)

-- values of both signs
unfoldable pub mixed : List ℤ
mixed = pos 0 ∷ minus 10 ∷ pos 250 ∷ pos 5 ∷ minus 9 ∷ minus 260 ∷ minus 1 ∷ pos 10 ∷ pos 33 ∷ []

-- a root, two lessees beneath it, and a lease beneath the second: rows 0 to 3 with these values
unfoldable pub small : Format → ℤ → ℤ → ℤ → ℤ → List ℕ
small f v₀ v₁ v₂ v₃ = table f ((1 ∷ [], 1) ∷ (1 ∷ 1 ∷ [], 2) ∷ (1 ∷ 2 ∷ [], 2) ∷ (1 ∷ 2 ∷ 1 ∷ [], 3) ∷ []) (v₀ ∷ v₁ ∷ v₂ ∷ v₃ ∷ [])

-- lease[lessee], whose entry 1 shows row 2 and not row 1
unfoldable pub leases : Format → List ℕ
leases f = entry f 1 lease ++ entry f 2 lessee

-- lessee[lease[lessee]], whose entries 0 and 2 are of one type
unfoldable pub twice : List ℕ
unfolding opened
twice = entry base 1 lessee ++ entry base 2 lease ++ entry base 3 lessee

-- the small table with these values, and with zeros
unfoldable pub small_tape : ℤ → ℤ → ℤ → ℤ → List ℕ → ℕ → Tape
unfolding opened
small_tape v₀ v₁ v₂ v₃ sb e = tape base (small base v₀ v₁ v₂ v₃) sb e

unfoldable pub zeros : List ℕ
unfolding opened
zeros = small base (pos 0) (pos 0) (pos 0) (pos 0)

-- with these values of the lessees, entry 1 of lease[lessee]
unfoldable pub lessees : ℤ → ℤ → Tape
unfolding opened
lessees v₁ v₂ = small_tape (pos 0) v₁ v₂ (pos 0) (leases base) 1

-- ---- what is said of them: numbers, then sums
abbrev pub Said : Type 0
Said = List ℕ × List ℤ

-- number and place; both sums
abbrev answers : ℕ → ℕ → ℤ → ℤ → Said
answers k p s u = (k ∷ p ∷ [], s ∷ u ∷ [])

abbrev gives : ℤ → ℤ → Said
gives s u = answers 0 0 s u

abbrev refuses : ℕ → ℕ → Said
refuses k p = answers k p (pos 0) (pos 0)

-- of a tape by itself
unfoldable pub of_tape : Tape → Said
unfolding opened
of_tape t = let r = sum_tape t in answers r.number r.place r.rest.shown r.rest.unshown

-- the sum over the type of its entry
unfoldable pub together : Tape → Said
unfolding opened
together t = ([], sum_of_type t ∷ [])

abbrev total : ℤ → ℤ → ℕ → Total
total s u n = record { shown = s; unshown = u; tapes = n }

-- number, place and how many tapes; both sums
abbrev leaves : ℕ → ℕ → Total → Said
leaves k p x = (k ∷ p ∷ x.tapes ∷ [], x.shown ∷ x.unshown ∷ [])

-- of taking a tape in
unfoldable pub taking : Total → Tape → Said
unfolding opened
taking x t = let r = take_in x t in leaves r.number r.place r.rest

-- of a history, with how many of its tapes are taken in for the number
unfoldable pub history : List Tape → Said
unfolding opened
history ts = leaves (length (taken_in nothing ts)) 0 (after_all nothing ts)

pub samples : List (Said × Said)
samples =
    -- table A and asset[lease[lessee]]: lease row 2 stands in two lines and counts once, row 8 is not shown
    (of_tape (tape_a hundreds 0), gives (pos 1300) (pos 0))
    ∷ (of_tape (tape_a hundreds 1), gives (pos 700) (pos 800))
    ∷ (of_tape (tape_a hundreds 2), gives (pos 100) (pos 700))
    -- both signs: 5 − 9 − 1 of the assets, 250 − 260 of the leases
    ∷ (of_tape (tape_a mixed 0), gives (minus 5) (pos 0))
    ∷ (of_tape (tape_a mixed 1), gives (minus 10) (pos 33))
    ∷ (of_tape (tape_a mixed 2), gives (minus 10) (pos 10))
    -- the lease, and its lessee beside the other one; on eight levels too
    ∷ (of_tape (small_tape (pos 7) (minus 300) (minus 1) (pos 45) (leases base) 0), gives (pos 45) (pos 0))
    ∷ (of_tape (small_tape (pos 7) (minus 300) (minus 1) (pos 45) (leases base) 1), gives (minus 1) (minus 300))
    ∷ (of_tape (tape eight (small eight (pos 7) (minus 300) (minus 1) (pos 45)) (leases eight) 1), gives (minus 1) (minus 300))
    -- entry 0 shows row 1, and entry 2 of the same type does not
    ∷ (of_tape (small_tape (pos 7) (pos 10) (pos 20) (pos 45) twice 0), gives (pos 30) (pos 0))
    ∷ (of_tape (small_tape (pos 7) (pos 10) (pos 20) (pos 45) twice 2), gives (pos 20) (pos 10))
    -- two trees, lessee[lease]: no line shows the lease
    ∷ (
      of_tape (tape base (table base ((1 ∷ [], 2) ∷ (2 ∷ [], 3) ∷ []) (pos 4 ∷ pos 9 ∷ [])) (entry base 1 (2 ∷ []) ++ entry base 2 (3 ∷ [])) 1),
      gives (pos 0) (pos 9),
    )
    -- 10^12 and −10^12 are in range
    ∷ (of_tape (lessees (minus top) (pos top)), gives (pos top) (minus top))
    ∷ (of_tape (lessees (pos top) (minus top)), gives (minus top) (pos top))
    -- 17: one more is not, shown or not; the first of two; the largest and the least of 64 bits
    ∷ (of_tape (lessees (pos over) (pos 0)), refuses 17 1)
    ∷ (of_tape (lessees (pos 0) (pos over)), refuses 17 2)
    ∷ (of_tape (lessees (minus over) (pos 0)), refuses 17 1)
    ∷ (of_tape (lessees (pos 0) (minus over)), refuses 17 2)
    ∷ (of_tape (lessees (pos over) (minus over)), refuses 17 1)
    ∷ (of_tape (lessees (pos 9223372036854775807) (pos 0)), refuses 17 1)
    ∷ (of_tape (lessees (pos 0) (minus 9223372036854775808)), refuses 17 2)
    -- in rows of another type they are let through
    ∷ (of_tape (small_tape (pos over) (pos 10) (pos 20) (minus over) (leases base) 1), gives (pos 20) (pos 10))
    ∷ (of_tape (small_tape (pos over) (pos 10) (pos 20) (minus over) (leases base) 0), refuses 17 3)
    -- 16: there are entries 0 and 1; 16 before 17
    ∷ (of_tape (tape base zeros (leases base) 2), refuses 16 0)
    ∷ (of_tape (small_tape (pos over) (pos over) (pos over) (pos over) (leases base) 2), refuses 16 0)
    -- 1, 2 and 3 of the table; 5, 6 and 7 of the shape; 7 before 16
    ∷ (of_tape (tape base (replicate 24577 0) (leases base) 1), refuses 1 0)
    ∷ (of_tape (tape base (drop 1 zeros) (leases base) 1), refuses 2 0)
    ∷ (of_tape (tape base (zeros ++ replicate 24 0) (leases base) 1), refuses 3 4)
    ∷ (of_tape (tape base zeros [] 0), refuses 5 0)
    ∷ (of_tape (tape base zeros (entry base 1 lease ++ entry base 1 lessee) 1), refuses 6 1)
    ∷ (of_tape (tape base zeros (entry base 1 lease ++ entry base 2 asset) 0), refuses 7 1)
    ∷ (of_tape (tape base [] (leases base) 2), refuses 7 0)
    -- both sums together
    ∷ (together (tape_a hundreds 1), ([], pos 1500 ∷ []))
    ∷ (together (lessees (minus 300) (pos 20)), ([], minus 280 ∷ []))
    -- the first tape, and one more
    ∷ (taking nothing (lessees (minus 300) (pos 20)), leaves 0 0 (total (pos 20) (minus 300) 1))
    ∷ (taking (total (minus 50) (pos 1000) 7) (lessees (minus 300) (pos 20)), leaves 0 0 (total (minus 30) (pos 700) 8))
    -- 1,000 tapes at most
    ∷ (taking (total (pos 1) (pos 2) 999) (lessees (pos 3) (pos 4)), leaves 0 0 (total (pos 5) (pos 5) 1000))
    ∷ (taking (total (pos 1) (pos 2) 1000) (lessees (pos 3) (pos 4)), leaves 18 0 (total (pos 1) (pos 2) 1000))
    ∷ (taking (total (pos 1) (pos 2) 1001) (lessees (pos 3) (pos 4)), leaves 18 0 (total (pos 1) (pos 2) 1001))
    -- sums at ±1.024 × 10^15 a tape, and past that; with no tape, a sum of 1
    ∷ (taking (total (pos three) (minus three) 3) (lessees (pos 3) (minus 4)), leaves 0 0 (total (pos 3071999999999996) (minus 3071999999999997) 4))
    ∷ (taking (total (minus three) (pos three) 3) (lessees (pos 1) (minus 1)), leaves 0 0 (total (minus over_three) (pos over_three) 4))
    ∷ (taking (total (pos over_three) (pos 0) 3) (lessees (pos 3) (pos 4)), leaves 18 0 (total (pos over_three) (pos 0) 3))
    ∷ (taking (total (minus over_three) (pos 0) 3) (lessees (pos 3) (pos 4)), leaves 18 0 (total (minus over_three) (pos 0) 3))
    ∷ (taking (total (pos 0) (pos over_three) 3) (lessees (pos 3) (pos 4)), leaves 18 0 (total (pos 0) (pos over_three) 3))
    ∷ (taking (total (pos 0) (minus over_three) 3) (lessees (pos 3) (pos 4)), leaves 18 0 (total (pos 0) (minus over_three) 3))
    ∷ (taking (total (pos 1) (pos 0) 0) (lessees (pos 3) (pos 4)), leaves 18 0 (total (pos 1) (pos 0) 0))
    ∷ (taking (total (pos 0) (minus 1) 0) (lessees (pos 3) (pos 4)), leaves 18 0 (total (pos 0) (minus 1) 0))
    -- a refused tape leaves the total as it was; 17 before 18
    ∷ (taking (total (minus 50) (pos 1000) 7) (lessees (pos 3) (pos over)), leaves 17 2 (total (minus 50) (pos 1000) 7))
    ∷ (taking (total (minus 50) (pos 1000) 7) (tape base zeros [] 0), leaves 5 0 (total (minus 50) (pos 1000) 7))
    ∷ (taking (total (pos 1) (pos 2) 1000) (lessees (pos 3) (pos over)), leaves 17 2 (total (pos 1) (pos 2) 1000))
    -- a history of three, the second refused, and of the same three in another order
    ∷ (history (tape_a hundreds 1 ∷ lessees (pos over) (pos 6) ∷ lessees (minus 300) (pos 20) ∷ []), leaves 2 0 (total (pos 720) (pos 500) 2))
    ∷ (history (lessees (pos over) (pos 6) ∷ lessees (minus 300) (pos 20) ∷ tape_a hundreds 1 ∷ []), leaves 2 0 (total (pos 720) (pos 500) 2))
    ∷ []

-- every sample says what document 02 says
pub totals_hold : map (λ (x : Said × Said). x.0) samples ≡ map (λ (x : Said × Said). x.1) samples
unfolding opened eight table entry lessee lease asset tape_a hundreds mixed small leases twice small_tape zeros lessees
    of_tape together taking history samples
totals_hold = refl
