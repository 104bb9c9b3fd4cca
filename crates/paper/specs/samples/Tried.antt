-- The sound source, demand 3 and what is not made up, tried by computation on small tables and shapes. The theorems hold of all;
-- these statements are here so that a wrong definition is refused by the case that it breaks. Assumes nothing.
use Rattle.std.specs.Prelude.{ℕ, ◌*◌, ◌≡◌, refl, Bool, true, false, ◌&&◌, ◌||◌, not, List, [], ◌∷◌, ◌++◌, eqb, leb, length, take, replicate}
use Rattle.paper.specs.Lists.{all, any, count, same}
use Rattle.paper.specs.Format.{base, row_bytes}
use Rattle.paper.specs.Tables.{rows, types}
use Rattle.paper.specs.Closeness.{Node}
use Rattle.paper.specs.Shapes.{entries}
use Rattle.paper.specs.Verdict.{Verdict, kept, missing, apart, unsure}
use Rattle.paper.specs.Calls.{examine, judge, reshape, Reshaping}
use Rattle.paper.specs.Links.{new_nodes, source_row, shown_pairs, source_pairs}
use Rattle.paper.specs.MadeUp.{fork_entry, unshown}
use Rattle.paper.specs.Opened.{opened}
use Rattle.paper.specs.samples.Files.{table, entry, A, table7, table8, table10, portfolio, lessee, lease, asset, shape4, shape5, files}
use Rattle.paper.specs.samples.Further.{orphaned}

-- a test for membership of a pair
abbrev pub among : ℕ × ℕ → List (ℕ × ℕ) → Bool
among p l = any (λ (q : ℕ × ℕ). eqb p.0 q.0 && eqb p.1 q.1) l

abbrev is_kept : Verdict → Bool
is_kept kept = true
is_kept (missing e r) = false
is_kept (apart e f) = false
is_kept (unsure e f) = false

-- for any two entries the pairs shown are exactly the closest pairs of source rows
links_hold : List ℕ → List ℕ → List ℕ → List ℕ → Bool
unfolding opened
links_hold b sb new sources =
    let es = count 0 (length (entries base sb)) in
    all (λ e. all (λ g.
    let shown = shown_pairs base new sources e g in
    let wanted = source_pairs base b sb e g in
    all (λ p. among p wanted) shown && all (λ p. among p shown) wanted) es) es

-- a reshape with room for twelve lines
abbrev roomy : List ℕ × List ℕ → Reshaping
roomy c = reshape base c.0 c.1 (replicate (12 * row_bytes base) 0) (replicate 12 0)

-- where the verdict is 0, a reshape with room is accepted and keeps the links
pub holds : List ℕ × List ℕ → Bool
unfolding opened links_hold
holds c =
    let b = c.0 in
    let sb = c.1 in
    let r = roomy c in
    let n = r.reply.rest in
    not (is_kept (judge base b sb).rest.verdict) || (eqb r.reply.number 0 && links_hold b sb (take (n * row_bytes base) r.table) (take n r.sources))

-- two leases, of which the second has an asset
later : List ℕ
later = table 0 ((1 ∷ [], 1) ∷ (1 ∷ 1 ∷ [], 3) ∷ (1 ∷ 2 ∷ [], 3) ∷ (1 ∷ 2 ∷ 1 ∷ [], 4) ∷ [])

pub cases : List (List ℕ × List ℕ)
cases =
    (A, shape4)
    ∷ (A, shape5)
    ∷ (A, entry 1 portfolio ++ entry 2 lessee ++ entry 2 asset)
    ∷ (table7, entry 1 (1 ∷ 3 ∷ []) ++ entry 2 (1 ∷ 3 ∷ 4 ∷ []) ++ entry 3 (1 ∷ 5 ∷ []))
    -- lessee and lease meet at 2, and on their path by way of the asset, which another lessee has, the least level is 1
    ∷ (table8, entry 1 (1 ∷ 2 ∷ []) ++ entry 2 (1 ∷ 2 ∷ 4 ∷ []) ++ entry 3 (1 ∷ 2 ∷ 3 ∷ []))
    ∷ (A, entry 1 lease ++ entry 2 lease)
    ∷ (A, entry 1 portfolio ++ entry 2 lease ++ entry 2 lease)
    ∷ (table10, entry 1 (2 ∷ []) ++ entry 2 (3 ∷ []))
    -- the first lease meets the asset less deep than the second does
    ∷ (later, entry 1 (1 ∷ 3 ∷ []) ++ entry 2 (1 ∷ 3 ∷ 4 ∷ []))
    ∷ (later, entry 1 (1 ∷ 3 ∷ []) ++ entry 2 (1 ∷ 3 ∷ 4 ∷ []) ++ entry 3 (1 ∷ []))
    -- at the fork, the edge to the first of two entries is not full: the last lease has no asset
    ∷ (A, entry 1 lease ++ entry 2 asset ++ entry 2 lessee)
    ∷ (A, entry 1 lessee ++ entry 2 lease ++ entry 3 asset ++ entry 2 portfolio)
    -- verdict 1 names entry 2 and row 1, while entry 1 shows row 2
    ∷ (table 0 ((1 ∷ [], 9) ∷ (1 ∷ 1 ∷ [], 4) ∷ (2 ∷ [], 3) ∷ (2 ∷ 1 ∷ [], 2) ∷ []), entry 1 (3 ∷ 2 ∷ []) ++ entry 2 (3 ∷ []) ++ entry 2 (9 ∷ 4 ∷ []))
    -- verdict 1 comes before a 2
    ∷ orphaned
    ∷ []

-- a reshape with room is accepted and leaves a sound source: examining counts its lines, and its types are at most the entries
pub sound : List ℕ × List ℕ → Bool
unfolding opened
sound c =
    let r = roomy c in
    let n = r.reply.rest in
    let new = take (n * row_bytes base) r.table in
    let x = examine base new in
    eqb r.reply.number 0 && eqb x.number 0 && eqb x.rest n && leb (length (types (rows base new))) (length (entries base c.1))

pub sound_tried : all sound cases ≡ true
unfolding opened sound later cases files
sound_tried = refl

pub demand3_tried : all holds cases ≡ true
unfolding opened holds links_hold later cases files
demand3_tried = refl

-- ---- what is not made up
-- line x hangs under line z, or is z
abbrev pub under : Node → Node → Bool
under z x = same (take (length z.dewey) x.dewey) z.dewey

module _ (b sb new sources : List ℕ) where
  -- two lines hang under, or are, one line of their fork entry
  unfoldable pub forked : Node → Node → Bool
  forked x y = any (λ (z : Node). eqb z.kind (fork_entry base b sb x.kind y.kind) && under z x && under z y) (new_nodes base new sources)

  -- if they do, and are of different entries, their source rows are a closest pair
  unfoldable pub justified : Node → Node → Bool
  justified x y = elim (eqb x.kind y.kind) [
    | true ↦ true
    | false ↦ elim (forked x y) [
      | false ↦ true
      | true ↦ among (source_row sources x, source_row sources y) (source_pairs base b sb x.kind y.kind)
    ]
  ]

  unfoldable pub none_made_up : Bool
  none_made_up = let lines = new_nodes base new sources in all (λ x. all (justified x) lines) lines

-- the row that verdict 1 names is not shown
named_unshown : Verdict → List ℕ → Bool
unfolding opened
named_unshown kept sources = true
named_unshown (missing e r) sources = unshown e r sources
named_unshown (apart e f) sources = true
named_unshown (unsure e f) sources = true

-- a reshape with room is accepted, a row that verdict 1 names is not shown, and where the second answer is yes nothing is made up
pub made_up : List ℕ × List ℕ → Bool
unfolding opened forked justified none_made_up named_unshown
made_up c =
    let b = c.0 in
    let sb = c.1 in
    let j = (judge base b sb).rest in
    let r = roomy c in
    let n = r.reply.rest in
    let sources = take n r.sources in
    eqb r.reply.number 0 && named_unshown j.verdict sources
    && elim j.none_apart [ false ↦ true | true ↦ none_made_up b sb (take (n * row_bytes base) r.table) sources ]

pub made_up_tried : all made_up cases ≡ true
unfolding opened made_up forked justified none_made_up named_unshown later cases files
made_up_tried = refl
