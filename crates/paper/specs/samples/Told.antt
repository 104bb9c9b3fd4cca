-- What the calls say of files, as lists of figures. Each is folded here, so that what several figures are read off is computed once.
-- Assumes nothing.
use Rattle.std.specs.Prelude.{ℕ, ◌*◌, List, [], ◌∷◌, map, take, replicate}
use Rattle.paper.specs.Format.{Format, base, eight, row_bytes}
use Rattle.paper.specs.Adorned.{Summary}
use Rattle.paper.specs.Verdict.{verdict_numbers}
use Rattle.paper.specs.Calls.{examine, adorn, judge, reshape, Reshaping}
use Rattle.paper.specs.Widths.{record_to, records_to, moving, move_table, move_shape}
use Rattle.paper.specs.Labels.{occurring, pair_kept, bad_pair, unlisted, record_with, records_with, converting, convert}
use Rattle.paper.specs.Index.{last_descendant, next_of_type, index_of, wrong_at, wrong_row, tests_index}
use Rattle.paper.specs.Index.{building, build_index, judge_with, reshape_with, summarise_with}
use Rattle.paper.specs.Opened.{opened}

-- One name that opens what document 02 adds: widths, labels and an index.
unfoldable pub added : Unit {0}
unfolding eight record_to records_to moving move_table move_shape occurring pair_kept bad_pair unlisted record_with records_with converting convert
    last_descendant next_of_type index_of wrong_at wrong_row tests_index building build_index judge_with reshape_with summarise_with
added = tt

-- number, place and count of rows
unfoldable pub examined : Format → List ℕ → List (List ℕ)
unfolding opened
examined f b = let r = examine f b in (r.number ∷ r.place ∷ r.rest ∷ []) ∷ []

-- a lent summary, of n throughout
unfoldable pub filled : ℕ → Summary
filled n = record { parent = n; label = n; level = n; rows = n; least = n; greatest = n }

-- number, place and count of types, with n summaries lent
unfoldable pub adorned_into : ℕ → List ℕ → List (List ℕ)
unfolding opened
adorned_into n b = let r = (adorn base b (replicate n (filled 0))).reply in (r.number ∷ r.place ∷ r.rest ∷ []) ∷ []

-- the same, and each of these lent summaries afterwards: parent, last label, level, rows, least and greatest number of children
unfoldable pub adorned_over : List Summary → List ℕ → List (List ℕ)
unfolding opened
adorned_over before b =
    let a = adorn base b before in
    (a.reply.number ∷ a.reply.place ∷ a.reply.rest ∷ [])
    ∷ map (λ (x : Summary). x.parent ∷ x.label ∷ x.level ∷ x.rows ∷ x.least ∷ x.greatest ∷ []) a.summaries

-- number and place, and the verdict's numbers
unfoldable pub judged : Format → List ℕ → List ℕ → List (List ℕ)
unfolding opened
judged f b sb = let j = judge f b sb in (j.number ∷ j.place ∷ []) ∷ verdict_numbers j.rest.verdict ∷ []

-- a reshape with room for ten lines
abbrev pub reshaped : List ℕ → List ℕ → Reshaping
reshaped b sb = reshape base b sb (replicate (10 * row_bytes base) 0) (replicate 10 0)

-- number, place, the new table as it is written, and its source list, with room for ten lines
unfoldable pub rewritten : Format → List ℕ → List ℕ → (List ℕ → List ℕ) → List (List ℕ)
unfolding opened
rewritten f b sb as_written =
    let r = reshape f b sb (replicate (10 * row_bytes f) 0) (replicate 10 0) in
    let n = r.reply.rest in
    (r.reply.number ∷ r.reply.place ∷ []) ∷ as_written (take (n * row_bytes f) r.table) ∷ take n r.sources ∷ []

-- One name that opens them all.
unfoldable pub said : Unit {0}
unfolding examined filled adorned_into adorned_over judged rewritten
said = tt
