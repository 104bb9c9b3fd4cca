-- What reshaping and summarising answer, in the paper's terms: what the public contracts name. Assumes nothing.
use Rattle.std.specs.Prelude.{ℕ, ◌*◌, ◌≤◌, ◌≡◌, true, List, take, Result}
use Rattle.paper.specs.Format.{Format, most_rows, row_bytes}
use Rattle.paper.specs.Tables.{Row}
use Rattle.paper.specs.Verdict.{kept, missing}
use Rattle.paper.specs.Links.{LinksKept}
use Rattle.paper.specs.MadeUp.{NothingMadeUp, unshown}
use Rattle.paper.specs.Sound.{KeepsRules, SoundSource}
use Rattle.paper.specs.Edges.{ChildrenShown, ChildrenBetween}
use Rattle.paper.specs.Figures.{Figures, no_figures}
use Rattle.paper.specs.Calls.{Reply, given, reshape, judge}
use Rattle.paper.specs.Index.{tests_index, reshape_with}
use Rattle.paper.specs.Refusals.{reply_of}
use Rattle.paper.specs.declared.refusal.Refusal.{Refusal}
use Rattle.reshaping.specs.declared.summarise.Summary.{Summary}

-- number, place, count of lines
abbrev pub reshaped : Result ℕ Refusal → Reply ℕ
reshaped r = reply_of 0 (λ lines. lines) r

-- the figures of 16 entries
abbrev pub figures_of : Summary → Figures
figures_of r = record { lines = r.lines; rows = r.rows; copies = r.copies; different = r.different }

-- number, place, and the figures
abbrev pub summarised : Result Summary Refusal → Reply Figures
summarised r = reply_of no_figures figures_of r

-- The whole promise of a reshape of the table t to the shape s: r is the answer, and new' and sources' are what the lent bytes and places
-- hold afterwards.
pub record Reshapes (f : Format) (t s new sources : List ℕ) (r : Reply ℕ) (new' sources' : List ℕ) : Type 0 where
  pub answer : r ≡ (reshape f t s new sources).reply
  pub bytes : new' ≡ (reshape f t s new sources).table
  pub places : sources' ≡ (reshape f t s new sources).sources
  -- The buyer's demand: where the call is accepted and the verdict on the same table and shape is 0, no link is missing and none is made up.
  pub links : r.number ≡ 0 → (judge f t s).rest.verdict ≡ kept → LinksKept f t s (take (r.rest * row_bytes f) new') (take r.rest sources')
  -- Where the second answer on the same table and shape is yes, any two lines of different entries that hang under, or are, one line of their
  -- fork entry have closest source rows, whatever the verdict.
  pub none_made_up_lem : r.number ≡ 0 → (judge f t s).rest.none_apart ≡ true
      → NothingMadeUp f t s (take (r.rest * row_bytes f) new') (take r.rest sources')
  -- Where the verdict is 1 with entry e and row i, no place of the source list among the lines written is e × 65,536 + i.
  pub named_unshown_lem : r.number ≡ 0 → (e i : ℕ) → (judge f t s).rest.verdict ≡ missing e i → unshown e i (take r.rest sources') ≡ true
  -- Each line's source row is a row of t, and directly beneath the line stand of each child entry as many lines as that row has closest rows of
  -- that entry's type.
  pub children : r.number ≡ 0 → ChildrenShown f t s (take (r.rest * row_bytes f) new') (take r.rest sources')
  -- They are no fewer than the least and no more than the greatest number of children that judging says of that entry.
  pub between : r.number ≡ 0 → ChildrenBetween f t s (take (r.rest * row_bytes f) new') (take r.rest sources')
  -- Whatever an accepted call leaves, up to 4,096 lines, keeps the row rules.
  pub rules : r.number ≡ 0 → KeepsRules f (take (r.rest * row_bytes f) new') r.rest
  -- A reshaped table of at most 1,024 lines is a sound source: no call refuses it with 1 to 4.
  pub sound : r.number ≡ 0 → r.rest ≤ most_rows → SoundSource f s (take (r.rest * row_bytes f) new') r.rest

-- The whole promise of a reshape with the lists last and next lent as the index of t: the answer and what is left are the definition's, and
-- where the index is this table's, the promise is that of the reshape without one, so that all of its parts hold.
pub record ReshapesWith (f : Format) (t s last next new sources : List ℕ) (r : Reply ℕ) (new' sources' : List ℕ) : Type 0 where
  pub answer : r ≡ (reshape_with f t s last next new sources).reply
  pub bytes : new' ≡ (reshape_with f t s last next new sources).table
  pub places : sources' ≡ (reshape_with f t s last next new sources).sources
  pub plain : (rs : List Row) → tests_index f t last next ≡ given rs → Reshapes f t s new sources r new' sources'
