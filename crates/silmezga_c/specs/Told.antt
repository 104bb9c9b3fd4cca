-- What the contracts for C say in numbers, in the paper's terms. Assumes nothing.
use Rattle.std.specs.Prelude.{ℕ, ◌≡◌, Bool, true, false, List, [], ◌∷◌, ◌++◌, eqb, length, take, drop}
use Rattle.paper.specs.Lists.{padded}
use Rattle.paper.specs.Format.{Format}
use Rattle.paper.specs.Widths.{format_of}
use Rattle.paper.specs.Partners.{EdgeNumbers}
use Rattle.paper.specs.Verdict.{Judgement, verdict_numbers}
use Rattle.paper.specs.Calls.{Reply, look_up}
use Rattle.paper.specs.declared.Width.{Width}
use Rattle.paper.specs.declared.Width.TheVariants.{Six, Eight}
use Rattle.tables.specs.Reply.{start_of}
use Rattle.silmezga_c.specs.declared.LookedUp.{LookedUp}
use Rattle.silmezga_c.specs.declared.answers.JudgedNumbers.{JudgedNumbers}

-- 8 names eight levels, and every other number six
abbrev pub width_of : ℕ → Width
width_of n = elim (eqb n 8) [ true ↦ Eight | false ↦ Six ]

abbrev pub format_numbered : ℕ → Format
format_numbered n = format_of (width_of n)

-- the answer to the look-up of row i: its number, its place, and where the row's own bytes stand in the caller's table
pub record LooksUp (f : Format) (t : List ℕ) (i : ℕ) (r : LookedUp) : Type 0 where
  pub number_is : r.number ≡ (look_up f t i).number
  pub place_is : r.place ≡ (look_up f t i).place
  pub start_is : r.start ≡ start_of f (look_up f t i).number i
  pub length-is : r.length ≡ length (look_up f t i).rest
  pub part_is : take r.length (drop r.start t) ≡ (look_up f t i).rest

-- yes is 1, and no is 0
abbrev pub as_number : Bool → ℕ
as_number true = 1
as_number false = 0

-- the three numbers of a verdict and that of the second answer, and the numbers of each edge
pub record InFour : Type 0 where
  pub four : List ℕ
  pub edges : EdgeNumbers

-- the numbers of each edge, as they are told
abbrev pub edges_told : JudgedNumbers → EdgeNumbers
edges_told r = record {
  least_children = r.least_children;
  greatest_children = r.greatest_children;
  least_parents = r.least_parents;
  greatest_parents = r.greatest_parents;
}

abbrev pub in_four : JudgedNumbers → Reply InFour
in_four r = record {
  number = r.number;
  place = r.place;
  rest = record { four = r.verdict ∷ r.first ∷ r.second ∷ r.none_apart ∷ []; edges = edges_told r };
}

-- a reply with a judgement, in numbers: document 01's number of the verdict and its values, zeros where it has none, and the second answer
abbrev pub four_numbers : Reply Judgement → Reply InFour
four_numbers r = record {
  number = r.number;
  place = r.place;
  rest = record {
    four = padded 3 (verdict_numbers r.rest.verdict) ++ (as_number r.rest.none_apart ∷ []);
    edges = r.rest.edges;
  };
}
