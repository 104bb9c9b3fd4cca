-- The numbers of an edge in the listing's order. Assumes nothing.
use Rattle.std.specs.Prelude.{ℕ, List, [], ◌∷◌}
use Rattle.listing.specs.declared.edge.Edge.{Edge}

-- least and greatest children under a parent row, least and greatest parents of a child row
abbrev pub in_order : Edge → List ℕ
in_order x = x.least_children ∷ x.greatest_children ∷ x.least_parents ∷ x.greatest_parents ∷ []
