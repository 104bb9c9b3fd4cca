-- The names of the labels. Assumes nothing.
use Rattle.std.specs.Prelude.{ℕ, ◌-◌, true, false, List, [], ◌∷◌, get_or}
use Rattle.paper.specs.Lists.{between}
use Rattle.grammar.specs.Text.{ascii, decimal}

-- the names of labels 1 to 20
unfoldable pub names : List (List ℕ)
names =
    ascii "portfolio" ∷ ascii "lessee" ∷ ascii "lease" ∷ ascii "asset" ∷ ascii "payment" ∷
    ascii "meter" ∷ ascii "guarantor" ∷ ascii "invoice" ∷ ascii "site" ∷ ascii "insurance" ∷
    ascii "deposit" ∷ ascii "vendor" ∷ ascii "schedule" ∷ ascii "residual" ∷ ascii "tax" ∷
    ascii "service" ∷ ascii "reading" ∷ ascii "contact" ∷ ascii "currency" ∷ ascii "document" ∷ []

-- the number of labels that have a name
abbrev pub named : ℕ
named = 20

-- the name of label k + 1
unfoldable pub name_of : ℕ → List ℕ
name_of k = get_or names k []

-- the name of a label: labels 1 to 20 by name, others print as numbers
unfoldable pub name_text : ℕ → List ℕ
name_text l = elim (between 1 l named) [ true ↦ name_of (l - 1) | false ↦ decimal l ]
