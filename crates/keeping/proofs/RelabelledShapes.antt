-- What 4 and 7 find, and the shape, of rows and entries with their labels converted; judgement, lines and figures read no label. Assumes nothing.
use Prim.Native.Nat.{ℕ, suc, ◌<◌}
use native.Mathlib.Nat.{not-suc-le-zero}
use native.Mathlib.Omega.{arith}
use mathlib.Core.Path.{◌≡◌, refl, sym, ◌∙◌, ap, ap₂}
use mathlib.Core.Bool.{true, false, ◌&&◌, ◌||◌, not}
use mathlib.Core.List.{List, [], ◌∷◌, ◌++◌, map, map-map}
use mathlib.Core.Option.{Option, none, some}
use lib.Dec.{eqb, ltb}
use lib.ListN.{length, get_or, length-map}
use Rattle.paper.specs.Lists.{Has, any, first_or, last_or, place, first_place, same, ways}
use Rattle.paper.specs.Format.{most_types}
use Rattle.paper.specs.Tables.{Row, row_types, types, type_number}
use Rattle.paper.specs.Closeness.{Node}
use Rattle.paper.specs.Shapes.{Entry, Shape, named, steps, shape_over, numbers, side}
use Rattle.paper.specs.NewTable.{Line, beneath, tops, lines}
use Rattle.paper.specs.Figures.{figures}
use Rattle.paper.specs.Partners.{child_numbers, parent_numbers, edge_numbers}
use Rattle.paper.specs.Verdict.{Verdict, Judgement, kept, apart, unsure, is_apart, over_pairs, meeting, alone, full, edge_level, sure_down}
use Rattle.paper.specs.Verdict.{meets_least, sure, lone, pair_fault, verdict, none_apart, judgement}
use Rattle.paper.specs.Calls.{type_too_many, type_missing}
use Rattle.paper.specs.Labels.{Pair, occurring, converted, row_with, entry_with}
use Rattle.paper.proofs.Lists.{map_same}
use Rattle.paper.proofs.Kept.{place_same, first-same, any_same}
use Rattle.paper.proofs.Shapes.{level_of}
use Rattle.keeping.proofs.ConvertedTests.{named-with}
use Rattle.keeping.proofs.Accepted.{named_occurs}
use Rattle.keeping.proofs.Relabelled.{Apart, get_d_map, get_d_of, same-with, row-types-with, row_type_of, type_of_lem, types-with, type_numbers}

-- ---- the shape
-- a shape with other labels
abbrev pub shape_by : (ℕ → ℕ) → Shape → Shape
shape_by c s = record { levels = s.levels; labels = map c s.labels; kinds = s.kinds; ways = s.ways }

module _ (t : List Node) (c : ℕ → ℕ) (s : Shape) where
  -- THE LINES read no label of the shape.
  pub lines_by : (n : ℕ) → lines t (shape_by c s) n ≡ lines t s n
  unfolding lines beneath tops
  lines_by n = refl

  pub figures-by : (ls : List Line) → figures t (shape_by c s) ls ≡ figures t s ls
  unfolding figures
  figures-by ls = refl

  -- nor does the judgement
  down_by : (l : ℕ) (cs : List ℕ) → sure_down t (shape_by c s) l cs ≡ sure_down t s l cs
  unfolding full edge_level meeting
  down_by l [] = refl
  down_by l (e ∷ cs) = ap (λ d. eqb (edge_level t s e) l || (full t s e && d)) (down_by l cs)

  fault_by_lem : (e g : ℕ) → pair_fault t (shape_by c s) e g ≡ pair_fault t s e g
  unfolding pair_fault meets_least sure edge_level meeting
  fault_by_lem e g =
      ap₂ (λ x y. elim (meets_least t s e g) as (λ _. List Verdict)
      [ false ↦ apart e g ∷ [] | true ↦ elim (x || y) as (λ _. List Verdict) [ true ↦ [] | false ↦ unsure e g ∷ [] ] ])
      (down_by (meeting t s e g) (side s e g)) (down_by (meeting t s e g) (side s g e))

  pub judgement_by : judgement t (shape_by c s) ≡ judgement t s
  unfolding verdict none_apart lone alone edge_numbers child_numbers parent_numbers
  judgement_by =
      ap {B = Judgement} (λ fault. record {
        verdict = first_or kept (lone t s ++ over_pairs fault (numbers s));
        none_apart = not (any is_apart (over_pairs fault (numbers s)));
        edges = edge_numbers t s;
      }) (λ i e g. fault_by_lem e g i)

-- ---- the entries
last_with : (c : ℕ → ℕ) (k : List ℕ) (d z : ℕ) → 0 < length k → last_or z (map c k) ≡ c (last_or d k)
last_with c [] d z pos = absurd (not-suc-le-zero pos)
last_with c (x ∷ []) d z pos = refl
last_with c (x ∷ y ∷ k) d z pos = last_with c (y ∷ k) x (c x) (omega arith)

steps-with : (ps : List Pair) (i : ℕ) (es : List Entry) → steps i (map (entry_with ps) es) ≡ steps i es
steps-with ps i [] = refl
steps-with ps i (e ∷ es) = ap {B = List (ℕ × ℕ)} (λ l. (e.level, i) ∷ l) (steps-with ps (suc i) es)

module _ (ps : List Pair) (rs : List Row) (es : List Entry) (keeps : Apart (converted ps) (occurring rs es)) where
  abbrev rows' : List Row
  rows' = map (row_with ps) rs

  abbrev entries' : List Entry
  entries' = map (entry_with ps) es

  -- 4: THE FIRST ROW OF THE 65TH TYPE is the same, or there is none.
  pub too_many_with : type_too_many rows' ≡ type_too_many rs
  unfolding type_too_many
  too_many_with =
      ap₂ over (ap length (types-with ps rs es keeps) ∙ length-map (types rs) (map (converted ps)))
      (ap₂ (λ ts ks. place (same (get_or ts most_types [])) ks) (types-with ps rs es keeps) (row-types-with ps rs)
      ∙ ap (λ k. place (same k) (map (map (converted ps)) (row_types rs))) (get_d_map (map (converted ps)) (types rs) most_types [])
      ∙ place_same (same (map (converted ps) k)) (same k) (map (converted ps)) (row_types rs) (λ j h.
      same-with (converted ps) (occurring rs es) keeps k j (get_d_of (occurring rs es) (types rs) most_types (type_of_lem ps rs es)) (row_type_of ps rs es j h)))
    where
      k : List ℕ
      k = get_or (types rs) most_types []

      over : ℕ → ℕ → Option ℕ
      over n i = elim (ltb most_types n) [ true ↦ some i | false ↦ none ]

  -- 7: THE FIRST ENTRY WHOSE TYPE HAS NO ROW is the same, or there is none.
  pub missing_with : type_missing rows' entries' ≡ type_missing rs es
  unfolding type_missing
  missing_with =
      ap (λ ts. first_place (λ e. not (any (same (named e)) ts)) entries') (types-with ps rs es keeps)
      ∙ first-same (λ e. not (any (same (named e)) (map (map (converted ps)) (types rs)))) (λ e. not (any (same (named e)) (types rs)))
      (entry_with ps) es (λ e h.
      ap (λ k. not (any (same k) (map (map (converted ps)) (types rs)))) (named-with ps e)
      ∙ ap not (any_same (same (map (converted ps) (named e))) (same (named e)) (map (converted ps)) (types rs) (λ j i.
      same-with (converted ps) (occurring rs es) keeps (named e) j (named_occurs rs es e h) (type_of_lem ps rs es j i))))

  -- THE SHAPE has the same levels, kinds and ways, and its labels converted, where each entry names a type.
  pub shape_with_lem : ((e : Entry) → Has e es → 0 < length (named e)) → shape_over (types rows') entries' ≡ shape_by (converted ps) (shape_over (types rs) es)
  unfolding shape_over
  shape_with_lem some_label =
      λ i. record {
        levels = map-map level_of (entry_with ps) es i;
        labels = labels i;
        kinds = kinds i;
        ways = ways [] (steps-with ps 0 es i);
      }
    where
      last : Entry → ℕ
      last e = last_or 0 (named e)

      labels : map last entries' ≡ map (converted ps) (map last es)
      labels =
          map-map last (entry_with ps) es
          ∙ map_same (λ e. last (entry_with ps e)) (λ e. converted ps (last e)) es (λ e h.
          ap (last_or 0) (named-with ps e) ∙ last_with (converted ps) (named e) 0 0 (some_label e h))
          ∙ sym (map-map (converted ps) last es)

      kinds : map (λ e. type_number (types rows') (named e)) entries' ≡ map (λ e. type_number (types rs) (named e)) es
      kinds =
          map-map (λ e. type_number (types rows') (named e)) (entry_with ps) es
          ∙ map_same (λ e. type_number (types rows') (named (entry_with ps e))) (λ e. type_number (types rs) (named e)) es (λ e h.
          ap (type_number (types rows')) (named-with ps e) ∙ type_numbers ps rs es keeps (named e) (named_occurs rs es e h))
