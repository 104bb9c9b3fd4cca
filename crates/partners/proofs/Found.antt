-- What the walk of eight edges finds is so of the shape's entries. Assumes nothing.
use Prim.Native.Nat.{ℕ, ◌+◌, ◌≤◌, ◌<◌}
use mathlib.Core.Path.{◌≡◌, refl, sym, ◌∙◌, ap₂, subst}
use mathlib.Core.List.{List}
use lib.ListN.{get_or, replicate, get_or-replicate}
use Rattle.paper.specs.Partners.{greatest}
use Rattle.closest.specs.Runs.{Rows}
use Rattle.shapes.specs.Shape.{type_of, parent_of, edge_of}
use Rattle.shapes.specs.declared.shape.Shape.{Shape}
use Rattle.partners.specs.Closest.{numbers_of, children_in, parents_in, least_or, Bound}
use Rattle.partners.specs.Eight.{places, no_number, nothing, least_in, greatest_in, lone_in, WalkedAll}
use Rattle.partners.specs.Edges.{NoEdge, Walking, Grouped, Figure, LoneEnd, Found}
use Rattle.partners.specs.declared.eight.Eight.{Eight}
use Rattle.partners.specs.declared.edges.Group.{Group}
use Rattle.partners.proofs.Ranges.{least_law, greatest_law, unused_least, unused_greatest}
use Rattle.partners.proofs.Lone.{lone-none, lone-some}
use Rattle.partners.proofs.Groups.{apart}

module _ (levels types : List ℕ) (rows : ℕ) (rs : Rows rows levels types) (bytes : (i : ℕ) → i < rows → get_or levels i 0 < 256) (s : Shape) where
  -- ---- one entry
  -- a number of the walk between two types, over all rows and where no row has the types
  module _ (In : ℕ → ℕ → ℕ → ℕ → ℕ) (sum : List ℕ → ℕ) (none : ℕ)
      (law : (l bound : ℕ) → Bound l bound → (a b : ℕ) → In bound a b rows ≡ sum (numbers_of levels types rows l a b))
      (unused : (bound a b : ℕ) → a ≡ no_number → b ≡ no_number → In bound a b rows ≡ none) where
    module _ {c bound over own : ℕ} (w : Walking s c bound over own) (x : ℕ) where
      children_at : x ≡ In bound over own rows → Figure s c (sum (children_in levels types rows s c)) none x
      children_at e = record {
        has = λ pos lt.
            e ∙ law (edge_of s c) bound (w.begins-at pos lt) over own
            ∙ ap₂ (λ a b. sum (numbers_of levels types rows (edge_of s c) a b)) (w.over-is pos lt) (w.own_is pos lt);
        lacks = λ gone. e ∙ unused bound over own (w.none gone).0 (w.none gone).1;
      }

      parents_at : x ≡ In bound own over rows → Figure s c (sum (parents_in levels types rows s c)) none x
      parents_at e = record {
        has = λ pos lt.
            e ∙ law (edge_of s c) bound (w.begins-at pos lt) own over
            ∙ ap₂ (λ a b. sum (numbers_of levels types rows (edge_of s c) a b)) (w.own_is pos lt) (w.over-is pos lt);
        lacks = λ gone. e ∙ unused bound own over (w.none gone).1 (w.none gone).0;
      }

  lone-at : {c bound over own : ℕ} → Walking s c bound over own → (x : ℕ) → x ≡ lone_in levels types bound over own rows
      → 1 ≤ c → c < s.entries → LoneEnd levels types rows s c x
  lone-at {c} {bound} {over} {own} w x e pos lt =
      let some = lone-some levels types rows rs (edge_of s c) bound (w.begins-at pos lt) bytes (type_of s (parent_of s c)) (type_of s c) in
      subst (LoneEnd levels types rows s c) (sym here) (record {
        none = lone-none levels types rows rs (edge_of s c) bound (w.begins-at pos lt) bytes (type_of s (parent_of s c)) (type_of s c);
        inside = λ less. ((some less).0, (some less).1);
        alone = λ less. (some less).2;
        before = λ less. (some less).3;
      })
    where
      here : x ≡ lone_in levels types bound (type_of s (parent_of s c)) (type_of s c) rows
      here = e ∙ ap₂ (λ a b. lone_in levels types bound a b rows) (w.over-is pos lt) (w.own_is pos lt)

  -- ---- eight entries
  pub group_found : {first : ℕ} {g : Group} {found : Eight} → Grouped s first g
      → WalkedAll levels types rows g.bounds g.over g.own found → Found levels types rows s first found
  group_found {first} {g} {found} grouped all = record {
    least_children_lem = λ e lt. children_at (least_in levels types) least_or no_number least none-least (grouped e lt) _ (all.least_children_lem e lt);
    greatest_children_lem = λ e lt. children_at (greatest_in levels types) greatest 0 most none_most (grouped e lt) _ (all.greatest_children_lem e lt);
    least_parents_lem = λ e lt. parents_at (least_in levels types) least_or no_number least none-least (grouped e lt) _ (all.least_parents_lem e lt);
    greatest_parents_lem = λ e lt. parents_at (greatest_in levels types) greatest 0 most none_most (grouped e lt) _ (all.greatest_parents_lem e lt);
    lone_ends = λ e lt. lone-at (grouped e lt) _ (all.lone_is e lt);
  }
    where
      least : (l bound : ℕ) → Bound l bound → (a b : ℕ) → least_in levels types bound a b rows ≡ least_or (numbers_of levels types rows l a b)
      least l bound bd = least_law levels types rows rs l bound bd bytes

      most : (l bound : ℕ) → Bound l bound → (a b : ℕ) → greatest_in levels types bound a b rows ≡ greatest (numbers_of levels types rows l a b)
      most l bound bd = greatest_law levels types rows rs l bound bd bytes

      none-least : (bound a b : ℕ) → a ≡ no_number → b ≡ no_number → least_in levels types bound a b rows ≡ no_number
      none-least = unused_least levels types rows rs

      none_most : (bound a b : ℕ) → a ≡ no_number → b ≡ no_number → greatest_in levels types bound a b rows ≡ 0
      none_most = unused_greatest levels types rows rs

  -- ---- no edge
  -- nothing is found of entries that have none
  figure_none : {c number none : ℕ} → NoEdge s c → Figure s c number none none
  figure_none {c} gone = record { has = λ pos lt. absurd (apart s c gone pos lt); lacks = λ _. refl }

  pub nothing_found : {first : ℕ} {found : Eight} → ((e : ℕ) → NoEdge s (first + e)) → found ≡ nothing → Found levels types rows s first found
  nothing_found {first} gone q = subst (Found levels types rows s first) (sym q) record {
    least_children_lem = λ e lt. figured no_number e lt;
    greatest_children_lem = λ e lt. figured 0 e lt;
    least_parents_lem = λ e lt. figured no_number e lt;
    greatest_parents_lem = λ e lt. figured 0 e lt;
    lone_ends = λ e lt pos inside. absurd (apart s (first + e) (gone e) pos inside);
  }
    where
      figured : (none : ℕ) {number : ℕ} (e : ℕ) → e < places → Figure s (first + e) number none (get_or (replicate places none) e 0)
      figured none {number} e lt = subst (Figure s (first + e) number none) (sym (get_or-replicate places e none 0 lt)) (figure_none (gone e))
