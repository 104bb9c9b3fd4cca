-- The summary of a type, figure by figure. Assumes nothing.
use Prim.Native.Nat.{ℕ, ◌<◌, pred}
use native.Mathlib.Nat.{not-suc-le-zero, lt_irrefl}
use native.Mathlib.Omega.{arith}
use mathlib.Core.Path.{◌≡◌, refl, sym, ◌∙◌, ap, ap₂}
use mathlib.Core.Bool.{Bool, true, false, false≢true}
use mathlib.Core.List.{List, [], ◌∷◌, map}
use lib.Dec.{eqb, leb}
use lib.ListN.{length, get_or, take, length-take}
use borrow.Author.Tests.{eq-eqb, leb-true, leb-false}
use Rattle.paper.specs.Lists
use Rattle.paper.specs.Lists.{Has, keep, distinct, up}
use Rattle.paper.specs.Format.{Format, most_types}
use Rattle.paper.specs.Tables.{Row, rows, row_types, types, type_number}
use Rattle.paper.specs.Closeness.{Node, nodes, of_kind}
use Rattle.paper.specs.Adorned.{Summary, children_of, summary}
use Rattle.paper.proofs.Lists.{get_d_has}
use Rattle.paper.proofs.Closeness.{Of}
use Rattle.paper.proofs.Tables.{rows_laid, nodes_numbered, sound_forest, sound-pos, one-level, ancestor}
use Rattle.paper.proofs.Tables.{type_of_lem, type_listed, type_length, number_at, number_same}
use Rattle.paper.proofs.Adorned.{distinct_once, figures, root_figures}
use Rattle.types.specs.Types.{parent_of}
use Rattle.types.proofs.Pass.{once_number}
use Rattle.closest.specs.Node.{Typed}
use Rattle.closest.proofs.Counts.{kinds_of_lem, kinds-count}
use Rattle.adorned.specs.Runs.{runs}
use Rattle.adorned.specs.Told.{Listed, summary_at}
use Rattle.adorned.proofs.Children.{runs_counts}

-- the type at a place has that number
pub type_number_lem : (rs : List Row) (k : ℕ) → k < length (types rs) → type_number (types rs) (get_or (types rs) k []) ≡ k
unfolding types
type_number_lem rs k lt = once_number (distinct (row_types rs)) (distinct_once (row_types rs)) k lt

module _ {f : Format} {n : ℕ} {t ks : List ℕ} (ty : Typed f n t ks) {parents labels : List ℕ} {count k parent label level : ℕ}
    (li : Listed (types (rows f t)) parents labels count k parent label level) where
  abbrev rs : List Row
  rs = rows f t

  abbrev ts : List (List ℕ)
  ts = types (rows f t)

  -- the type's labels
  abbrev v : List ℕ
  v = get_or (types (rows f t)) k []

  known : k < length ts
  known = omega (arith, li.known, li.told.count-is)

  listed : Has v ts
  listed = get_d_has [] ts k known

  number : type_number ts v ≡ k
  number = type_number_lem rs k known

  -- ---- root or not
  at_root : (u : List ℕ) → length u ≡ 1 → parent_of ts (up u) ≡ most_types
  at_root [] e = refl
  at_root (x ∷ []) e = refl
  at_root (x ∷ y ∷ u) e = let z : ⊥ = omega arith in absurd z

  below_root : (u : List ℕ) → 1 < length u → parent_of ts (up u) ≡ type_number ts (up u)
  below_root [] lt = absurd (not-suc-le-zero lt)
  below_root (x ∷ []) lt = absurd (lt_irrefl 1 lt)
  below_root (x ∷ y ∷ u) lt = refl

  -- the parent type is listed
  up-listed : 1 < length v → Has (up v) ts
  up-listed deep = li.told.above v listed (pred (length v)) (omega arith) (omega arith)

  parent_is : parent ≡ parent_of ts (up v)
  parent_is = li.parent_is ∙ li.told.parent k li.known

  label_is : label ≡ Lists.last_or 0 v
  label_is = li.label_is ∙ li.told.label k li.known

  deep_parent : 1 < length v → (parent ≡ type_number ts (up v)) × (parent < most_types)
  deep_parent deep =
      let e = parent_is ∙ below_root v deep in
      (e, omega (arith, e, (number_at (up v) ts (up-listed deep)).0, li.told.count-is, li.told.few))

  is_root : parent ≡ most_types → length v ≡ 1
  is_root e = go (leb 2 (length v)) refl
    where
      go : (b : Bool) → leb 2 (length v) ≡ b → length v ≡ 1
      go true q = let z : ⊥ = omega (arith, (deep_parent (leb-true 2 (length v) q)).1) in absurd z
      go false q = omega (arith, leb-false 2 (length v) q, li.told.whole v listed)

  is-deep : (parent ≡ most_types → ⊥) → 1 < length v
  is-deep ne = go (leb 2 (length v)) refl
    where
      go : (b : Bool) → leb 2 (length v) ≡ b → 1 < length v
      go true q = leb-true 2 (length v) q
      go false q = absurd (ne (parent_is ∙ at_root v (omega (arith, leb-false 2 (length v) q, li.told.whole v listed))))

  -- ---- a root type
  pub root_summary : (c : ℕ) → parent ≡ most_types → c ≡ length (keep (λ x. eqb x k) (take n ks))
      → record { parent = parent; label = label; level = level; rows = c; least = c; greatest = c } ≡ summary_at (rows f t) k
  unfolding summary
  root_summary c e ec =
      let one = is_root e in
      let rc : c ≡ length (of_kind (nodes rs) k) = ec ∙ kinds-count f n t ks ty k in
      let (lo, hi) = root_figures (nodes rs) ts k v one in
      λ i. record {
        parent = (e ∙ sym (pick_true (eqb (length v) 1) most_types (type_number ts (up v)) (eq-eqb (length v) 1 one))) i;
        label = label_is i;
        level = li.level-is i;
        rows = rc i;
        least = (rc ∙ sym lo) i;
        greatest = (rc ∙ sym hi) i;
      }
    where
      pick_true : (b : Bool) (x y : ℕ) → b ≡ true → elim b [ true ↦ x | false ↦ y ] ≡ x
      pick_true true x y q = refl
      pick_true false x y q = absurd (false≢true q)

  -- ---- any other type
  children_are : 1 < length v → runs parent k (take n ks) ≡ map (children_of (nodes rs) k) (of_kind (nodes rs) (type_number ts (up v)))
  children_are deep =
      let s = ty.sound.kept in
      let la = rows_laid f t in
      let p = type_number ts (up v) in
      ap₂ (λ a b. runs a k b) (deep_parent deep).0 (ty.listed ∙ sym (kinds_of_lem f t))
      ∙ runs_counts (nodes rs) (nodes_numbered rs) (sound_forest f rs la s) (sound-pos f rs la s) p k apart
      (λ x y ox oy. one-level f rs la s x y ox.0 oy.0 (ox.1 ∙ sym oy.1)) parent_of_lem
    where
      apart : k ≡ type_number ts (up v) → ⊥
      apart e =
          let q : v ≡ up v = number_same v (up v) ts listed (up-listed deep) (number ∙ e) in
          omega (arith, ap length q, length-take (pred (length v)) v)

      parent_of_lem : (s : Node) → Of (nodes rs) k s → (r : Node) × Of (nodes rs) (type_number ts (up v)) r × (r.dewey ≡ up s.dewey)
      parent_of_lem s (hs, ks) =
          let so = ty.sound.kept in
          let la = rows_laid f t in
          let (u, tu, ku) = type_of_lem f rs la so s hs in
          let q : u ≡ v = number_same u v ts (type_listed f rs la so (s.dewey, u) tu) listed (sym ku ∙ ks ∙ sym number) in
          let l = type_length f rs la so s u tu in
          let lv : length u ≡ length v = ap length q in
          let (r, hr, er, tr, kr) = ancestor f rs la so s u tu (pred (length u)) (omega arith) (omega arith) in
          (r, (hr, kr ∙ ap (λ z. type_number ts (up z)) q), er ∙ ap (λ m. take (pred m) s.dewey) l)

  pub deep_summary : (c lo hi : ℕ) → (parent ≡ most_types → ⊥) → c ≡ length (keep (λ x. eqb x k) (take n ks))
      → lo ≡ Lists.least (runs parent k (take n ks)) → hi ≡ Lists.most (λ x. x) (runs parent k (take n ks))
      → record { parent = parent; label = label; level = level; rows = c; least = lo; greatest = hi } ≡ summary_at (rows f t) k
  unfolding summary
  deep_summary c lo hi ne ec elo ehi =
      let deep = is-deep ne in
      let cs = children_are deep in
      let (fp, fl, fg) = figures f rs (rows_laid f t) ty.sound.kept v listed deep in
      let own : Summary = summary (nodes rs) ts (type_number ts v) v in
      let same : own ≡ summary (nodes rs) ts k v = ap (λ m. summary (nodes rs) ts m v) number in
      let at = ap (λ m. map (children_of (nodes rs) m) (of_kind (nodes rs) (type_number ts (up v)))) (sym number) in
      λ i. record {
        parent = ((deep_parent deep).0 ∙ sym fp ∙ ap (λ (x : Summary). x.parent) same) i;
        label = label_is i;
        level = li.level-is i;
        rows = (ec ∙ kinds-count f n t ks ty k) i;
        least = (elo ∙ ap Lists.least (cs ∙ at) ∙ sym fl ∙ ap (λ (x : Summary). x.least) same) i;
        greatest = (ehi ∙ ap (Lists.most (λ x. x)) (cs ∙ at) ∙ sym fg ∙ ap (λ (x : Summary). x.greatest) same) i;
      }
