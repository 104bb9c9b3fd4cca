-- What a summary says of a tape: its refusal, or how many rows an entry's type has and how many of them its lines show. Assumes nothing.
use Prim.Native.Nat.{ℕ, zero, suc, ◌+◌, ◌≤◌, ◌<◌}
use native.Mathlib.Nat.{not-suc-le-zero}
use native.Mathlib.Omega.{arith}
use mathlib.Core.Path.{◌≡◌, refl, ◌∙◌, ap, subst}
use mathlib.Core.Logic.{inl, inr}
use mathlib.Core.Bool.{Bool, true, false}
use mathlib.Core.List.{List, [], ◌∷◌, ◌++◌, map}
use lib.ListN.{length, get_or, replicate, length-map, get_or-append}
use lib.Seq.{get_or-take}
use Rattle.paper.specs.Lists.{Has, keep, count, padded}
use Rattle.paper.specs.Format.{Format, most_entries, most_lines}
use Rattle.paper.specs.Closeness.{Node, of_kind}
use Rattle.paper.specs.Shapes.{Shape, kind}
use Rattle.paper.specs.NewTable.{Line}
use Rattle.paper.specs.Figures.{entry_lines, different_rows, figures, no_figures}
use Rattle.paper.specs.Calls.{Answer, refused, given, Work, tests1_7, test8, summarise_rows, summarise}
use Rattle.totals.proofs.Lists.{put_if, length-keep}
use Rattle.totals.proofs.Refusals.{Numbered, numbered1_7, numbered8, is_numbered}
use Rattle.totals.proofs.Reshaped.{tests1_8}

-- ---- refused, or the figures
pub data Outcome (f : Format) (b sb : List ℕ) : Type 0 where
  refusal : (k p : ℕ) → 0 < k → tests1_8 f b sb most_lines ≡ refused k p → summarise f b sb ≡ record { number = k; place = p; rest = no_figures } → Outcome f b sb
  figured : (w : Work) (ls : List Line) → tests1_7 f b sb ≡ given w → test8 f w most_lines ≡ given ls
      → summarise f b sb ≡ record { number = 0; place = 0; rest = figures w.nodes w.shape ls } → Outcome f b sb

pub outcome : (f : Format) (b sb : List ℕ) → Outcome f b sb
unfolding summarise summarise_rows
outcome f b sb = first (tests1_7 f b sb) refl
  where
    second : (w : Work) → tests1_7 f b sb ≡ given w → (a : Answer (List Line)) → test8 f w most_lines ≡ a → Outcome f b sb
    second w past (refused k p) e = refusal k p (is_numbered k (subst Numbered e (numbered8 f w most_lines))).0 (rw (past, e)) (rw (past, e))
    second w past (given ls) e = figured w ls past e (rw (past, e))

    first : (a : Answer Work) → tests1_7 f b sb ≡ a → Outcome f b sb
    first (refused k p) e = refusal k p (is_numbered k (subst Numbered e (numbered1_7 f b sb))).0 (rw e) (rw e)
    first (given w) e = second w e (test8 f w most_lines) refl

-- ---- the figure of an entry
counted : (g : ℕ → ℕ) (i n e : ℕ) → e < n → get_or (map g (count i n)) e 0 ≡ g (i + e)
counted g i zero e h = absurd (not-suc-le-zero h)
counted g i (suc n) zero h = ap g (omega arith)
counted g i (suc n) (suc e) h = counted g (suc i) n e (omega (arith, h)) ∙ ap g (omega arith)

length-count : (i n : ℕ) → length (count i n) ≡ n
length-count i zero = refl
length-count i (suc n) = ap suc (length-count (suc i) n)

figure_at : (g : ℕ → ℕ) (n e : ℕ) → e < n → n ≤ most_entries → get_or (padded most_entries (map g (count 0 n))) e 0 ≡ g e
figure_at g n e h few =
    let long : length (map g (count 0 n)) ≡ n = length-map (count 0 n) g ∙ length-count 0 n in
    get_or-take most_entries (map g (count 0 n) ++ replicate most_entries 0) e 0 (omega (arith, h, few))
    ∙ get_or-append (map g (count 0 n)) (replicate most_entries 0) 0 e (omega (arith, h, long))
    ∙ counted g 0 n e h ∙ ap g (omega arith)

module _ (t : List Node) (s : Shape) (ls : List Line) (e : ℕ) (lt : e < length s.ways) (few : length s.ways ≤ most_entries) where
  pub rows_figure : get_or (figures t s ls).rows e 0 ≡ length (of_kind t (kind s e))
  unfolding figures
  rows_figure = figure_at (λ c. length (of_kind t (kind s c))) (length s.ways) e lt few

  pub different_figure : get_or (figures t s ls).different e 0 ≡ length (different_rows t (entry_lines ls e))
  unfolding figures
  different_figure = figure_at (λ c. length (different_rows t (entry_lines ls c))) (length s.ways) e lt few

-- ---- all of a list is kept, or none
module _ {A : Type 0} (p : A → Bool) where
  pub all_kept_lem : (xs : List A) → length (keep p xs) ≡ length xs → (x : A) → Has x xs → p x ≡ true
  all_kept_lem [] e x h = absurd h
  all_kept_lem (y ∷ ys) e x h = go (p y) refl e h (λ l k. all_kept_lem ys l x k)
    where
      go : (b : Bool) → p y ≡ b → length (put_if b y (keep p ys)) ≡ suc (length ys) → Has x (y ∷ ys)
          → (length (keep p ys) ≡ length ys → Has x ys → p x ≡ true) → p x ≡ true
      go true q l (inl same) rest = ap p same ∙ q
      go true q l (inr later) rest = rest (omega (arith, l)) later
      go false q l k rest = let z : ⊥ = omega (arith, l, length-keep p ys) in absurd z

  pub none_kept : (xs : List A) → length (keep p xs) ≡ 0 → (x : A) → Has x xs → p x ≡ false
  none_kept [] e x h = absurd h
  none_kept (y ∷ ys) e x h = go (p y) refl e h (λ l k. none_kept ys l x k)
    where
      go : (b : Bool) → p y ≡ b → length (put_if b y (keep p ys)) ≡ 0 → Has x (y ∷ ys) → (length (keep p ys) ≡ 0 → Has x ys → p x ≡ false) → p x ≡ false
      go true q l k rest = let z : ⊥ = omega (arith, l) in absurd z
      go false q l (inl same) rest = ap p same ∙ q
      go false q l (inr later) rest = rest l later

-- ---- what it says of a tape that passes
pub figures_are : (f : Format) (b sb : List ℕ) (w : Work) (ls : List Line) → tests1_7 f b sb ≡ given w → test8 f w most_lines ≡ given ls
    → summarise f b sb ≡ record { number = 0; place = 0; rest = figures w.nodes w.shape ls }
unfolding summarise summarise_rows
figures_are f b sb w ls past past8 = rw (past, past8)
