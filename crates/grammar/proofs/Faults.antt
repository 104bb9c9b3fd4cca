-- Where the reader's walk stops: what stands before that begins some wanted tree, and nothing longer does. Assumes nothing.
use Prim.Native.Nat.{ℕ, zero, suc, ◌≤◌, ◌<◌}
use native.Mathlib.Nat.{not-suc-le-zero, le_of_suc-le-suc}
use native.Mathlib.Omega.{arith}
use mathlib.Core.Path.{◌≡◌, refl, sym, ◌∙◌, ap}
use mathlib.Core.Bool.{Bool, true, false}
use mathlib.Core.List.{List, [], ◌∷◌, ◌++◌}
use mathlib.Core.Option.{Option, none, some}
use lib.Dec.{leb}
use lib.ListN.{length, take, replicate}
use borrow.Author.Tests.{leb-true, leb-false}
use Rattle.paper.specs.Format.{Format}
use Rattle.grammar.specs.Grammar.{Token, closing, word, spelled, Tree, TokensOf, Begins, Longest}
use Rattle.grammar.specs.Typed.{Wanted}
use Rattle.grammar.specs.Reader.{Stage, first, behind_name, behind_open, behind_close, may_name, may_end, Walked, wrong, right, walk}
use Rattle.grammar.proofs.NamesRead.{NamesRead}
use Rattle.grammar.proofs.Steps.{wrong_right, wrong_inj, ahead, ahead_wrong, Next, next, onward, walk_next, step_right, step_name, step_close, may_deep}
use Rattle.grammar.proofs.Walked.{walk_tree}
use Rattle.grammar.proofs.TreeOf.{tree_walked}

-- a token that leads nowhere stops the walk; one that leads on stops it where the walk behind it stops
pub data Stops (f : Format) (s : Stage) (d : ℕ) (t : Token) (ts : List Token) (n : ℕ) : Type 0 where
  here : next f s d t ≡ none → n ≡ 0 → Stops f s d t ts n
  later : (x : Next) (m : ℕ) → next f s d t ≡ some x → walk f x.stage x.depth ts ≡ wrong m → n ≡ suc m → Stops f s d t ts n

stops : (f : Format) (s : Stage) (d : ℕ) (t : Token) (ts : List Token) (n : ℕ) → walk f s d (t ∷ ts) ≡ wrong n → Stops f s d t ts n
stops f s d t ts n e = go (next f s d t) refl (sym (walk_next f s d t ts) ∙ e)
  where
    go : (o : Option Next) → next f s d t ≡ o → onward f o ts ≡ wrong n → Stops f s d t ts n
    go none q w = here q (sym (wrong_inj w))
    go (some x) q w = let (m, k, h) = ahead_wrong x.entry n (walk f x.stage x.depth ts) w in later x m q k h

-- with nothing left, the walk stops before any token
empty_stops : (f : Format) (s : Stage) (d n : ℕ) → walk f s d [] ≡ wrong n → n ≡ 0
unfolding walk
empty_stops f s d n e = go (may_end s d) e
  where
    go : (b : Bool) → elim b as (λ _. Walked) [ true ↦ right [] | false ↦ wrong 0 ] ≡ wrong n → n ≡ 0
    go true q = absurd (wrong_right n [] (sym q))
    go false q = sym (wrong_inj q)

pub stops_within : (f : Format) (ts : List Token) (s : Stage) (d n : ℕ) → walk f s d ts ≡ wrong n → n ≤ length ts
stops_within f [] s d n e = omega (arith, empty_stops f s d n e)
stops_within f (t ∷ ts) s d n e = go (stops f s d t ts n e) (stops_within f ts)
  where
    go : Stops f s d t ts n → ((s : Stage) (d m : ℕ) → walk f s d ts ≡ wrong m → m ≤ length ts) → n ≤ suc (length ts)
    go (here q h) ih = omega arith
    go (later x m q w h) ih = omega (arith, ih x.stage x.depth m w)

-- ---- tokens past the first n change nothing
pub stops_alike : (f : Format) (ts : List Token) (s : Stage) (d n k : ℕ) (rest : List Token) → walk f s d ts ≡ wrong n → n < k → k ≤ length ts
    → walk f s d (take k ts ++ rest) ≡ wrong n
stops_alike f [] s d n k rest e lt le = let z : ⊥ = omega arith in absurd z
stops_alike f (t ∷ ts) s d n zero rest e lt le = absurd (not-suc-le-zero lt)
stops_alike f (t ∷ ts) s d n (suc k) rest e lt le = go (stops f s d t ts n e) (λ s d m w l. stops_alike f ts s d m k rest w l (le_of_suc-le-suc le))
  where
    go : Stops f s d t ts n → ((s : Stage) (d m : ℕ) → walk f s d ts ≡ wrong m → m < k → walk f s d (take k ts ++ rest) ≡ wrong m)
        → walk f s d (t ∷ (take k ts ++ rest)) ≡ wrong n
    go (here q h) ih = walk_next f s d t (take k ts ++ rest) ∙ ap (λ o. onward f o (take k ts ++ rest)) q ∙ ap (λ i. wrong i) (sym h)
    go (later x m q w h) ih =
        walk_next f s d t (take k ts ++ rest) ∙ ap (λ o. onward f o (take k ts ++ rest)) q
        ∙ ap (ahead x.entry) (ih x.stage x.depth m w (omega arith)) ∙ ap (λ i. wrong i) (sym h)

-- ---- the first n tokens can be gone on with
abbrev GoesOn : Format → Stage → ℕ → List Token → Type 0
GoesOn f s d ts = (rest : List Token) × (es : List Wanted) × (walk f s d (ts ++ rest) ≡ right es)

closings : (f : Format) (d : ℕ) → walk f behind_close d (replicate d closing) ≡ right []
unfolding walk
closings f zero = refl
closings f (suc d) = step_close f behind_close d (replicate d closing) [] (may_deep d) (closings f d)

module _ (f : Format) (N : NamesRead f) where
  name_ends : (d : ℕ) → GoesOn f behind_name d []
  unfolding walk
  name_ends zero = ([], [], refl)
  name_ends (suc d) = (replicate (suc d) closing, [], step_close f behind_name d (replicate d closing) [] (may_deep d) (closings f d))

  due_ends : (s : Stage) (d : ℕ) → may_name s d ≡ true → GoesOn f s d []
  due_ends s d m =
      let n = N.a_name in
      let (rest, es, e) = name_ends d in
      (word (spelled n) ∷ rest, record { level = suc d; name = n } ∷ es, step_name f s d (spelled n) n rest es m (N.spelled-read n N.a_name_kept) e)

  ends : (s : Stage) (d : ℕ) → GoesOn f s d []
  ends first d = due_ends first d refl
  ends behind_name d = name_ends d
  ends behind_open d = due_ends behind_open d refl
  ends behind_close d = (replicate d closing, [], closings f d)

  goes_on : (ts : List Token) (s : Stage) (d n : ℕ) → walk f s d ts ≡ wrong n → GoesOn f s d (take n ts)
  goes_on [] s d zero e = ends s d
  goes_on [] s d (suc n) e = let z : ⊥ = omega (arith, empty_stops f s d (suc n) e) in absurd z
  goes_on (t ∷ ts) s d zero e = ends s d
  goes_on (t ∷ ts) s d (suc n) e = go (stops f s d t ts (suc n) e) (goes_on ts)
    where
      go : Stops f s d t ts (suc n) → ((s : Stage) (d m : ℕ) → walk f s d ts ≡ wrong m → GoesOn f s d (take m ts)) → GoesOn f s d (t ∷ take n ts)
      go (here q h) ih = let z : ⊥ = omega arith in absurd z
      go (later x m q w h) ih =
          let (rest, es, g) = ih x.stage x.depth n (w ∙ ap (λ i. wrong i) (omega arith)) in
          (rest, x.entry ++ es, step_right f s d t x (take n ts ++ rest) es q g)

  -- ---- the longest beginning
  pub wrong_longest : (ts : List Token) (n : ℕ) → walk f first 0 ts ≡ wrong n → Longest f ts n
  wrong_longest ts n e = record { within = stops_within f ts first 0 n e; begun = begun; longest = longest }
    where
      begun : Begins f (take n ts)
      begun =
          let (rest, es, g) = goes_on ts first 0 n e in
          let (t, o, q) = tree_walked f N (take n ts ++ rest) es g in
          record { tree = t; rest = rest; whole = o }

      longest : (k : ℕ) → k ≤ length ts → Begins f (take k ts) → k ≤ n
      longest k le b = go (leb k n) refl
        where
          go : (c : Bool) → leb k n ≡ c → k ≤ n
          go true q = leb-true k n q
          go false q =
              let w = stops_alike f ts first 0 n k b.rest e (leb-false k n q) le in
              absurd (wrong_right n _ (sym w ∙ walk_tree f N (take k ts ++ b.rest) b.tree b.whole))

  pub wrong_none : (ts : List Token) (n : ℕ) → walk f first 0 ts ≡ wrong n → (t : Tree) → TokensOf f ts t → ⊥
  wrong_none ts n e t o = wrong_right n _ (sym e ∙ walk_tree f N ts t o)
