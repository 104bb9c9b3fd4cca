-- One step of the reader's walk: a token leads to the next stage, depth and entries, or to none. Assumes nothing.
use Prim.Native.Nat.{ℕ, suc, pred}
use native.Mathlib.Omega.{arith}
use mathlib.Core.Path.{◌≡◌, refl, sym, ◌∙◌, ap}
use mathlib.Core.Bool.{Bool, true, false, false≢true}
use mathlib.Core.List.{List, [], ◌∷◌, ◌++◌}
use mathlib.Core.Option.{Option, none, some}
use borrow.Author.Tests.{lt-ltb}
use lib.Dec.{ltb}
use Rattle.paper.specs.Format.{Format}
use Rattle.grammar.specs.Grammar.{Token, opening, closing, word, Name}
use Rattle.grammar.specs.Typed.{Wanted}
use Rattle.grammar.specs.Reader.{name_of_word, Stage, behind_name, behind_open, behind_close, may_name, may_open, may_close}
use Rattle.grammar.specs.Reader.{Walked, wrong, right, behind, with, walk}

-- ---- what was walked
abbrev pub is_right : Walked → Bool
is_right (wrong n) = false
is_right (right es) = true

abbrev entries_of : Walked → List Wanted
entries_of (wrong n) = []
entries_of (right es) = es

abbrev count_of : Walked → ℕ
count_of (wrong n) = n
count_of (right es) = 0

pub wrong_right : (n : ℕ) (es : List Wanted) → wrong n ≡ right es → ⊥
wrong_right n es e = false≢true (ap is_right e)

pub right_inj : {es fs : List Wanted} → ◌≡◌ {A = Walked} (right es) (right fs) → es ≡ fs
right_inj e = ap entries_of e

pub wrong_inj : {m n : ℕ} → ◌≡◌ {A = Walked} (wrong m) (wrong n) → m ≡ n
wrong_inj e = ap count_of e

-- the entries of a token before what was walked behind it
abbrev pub ahead : List Wanted → Walked → Walked
ahead es (wrong n) = wrong (suc n)
ahead es (right fs) = right (es ++ fs)

behind_ahead : (w : Walked) → behind w ≡ ahead [] w
behind_ahead (wrong n) = refl
behind_ahead (right es) = refl

pub with_ahead : (e : Wanted) (w : Walked) → with e w ≡ ahead (e ∷ []) w
with_ahead e (wrong n) = refl
with_ahead e (right es) = refl

pub ahead_right : (es xs : List Wanted) (w : Walked) → ahead es w ≡ right xs → (fs : List Wanted) × (w ≡ right fs) × (xs ≡ es ++ fs)
ahead_right es xs (wrong n) e = absurd (wrong_right (suc n) xs e)
ahead_right es xs (right fs) e = (fs, refl, sym (right_inj e))

pub ahead_wrong : (es : List Wanted) (n : ℕ) (w : Walked) → ahead es w ≡ wrong n → (m : ℕ) × (w ≡ wrong m) × (n ≡ suc m)
ahead_wrong es n (wrong m) e = (m, refl, sym (wrong_inj e))
ahead_wrong es n (right fs) e = absurd (wrong_right n (es ++ fs) (sym e))

-- ---- where a token leads
pub record Next : Type 0 where
  pub stage : Stage
  pub depth : ℕ
  pub entry : List Wanted

abbrev next_name : ℕ → Option Name → Option Next
next_name d none = none
next_name d (some n) = some (record { stage = behind_name; depth = d; entry = record { level = suc d; name = n } ∷ [] })

abbrev pub next : Format → Stage → ℕ → Token → Option Next
next f s d opening = elim (may_open s) [ true ↦ some (record { stage = behind_open; depth = suc d; entry = [] }) | false ↦ none ]
next f s d closing = elim (may_close s d) [ true ↦ some (record { stage = behind_close; depth = pred d; entry = [] }) | false ↦ none ]
next f s d (word w) = elim (may_name s d) [ true ↦ next_name d (name_of_word f w) | false ↦ none ]

abbrev pub onward : Format → Option Next → List Token → Walked
onward f none ts = wrong 0
onward f (some x) ts = ahead x.entry (walk f x.stage x.depth ts)

pub walk_next : (f : Format) (s : Stage) (d : ℕ) (t : Token) (ts : List Token) → walk f s d (t ∷ ts) ≡ onward f (next f s d t) ts
unfolding walk
walk_next f s d opening ts = go (may_open s)
  where
    go : (b : Bool) → ◌≡◌ {A = Walked} (elim b [ true ↦ behind (walk f behind_open (suc d) ts) | false ↦ wrong 0 ])
        (onward f (elim b [ true ↦ some (record { stage = behind_open; depth = suc d; entry = [] }) | false ↦ none ]) ts)
    go true = behind_ahead (walk f behind_open (suc d) ts)
    go false = refl
walk_next f s d closing ts = go (may_close s d)
  where
    go : (b : Bool) → ◌≡◌ {A = Walked} (elim b [ true ↦ behind (walk f behind_close (pred d) ts) | false ↦ wrong 0 ])
        (onward f (elim b [ true ↦ some (record { stage = behind_close; depth = pred d; entry = [] }) | false ↦ none ]) ts)
    go true = behind_ahead (walk f behind_close (pred d) ts)
    go false = refl
walk_next f s d (word w) ts = go (may_name s d) (name_of_word f w)
  where
    go : (b : Bool) (o : Option Name) → ◌≡◌ {A = Walked}
        (elim b [ true ↦ elim o [ some n ↦ with (record { level = suc d; name = n }) (walk f behind_name d ts) | none ↦ wrong 0 ] | false ↦ wrong 0 ])
        (onward f (elim b [ true ↦ next_name d o | false ↦ none ]) ts)
    go true none = refl
    go true (some n) = with_ahead (record { level = suc d; name = n }) (walk f behind_name d ts)
    go false none = refl
    go false (some n) = refl

-- a step that is allowed
pub step_right : (f : Format) (s : Stage) (d : ℕ) (t : Token) (x : Next) (ts : List Token) (es : List Wanted)
    → next f s d t ≡ some x → walk f x.stage x.depth ts ≡ right es → walk f s d (t ∷ ts) ≡ right (x.entry ++ es)
step_right f s d t x ts es n w = walk_next f s d t ts ∙ ap (λ o. onward f o ts) n ∙ ap (ahead x.entry) w

pub may_deep : (d : ℕ) → ltb 0 (suc d) ≡ true
may_deep d = lt-ltb 0 (suc d) (omega arith)

pub step_name : (f : Format) (s : Stage) (d : ℕ) (w : List ℕ) (n : Name) (ts : List Token) (es : List Wanted)
    → may_name s d ≡ true → name_of_word f w ≡ some n → walk f behind_name d ts ≡ right es
    → walk f s d (word w ∷ ts) ≡ right (record { level = suc d; name = n } ∷ es)
step_name f s d w n ts es m r e =
    step_right f s d (word w) (record { stage = behind_name; depth = d; entry = record { level = suc d; name = n } ∷ [] }) ts es
    (λ i. elim (m i) as (λ _. Option Next) [ true ↦ next_name d (r i) | false ↦ none ]) e

pub step_open : (f : Format) (d : ℕ) (ts : List Token) (es : List Wanted)
    → walk f behind_open (suc d) ts ≡ right es → walk f behind_name d (opening ∷ ts) ≡ right es
step_open f d ts es e = step_right f behind_name d opening (record { stage = behind_open; depth = suc d; entry = [] }) ts es refl e

pub step_close : (f : Format) (s : Stage) (d : ℕ) (ts : List Token) (es : List Wanted)
    → may_close s (suc d) ≡ true → walk f behind_close d ts ≡ right es → walk f s (suc d) (closing ∷ ts) ≡ right es
step_close f s d ts es m e =
    step_right f s (suc d) closing (record { stage = behind_close; depth = d; entry = [] }) ts es
    (λ i. elim (m i) as (λ _. Option Next) [ true ↦ some (record { stage = behind_close; depth = pred (suc d); entry = [] }) | false ↦ none ]) e
