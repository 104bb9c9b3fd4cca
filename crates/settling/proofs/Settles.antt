-- What it is for a call's own contract to ask nothing, and to settle what a caller sees: any two ways to meet it show the same. Assumes nothing.
--     Asks-nothing, Settles      of what a caller must show and what it learns, as the borrow checker reads them off a contract: `Asked` and `Learnt`
--     Settled, Promises      both of these; and that whatever a caller learns has a property
--     Says-as, Settled-too, Holds-too, settled_too, holds_too      a contract says what another says, and what is proved of the other holds of it
--     Says-told, Tells, Holds-told, settled_told, answer_told, holds_told      the same of a contract whose results tell what the other's are
--     Walk-asks-nothing, Walk-settles, Walk-settled      of the clauses themselves, at every model of the logic: a walk has no such reading
--     Walk-says-told, Walk-tells      and of those of a contract whose results tell another's
-- `shows` picks what a caller sees of the result and of the parameters at exit: of what was lent as `&mut`, its last value.
use Prim.Native.Nat.{ℕ}
use mathlib.Core.Path.{◌≡◌, sym, ◌∙◌, ap}
use mathlib.Core.List.{List}
use seplogic.Ra.Ura.{Ura}
use base.Logic.{SProp, ent, sep, emp, via, id⊢, fst∗, snd∗}
use prog.Memory.{Memory}
use prog.Routine.{Routine}
use types.Logic.{Logic}
use contract.Lifetimes.{Lfts}
use contract.Monad.{Fun, fact, fact_i, fact_use}
use denote.Ref.{Bor}
use denote.Triple.Entry.{Args, Res}
use denote.Triple.Clauses.{Clauses, Ended, AtExit}

-- what a caller sees of a part of a table: its bytes, and where it lies. The logic's own name of the reference is not seen.
abbrev pub part : Bor (List ℕ) → List ℕ × (ℕ × ℕ)
part p = (p.now, p.ref_ptr)

abbrev pub Asks-nothing : {K : Type 0} {A : K → Type 0} → ((κs : K) → A κs → Type 0) → Type 0
Asks-nothing {K} {A} Asked = (κs : K) (a : A κs) → Asked κs a

abbrev pub Settles : {K : Type 0} {A R E : K → Type 0} {X : Type 0} → ((κs : K) → A κs → R κs → E κs → Type 0) → ((κs : K) → R κs → E κs → X) → Type 0
Settles {K} {A} {R} {E} Learnt shows =
    (κs : K) (a : A κs) (r₁ r₂ : R κs) (e₁ e₂ : E κs) → Learnt κs a r₁ e₁ → Learnt κs a r₂ e₂ → shows κs r₁ e₁ ≡ shows κs r₂ e₂

-- a call that asks nothing and settles what a caller sees
abbrev pub Settled : {K : Type 0} {A R E : K → Type 0} {X : Type 0} → ((κs : K) → A κs → Type 0) → ((κs : K) → A κs → R κs → E κs → Type 0)
    → ((κs : K) → R κs → E κs → X) → Type 0
Settled Asked Learnt shows = Asks-nothing Asked × Settles Learnt shows

-- whatever the contract allows has the property P
abbrev pub Promises : {K : Type 0} {A R E : K → Type 0} → ((κs : K) → A κs → R κs → E κs → Type 0) → ((κs : K) → A κs → R κs → E κs → Type 0) → Type 0
Promises {K} {A} {R} {E} Learnt P = (κs : K) (a : A κs) (r : R κs) (e : E κs) → Learnt κs a r e → P κs a r e

-- ---- a contract that says what another says: `to` gives the other's arguments, and `at` what it has at exit
module _ {K A B R D E : Type 0} (to : A → B) (at : D → E) (Learnt : K → A → R → D → Type 0) where
  abbrev pub Says-as : (K → B → R → E → Type 0) → Type 0
  Says-as Learnt' = (κs : K) (a : A) (r : R) (e : D) → Learnt κs a r e → Learnt' κs (to a) r (at e)

  module _ {Learnt' : K → B → R → E → Type 0} where
    -- what a theorem says of the other, said of this one
    abbrev pub Settled-too : {X : Type 0} {Asked' : K → B → Type 0} {shows : K → R → E → X} → (K → A → Type 0) → Settled Asked' Learnt' shows → Type 0
    Settled-too {shows = shows} Asked _ = Settled Asked Learnt (λ κs r e. shows κs r (at e))

    abbrev pub Holds-too : {P : K → B → R → E → Type 0} → Promises Learnt' P → Type 0
    Holds-too {P} _ = (κs : K) (a : A) (r : R) (e : D) → Learnt κs a r e → P κs (to a) r (at e)

    -- so it is settled where the other is, and has each property that the other has
    pub settled_too : {Asked : K → A → Type 0} {X : Type 0} {Asked' : K → B → Type 0} {shows : K → R → E → X} (t : Settled Asked' Learnt' shows)
        → Asks-nothing Asked → Says-as Learnt' → Settled-too Asked t
    settled_too t asks says = (asks, λ κs a r s e f x y. t.1 κs (to a) r s (at e) (at f) (says κs a r e x) (says κs a s f y))

    pub holds_too : {P : K → B → R → E → Type 0} (t : Promises Learnt' P) → Says-as Learnt' → Holds-too t
    holds_too t says κs a r e x = t κs (to a) r (at e) (says κs a r e x)

-- ---- a contract whose results tell another's: `tells` says of its own, and `told` of the other's, what is told
module _ {K A B R S D E N : Type 0} (to : A → B) (at : D → E) (tells : R → N) (told : S → N) (Learnt : K → A → R → D → Type 0) where
  -- where r tells the other's result j, the contract says of r what the other says of j
  abbrev pub Says-told : (K → B → S → E → Type 0) → Type 0
  Says-told Learnt' = (κs : K) (a : A) (r : R) (j : S) (e : D) → tells r ≡ told j → Learnt κs a r e → Learnt' κs (to a) j (at e)

  -- and whatever r it allows tells some result that the other allows
  abbrev pub Tells : (K → B → S → E → Type 0) → Type 0
  Tells Learnt' = (κs : K) (a : A) (r : R) (e : D) → Learnt κs a r e → (j : S) × (Learnt' κs (to a) j (at e) × (tells r ≡ told j))

  pub tells_so : (Learnt' : K → B → S → E → Type 0) → Says-told Learnt' → ((κs : K) (a : A) (r : R) (e : D) → Learnt κs a r e → (j : S) × (tells r ≡ told j))
      → Tells Learnt'
  tells_so Learnt' says some κs a r e x = let (j, u) = some κs a r e x in (j, (says κs a r j e u x, u))

  module _ {Learnt' : K → B → S → E → Type 0} where
    -- what a theorem says of the other, said of each result that is told
    abbrev pub Holds-told : {P : K → B → S → E → Type 0} → Promises Learnt' P → Type 0
    Holds-told {P} _ = (κs : K) (a : A) (r : R) (j : S) (e : D) → tells r ≡ told j → Learnt κs a r e → P κs (to a) j (at e)

    pub holds_told : {P : K → B → S → E → Type 0} (t : Promises Learnt' P) → Says-told Learnt' → Holds-told t
    holds_told t says κs a r j e u x = t κs (to a) j (at e) (says κs a r j e u x)

    -- so it is settled where the other is, if no two of its results tell the same: with what is left of what was lent, and by itself
    module _ {Asked : K → A → Type 0} {Asked' : K → B → Type 0} (one : (r s : R) → tells r ≡ tells s → r ≡ s) where
      pub settled_told : {X : Type 0} {left : K → E → X} → Settled {X = S × X} Asked' Learnt' (λ κs j e. (j, left κs e)) → Asks-nothing Asked → Tells Learnt'
          → Settled {X = R × X} Asked Learnt (λ κs r e. (r, left κs (at e)))
      settled_told {X} t asks tell = (
        asks,
        λ κs a r s e f x y.
            let (j, (p, u)) = tell κs a r e x in
            let (k, (q, v)) = tell κs a s f y in
            let same = t.1 κs (to a) j k (at e) (at f) p q in
            let answer = one r s (u ∙ ap (λ (z : S × X). told z.0) same ∙ sym v) in
            λ i. (answer i, (same i).1),
      )

      pub answer_told : Settled Asked' Learnt' (λ κs j e. j) → Asks-nothing Asked → Tells Learnt' → Settled Asked Learnt (λ κs r e. r)
      answer_told t asks tell = (
        asks,
        λ κs a r s e f x y.
            let (j, (p, u)) = tell κs a r e x in
            let (k, (q, v)) = tell κs a s f y in
            one r s (u ∙ ap told (t.1 κs (to a) j k (at e) (at f) p q) ∙ sym v),
      )

-- a walked function's clauses at every model
abbrev pub Contract : Ended → Type 2
Contract T = (M : Type 1) (𝓤 : Ura M) (𝓛 : Logic 𝓤) → (Memory → SProp 𝓤) → (Routine → Fun 𝓤) → Clauses 𝓤 T

module _ (T : Ended) (c : Contract T) where
  abbrev pub Walk-asks-nothing : Type 2
  Walk-asks-nothing =
      (M : Type 1) (𝓤 : Ura M) (𝓛 : Logic 𝓤) (mem : Memory → SProp 𝓤) (run : Routine → Fun 𝓤)
      (κs : Lfts T.signature.lifetimes) (a : Args T.signature κs) (g : (c M 𝓤 𝓛 mem run κs a).ghost)
      → ent 𝓤 (emp 𝓤) ((c M 𝓤 𝓛 mem run κs a).requires g)

  abbrev pub Walk-settles : {X : Type 0} → ((κs : Lfts T.signature.lifetimes) → Res T.signature κs → AtExit T κs → X) → Type 2
  Walk-settles shows =
      (M : Type 1) (𝓤 : Ura M) (𝓛 : Logic 𝓤) (mem : Memory → SProp 𝓤) (run : Routine → Fun 𝓤)
      (κs : Lfts T.signature.lifetimes) (a : Args T.signature κs) (g : (c M 𝓤 𝓛 mem run κs a).ghost)
      (r₁ r₂ : Res T.signature κs) (e₁ e₂ : AtExit T κs)
      → ent 𝓤 (sep 𝓤 ((c M 𝓤 𝓛 mem run κs a).ensures g r₁ e₁) ((c M 𝓤 𝓛 mem run κs a).ensures g r₂ e₂))
      (fact 𝓤 (shows κs r₁ e₁ ≡ shows κs r₂ e₂))

  abbrev pub Walk-settled : {X : Type 0} → ((κs : Lfts T.signature.lifetimes) → Res T.signature κs → AtExit T κs → X) → Type 2
  Walk-settled shows = Walk-asks-nothing × Walk-settles shows

-- the same of a walked contract whose results tell another's, at every model
module _ (T T' : Ended) (c : Contract T) (c' : Contract T') {N : Type 0} (keys : Lfts T.signature.lifetimes → Lfts T'.signature.lifetimes)
    (to : (κs : Lfts T.signature.lifetimes) → Args T.signature κs → Args T'.signature (keys κs))
    (at : (κs : Lfts T.signature.lifetimes) → AtExit T κs → AtExit T' (keys κs))
    (tells : (κs : Lfts T.signature.lifetimes) → Res T.signature κs → N) (told : (κs : Lfts T.signature.lifetimes) → Res T'.signature (keys κs) → N) where
  abbrev pub Walk-says-told : Type 2
  Walk-says-told =
      (M : Type 1) (𝓤 : Ura M) (𝓛 : Logic 𝓤) (mem : Memory → SProp 𝓤) (run : Routine → Fun 𝓤)
      (κs : Lfts T.signature.lifetimes) (a : Args T.signature κs) (g : (c M 𝓤 𝓛 mem run κs a).ghost)
      (r : Res T.signature κs) (j : Res T'.signature (keys κs)) (e : AtExit T κs) → tells κs r ≡ told κs j
      → (g' : (c' M 𝓤 𝓛 mem run (keys κs) (to κs a)).ghost)
      × ent 𝓤 ((c M 𝓤 𝓛 mem run κs a).ensures g r e) ((c' M 𝓤 𝓛 mem run (keys κs) (to κs a)).ensures g' j (at κs e))

  abbrev pub Walk-tells : Type 2
  Walk-tells =
      (M : Type 1) (𝓤 : Ura M) (𝓛 : Logic 𝓤) (mem : Memory → SProp 𝓤) (run : Routine → Fun 𝓤)
      (κs : Lfts T.signature.lifetimes) (a : Args T.signature κs) (g : (c M 𝓤 𝓛 mem run κs a).ghost) (r : Res T.signature κs) (e : AtExit T κs)
      → ent 𝓤 ((c M 𝓤 𝓛 mem run κs a).ensures g r e) (fact 𝓤 ((j : Res T'.signature (keys κs)) × (tells κs r ≡ told κs j)))

-- ---- how they are shown
pub both : {X Y : Type 0} {x₁ x₂ : X} {y₁ y₂ : Y} → (x₁ ≡ x₂) × (y₁ ≡ y₂) → ◌≡◌ {A = X × Y} (x₁, y₁) (x₂, y₂)
both u i = (u.0 i, u.1 i)

pub three : {X Y Z : Type 0} {x₁ x₂ : X} {y₁ y₂ : Y} {z₁ z₂ : Z} → (x₁ ≡ x₂) × (y₁ ≡ y₂) × (z₁ ≡ z₂)
    → ◌≡◌ {A = X × (Y × Z)} (x₁, (y₁, z₁)) (x₂, (y₂, z₂))
three u i = (u.0 i, (u.1 i, u.2 i))

module _ {M : Type 1} (𝓤 : Ura M) where
  pub nothing : ent 𝓤 (emp 𝓤) (emp 𝓤)
  nothing = id⊢ 𝓤 (emp 𝓤)

  of_two : {P Q : SProp 𝓤} (φ₁ φ₂ : Type 0) {ψ : Type 0} → ent 𝓤 P (fact 𝓤 φ₁) → ent 𝓤 Q (fact 𝓤 φ₂) → (φ₁ → φ₂ → ψ) → ent 𝓤 (sep 𝓤 P Q) (fact 𝓤 ψ)
  of_two {P} {Q} φ₁ φ₂ {ψ} p q k =
      fact_use 𝓤 φ₁ (via 𝓤 P (fst∗ 𝓤 P Q) p) (λ x. fact_use 𝓤 φ₂ (via 𝓤 Q (snd∗ 𝓤 P Q) q) (λ y. fact_i 𝓤 ψ (sep 𝓤 P Q) (k x y)))

  -- a contract of one clause, at two results
  pub one_clause : (φ₁ φ₂ : Type 0) {ψ : Type 0} → (φ₁ → φ₂ → ψ) → ent 𝓤 (sep 𝓤 (fact 𝓤 φ₁) (fact 𝓤 φ₂)) (fact 𝓤 ψ)
  one_clause φ₁ φ₂ k = of_two φ₁ φ₂ (id⊢ 𝓤 (fact 𝓤 φ₁)) (id⊢ 𝓤 (fact 𝓤 φ₂)) k

  -- what the first of two clauses says
  pub first_clause : (φ χ : Type 0) {ψ : Type 0} → (φ → ψ) → ent 𝓤 (sep 𝓤 (fact 𝓤 φ) (fact 𝓤 χ)) (fact 𝓤 ψ)
  first_clause φ χ {ψ} k = fact_use 𝓤 φ (fst∗ 𝓤 (fact 𝓤 φ) (fact 𝓤 χ)) (λ x. fact_i 𝓤 ψ (sep 𝓤 (fact 𝓤 φ) (fact 𝓤 χ)) (k x))

  -- a contract of two clauses, at two results
  pub two_clauses : (φ₁ χ₁ φ₂ χ₂ : Type 0) {ψ : Type 0} → (φ₁ → χ₁ → φ₂ → χ₂ → ψ)
      → ent 𝓤 (sep 𝓤 (sep 𝓤 (fact 𝓤 φ₁) (fact 𝓤 χ₁)) (sep 𝓤 (fact 𝓤 φ₂) (fact 𝓤 χ₂))) (fact 𝓤 ψ)
  two_clauses φ₁ χ₁ φ₂ χ₂ k =
      of_two (φ₁ × χ₁) (φ₂ × χ₂) (one_clause φ₁ χ₁ (λ x y. (x, y))) (one_clause φ₂ χ₂ (λ x y. (x, y))) (λ x y. k x.0 x.1 y.0 y.1)
