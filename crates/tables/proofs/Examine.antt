-- Refusals 1 to 3 one by one, as the calls meet them. Assumes nothing.
use Prim.Native.Nat.{ℕ, ◌*◌, ◌%◌, ◌≤◌, ◌<◌}
use native.Mathlib.Omega.{arith}
use mathlib.Core.Path.{◌≡◌, refl, sym, ◌∙◌, ap, ap₂}
use mathlib.Core.Bool.{Bool, true, false, not}
use mathlib.Core.List.{List, []}
use mathlib.Core.Option.{Option, none, some}
use lib.Dec.{ltb, eqb}
use lib.ListN.{length, take, drop}
use borrow.Author.Tests.{lt-ltb, le-ltb, eq-eqb, ne_eqb}
use Rattle.paper.specs.Format.{Format, most_rows, row_bytes, whole}
use Rattle.paper.specs.Tables.{Row, rows, bad_row}
use Rattle.paper.specs.Calls.{Answer, refused, given, ◌>>=◌, refuse, refuse_at, Reply, reply, tests1_3, examine, look_up}
use Rattle.paper.proofs.Calls.{Past, count-rows, past1_3, pass1_3, examine-given, bind_past, reply-given, bind_given, passed1_3}
use Rattle.std.specs.Prelude.{Ok, Err}
use Rattle.paper.specs.Refusals.{refusal_number, refusal_place}
use Rattle.paper.specs.declared.refusal.Refusal.{Refusal}
use Rattle.paper.proofs.Refusals.{numbered}
use Rattle.tables.specs.Reply.{examined}

-- the tests, from what each finds
abbrev tested : Bool → Bool → Option ℕ → List Row → Answer (List Row)
tested long ragged bad rs = refuse 1 long >>= (λ _. refuse 2 ragged >>= (λ _. refuse_at 3 bad >>= (λ _. given rs)))

module _ (f : Format) (t : List ℕ) where
  abbrev long : Bool
  long = ltb (most_rows * row_bytes f) (length t)

  abbrev ragged : Bool
  ragged = not (eqb (length t % row_bytes f) 0)

  same : tests1_3 f t ≡ tested long ragged (bad_row f (rows f t)) (rows f t)
  unfolding tests1_3
  same = refl

  pub refused_1 : most_rows * row_bytes f < length t → tests1_3 f t ≡ refused 1 0
  refused_1 lt = same ∙ ap (λ b. tested b ragged (bad_row f (rows f t)) (rows f t)) (lt-ltb (most_rows * row_bytes f) (length t) lt)

  module _ (le : length t ≤ most_rows * row_bytes f) where
    short : long ≡ false
    short = le-ltb (most_rows * row_bytes f) (length t) le

    pub refused_2 : (length t % row_bytes f ≡ 0 → ⊥) → tests1_3 f t ≡ refused 2 0
    refused_2 ne =
        same ∙ ap₂ (λ a b. tested a b (bad_row f (rows f t)) (rows f t)) short (ap not (ne_eqb (length t % row_bytes f) 0 ne))

    module _ (z : length t % row_bytes f ≡ 0) where
      whole-rows : ragged ≡ false
      whole-rows = ap not (eq-eqb (length t % row_bytes f) 0 z)

      pub refused_3 : (p : ℕ) → bad_row f (rows f t) ≡ some p → tests1_3 f t ≡ refused 3 p
      refused_3 p e =
          same ∙ ap₂ (λ a b. tested a b (bad_row f (rows f t)) (rows f t)) short whole-rows ∙ ap (λ o. tested false false o (rows f t)) e

      pub accepted : bad_row f (rows f t) ≡ none → tests1_3 f t ≡ given (rows f t)
      accepted e = pass1_3 f t le z e

-- ---- examining
abbrev told : Answer (List Row) → Reply ℕ
told a = reply 0 (a >>= (λ (rs : List Row). given (length rs)))

pub examine-refused : (f : Format) (t : List ℕ) (k p : ℕ) → tests1_3 f t ≡ refused k p → record { number = k; place = p; rest = 0 } ≡ examine f t
unfolding examine
examine-refused f t k p e = sym (ap told e)

pub examine-accepted : (f : Format) (t : List ℕ) → tests1_3 f t ≡ given (rows f t) → record { number = 0; place = 0; rest = whole (row_bytes f) t } ≡ examine f t
examine-accepted f t e = ap (λ n. record { number = 0; place = 0; rest = n }) (sym (count-rows f t)) ∙ sym (examine-given f t e)

-- ---- what examining tells of the tests
tells_refused : (a : Answer (List Row)) → Past 0 a → ((told a).number ≡ 0 → ⊥) → a ≡ refused (told a).number (told a).place
tells_refused (refused k p) n ne = refl
tells_refused (given rs) n ne = absurd (ne refl)

module _ (f : Format) (t : List ℕ) (k p c : ℕ) (e : ◌≡◌ {A = Reply ℕ} (record { number = k; place = p; rest = c }) (examine f t)) where
  number : k ≡ (told (tests1_3 f t)).number
  unfolding examine
  number = ap (λ (r : Reply ℕ). r.number) e

  pub examined-refused : (k ≡ 0 → ⊥) → tests1_3 f t ≡ refused k p
  unfolding examine
  examined-refused ne =
      tells_refused (tests1_3 f t) (past1_3 f t) (λ q. ne (number ∙ q))
      ∙ ap₂ {C = Answer (List Row)} (λ a b. refused a b) (sym number) (sym (ap (λ (r : Reply ℕ). r.place) e))

  pub examined-given : k ≡ 0 → (tests1_3 f t ≡ given (rows f t)) × (c ≡ whole (row_bytes f) t)
  unfolding examine
  examined-given z =
      let (n, q, r) = reply-given 0 (tests1_3 f t >>= (λ (rs : List Row). given (length rs)))
      (bind_past 0 (tests1_3 f t) (λ (rs : List Row). given (length rs)) (past1_3 f t) (λ rs. tt)) (sym number ∙ z) in
      let (rs, h, g) = bind_given (tests1_3 f t) (λ (rs : List Row). given (length rs)) n q in
      let same = (passed1_3 f t rs h).0 in
      let a : tests1_3 f t ≡ given (rows f t) = h ∙ ap {B = Answer (List Row)} given (sym same) in
      (a, ap (λ (r : Reply ℕ). r.rest) e ∙ ap (λ x. (told x).rest) a ∙ count-rows f t)

-- what an answer of examining tells of them
pub tests_refuse : (f : Format) (t : List ℕ) (e : Refusal) → examined (Err e) ≡ examine f t → tests1_3 f t ≡ refused (refusal_number e) (refusal_place e)
tests_refuse f t e q = examined-refused f t (refusal_number e) (refusal_place e) 0 q (numbered e)

pub tests_give : (f : Format) (t : List ℕ) (n : ℕ) → examined (Ok n) ≡ examine f t → (tests1_3 f t ≡ given (rows f t)) × (n ≡ whole (row_bytes f) t)
tests_give f t n q = examined-given f t 0 0 n q refl

-- ---- look-up
abbrev found : Format → List ℕ → ℕ → Answer (List Row) → Reply (List ℕ)
found f t i a =
    reply [] (a >>= (λ (rs : List Row). refuse_at 11 (elim (ltb i (length rs)) [ true ↦ none | false ↦ some i ])
    >>= (λ _. given (take (row_bytes f) (drop (row_bytes f * i) t)))))

module _ (f : Format) (t : List ℕ) (i : ℕ) where
  same_found : look_up f t i ≡ found f t i (tests1_3 f t)
  unfolding look_up
  same_found = refl

  pub look_up-refused : (k p : ℕ) → tests1_3 f t ≡ refused k p → look_up f t i ≡ record { number = k; place = p; rest = [] }
  look_up-refused k p e = same_found ∙ ap (found f t i) e

  picked : Bool → Reply (List ℕ)
  picked b = reply [] (refuse_at 11 (elim b [ true ↦ none | false ↦ some i ]) >>= (λ _. given (take (row_bytes f) (drop (row_bytes f * i) t))))

  pub look_up_past : tests1_3 f t ≡ given (rows f t) → whole (row_bytes f) t ≤ i → look_up f t i ≡ record { number = 11; place = i; rest = [] }
  unfolding picked
  look_up_past e le = same_found ∙ ap (found f t i) e ∙ ap picked (le-ltb i (length (rows f t)) (omega (arith, count-rows f t)))

  pub look_up-row : tests1_3 f t ≡ given (rows f t) → i < whole (row_bytes f) t
      → look_up f t i ≡ record { number = 0; place = 0; rest = take (row_bytes f) (drop (row_bytes f * i) t) }
  unfolding picked
  look_up-row e lt = same_found ∙ ap (found f t i) e ∙ ap picked (lt-ltb i (length (rows f t)) (omega (arith, count-rows f t)))
