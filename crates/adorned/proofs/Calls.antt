-- Adorning by value, refusal by refusal. Assumes nothing.
use Prim.Native.Nat.{ℕ, ◌≤◌, ◌<◌}
use native.Mathlib.Omega.{arith}
use mathlib.Core.Path.{◌≡◌, refl, sym, ◌∙◌, ap, subst}
use mathlib.Core.Bool.{Bool}
use mathlib.Core.List.{List, []}
use lib.Dec.{ltb}
use lib.ListN.{length}
use borrow.Author.Tests.{le-ltb, lt-ltb}
use Rattle.paper.specs.Format.{Format}
use Rattle.paper.specs.Tables.{Row, rows, types}
use Rattle.paper.specs.Adorned.{Summary, adorned}
use Rattle.paper.specs.Calls.{Answer, refused, given, ◌>>=◌, refuse, Reply, reply, tests1_4, adorning}
use Rattle.adorned.specs.Told.{adorn_figures, Says, ReadsTypes, SummariesOf}
use Rattle.std.specs.Prelude.{Result, Ok}
use Rattle.paper.specs.declared.refusal.Refusal.{Refusal}
use Rattle.closest.specs.declared.rows.RowsRead.{RowsRead}
use Rattle.adorned.specs.declared.Adorned.{Adorned}
use Rattle.adorned.specs.declared.TypeSummary.{TypeSummary}
use Rattle.adorned.proofs.All.{adorned-length}

module _ (f : Format) (t : List ℕ) (lent : ℕ) (r : Result Adorned Refusal) where
  -- the answer, once the call is known to answer so
  says : (a : Reply (List Summary)) → adorn_figures f t lent ≡ a → Says a r → Says (adorn_figures f t lent) r
  says a e s = subst (λ (x : Reply (List Summary)). Says x r) (sym e) s

  -- from the rows on, and from test 10 on
  abbrev after4 : Answer (List Row) → Reply (List Summary)
  after4 a = reply [] (a >>= (λ (rs : List Row). refuse 10 (ltb lent (length (adorned rs))) >>= (λ _. given (adorned rs))))

  abbrev from10 : Bool → Reply (List Summary)
  from10 b = reply [] (refuse 10 b >>= (λ _. given (adorned (rows f t))))

  tested : (a : Answer (List Row)) → tests1_4 f t ≡ a → adorn_figures f t lent ≡ after4 a
  unfolding adorn_figures adorning
  tested a e = ap after4 e

  pub says-refused : (k p : ℕ) → tests1_4 f t ≡ refused k p → Says (record { number = k; place = p; rest = [] }) r → Says (adorn_figures f t lent) r
  says-refused k p e = says _ (tested (refused k p) e)

  module _ (e : tests1_4 f t ≡ given (rows f t)) where
    pub says_short : lent < length (types (rows f t)) → Says (record { number = 10; place = 0; rest = [] }) r → Says (adorn_figures f t lent) r
    says_short lt =
        says _ (tested (given (rows f t)) e ∙ ap from10 (lt-ltb lent (length (adorned (rows f t))) (omega (arith, lt, adorned-length (rows f t)))))

    pub says-given : length (types (rows f t)) ≤ lent → Says (record { number = 0; place = 0; rest = adorned (rows f t) }) r
        → Says (adorn_figures f t lent) r
    says-given fits =
        says _ (tested (given (rows f t)) e ∙ ap from10 (le-ltb lent (length (adorned (rows f t))) (omega (arith, fits, adorned-length (rows f t)))))

-- where the rows are read, the summaries of their types are the answer
pub says_read : (f : Format) (t : List ℕ) (lent : ℕ) (read : RowsRead) (levels ks : List ℕ) → ReadsTypes f t lent (Ok read) levels ks
    → (all : List TypeSummary) → SummariesOf read levels ks all → Says (adorn_figures f t lent) (Ok (record { count = read.count; summaries = all }))
says_read f t lent read levels ks (rows_in, few) all of =
    let count = rows_in.told.count-is in
    says-given f t lent _ rows_in.given_is (omega (arith, few, count))
    (record { number_is = refl; place_is = refl; given_is = (count ∙ sym (adorned-length (rows f t)), of f t rows_in) })
