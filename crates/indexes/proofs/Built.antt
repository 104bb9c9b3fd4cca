-- The index of a table as it is built, and what building answers. Assumes nothing.
use Prim.Native.Nat.{ℕ, zero, suc, ◌+◌, ◌-◌, ◌≤◌, ◌<◌}
use native.Mathlib.Omega.{arith}
use mathlib.Core.Path.{◌≡◌, refl, sym, ◌∙◌, ap, ap₂}
use mathlib.Core.Logic.{◌⊎◌, inl, inr}
use mathlib.Core.Bool.{Bool, true, false, ◌||◌}
use mathlib.Core.List.{List, ◌++◌, map, map-map}
use lib.Dec.{ltb}
use lib.ListN.{length, get_or, drop, length-append, length-drop, length-map}
use lib.Seq.{ext_get_or, get_or-append-add, get_or-drop, get_or-take, take_at}
use borrow.Author.Tests.{lt-ltb, le-ltb, ltb-true, ltb-false}
use Rattle.paper.specs.Lists.{count}
use Rattle.paper.specs.Format.{Format}
use Rattle.paper.specs.Tables.{Row, rows, row_types}
use Rattle.paper.specs.Closeness.{Node, nodes}
use Rattle.paper.specs.Calls.{Answer, refused, given, ◌>>=◌, refuse, reply, after, tests1_3}
use Rattle.paper.specs.Index.{last_descendant, next_of_type, Index, index_of, too_short, building, Built, build_index}
use Rattle.paper.proofs.Lists.{or_left, or_right}
use Rattle.paper.proofs.Kept.{length-count}
use Rattle.paper.proofs.Index.{length-nodes}
use Rattle.types.specs.Types.{kinds}
use Rattle.closest.specs.Node.{node, Typed}
use Rattle.closest.specs.Runs.{SoundRows, LevelsOf}
use Rattle.closest.proofs.Meets.{nodes_are}
use Rattle.indexes.specs.Last.{LastRows}
use Rattle.indexes.specs.Labels.{LabelLists, NextsAlike}
use Rattle.indexes.specs.Built.{built, Builds}
use Rattle.indexes.specs.Front.{Indexes}
use Rattle.std.specs.Prelude.{Ok, Err}
use Rattle.paper.specs.Refusals.{refusal_number, refusal_place}
use Rattle.paper.specs.declared.refusal.Refusal.{Refusal}
use Rattle.paper.specs.declared.refusal.Refusal.TheVariants.{IndexTooShort}
use Rattle.indexes.proofs.Held.{last_is, next_is}
use Rattle.indexes.proofs.Numbered.{levelled, numbers}

-- ---- a list from its places
counted-at : {A : Type 0} (h : ℕ → A) (d : A) (i n k : ℕ) → k < n → get_or (map h (count i n)) k d ≡ h (i + k)
counted-at h d i zero k lt = let z : ⊥ = omega arith in absurd z
counted-at h d i (suc n) zero lt = let q : i ≡ i + 0 = omega arith in ap h q
counted-at h d i (suc n) (suc k) lt = let q : suc i + k ≡ i + suc k = omega arith in counted-at h d (suc i) n k (omega arith) ∙ ap h q

front : (h : ℕ → ℕ) (n : ℕ) (old new : List ℕ) → length new ≡ length old → n ≤ length old → ((i : ℕ) → i < n → get_or new i 0 ≡ h i)
    → ((i : ℕ) → n ≤ i → get_or new i 0 ≡ get_or old i 0) → new ≡ map h (count 0 n) ++ drop n old
front h n old new long room right rest = ext_get_or 0 new (f ++ drop n old)
    (omega (arith, long, length-append f (drop n old), f_long, length-drop n old)) (λ i lt. go i (ltb i n) refl)
  where
    f : List ℕ
    f = map h (count 0 n)

    f_long : length f ≡ n
    f_long = length-map (count 0 n) h ∙ length-count 0 n

    go : (i : ℕ) (b : Bool) → ltb i n ≡ b → get_or new i 0 ≡ get_or (f ++ drop n old) i 0
    go i true e =
        let lt = ltb-true i n e in
        let z : i ≡ 0 + i = omega arith in
        right i lt ∙ ap h z ∙ sym (counted-at h 0 0 n i lt) ∙ ap (λ l. get_or l i 0) (sym (take_at f (drop n old) n f_long)) ∙ get_or-take n (f ++ drop n old) i 0 lt
    go i false e =
        let le = ltb-false i n e in
        let q : n + (i - n) ≡ i = omega arith in
        let p : length f + (i - n) ≡ i = omega (arith, f_long) in
        rest i le ∙ ap (λ x. get_or old x 0) (sym q) ∙ sym (get_or-drop n old (i - n) 0) ∙ sym (get_or-append-add f (drop n old) (i - n) 0)
        ∙ ap (λ x. get_or (f ++ drop n old) x 0) p

-- ---- both lists
module _ (f : Format) (n : ℕ) (t levels labels last next last' next' : List ℕ) (sound : SoundRows f n t) (ls : LevelsOf f n t levels)
    (lists : LabelLists n (row_types (rows f t)) labels) where
  abbrev ns : List Node
  ns = nodes (rows f t)

  typed : Typed f n t (kinds (rows f t))
  typed = (levelled f n t levels sound ls).typed

  -- figures of the nodes, by their places
  by_place : (g : Node → ℕ) → map g ns ≡ map (λ i. g (node f t i)) (count 0 n)
  by_place g = ap (map g) (nodes_are f n t (kinds (rows f t)) typed) ∙ map-map g (node f t) (count 0 n)

  pub indexed : length last' ≡ length last → length next' ≡ length next → n ≤ length last → n ≤ length next
      → LastRows n levels last last' → NextsAlike n levels labels next next' → Indexes f t last next last' next'
  unfolding index_of
  indexed la lb ra rb a b =
      let lv = levelled f n t levels sound ls in
      record {
        lasts = front (λ i. last_descendant ns (node f t i)) n last last' la ra
            (λ i lt. sym (last_is f n t levels (kinds (rows f t)) lv i (get_or last' i 0) lt (a.lasts i lt))) a.rest
            ∙ ap₂ (λ x m. x ++ drop m last) (sym (by_place (last_descendant ns))) sound.rows_n;
        nexts = front (λ i. next_of_type ns (node f t i)) n next next' lb rb
            (λ i lt. sym (next_is f n t levels (kinds (rows f t)) lv i (get_or next' i 0) lt (b.nexts i lt (kinds (rows f t)) (numbers f n t levels sound ls labels lists)))) b.rest
            ∙ ap₂ (λ x m. x ++ drop m next) (sym (by_place (next_of_type ns))) sound.rows_n;
      }

-- ---- what building answers
module _ (f : Format) (t last next : List ℕ) where
  abbrev built_by : Answer Index → Built
  built_by a = record {
    reply = reply 0 (do x ← a; given (length x.last));
    last = after last (do x ← a; given x.last);
    next = after next (do x ← a; given x.next);
  }

  by-building : (a : Answer Index) → building f t last next ≡ a → build_index f t last next ≡ built_by a
  unfolding build_index
  by-building a e = ap built_by e

  abbrev tested : Answer (List Row) → Answer Index
  tested a = a >>= (λ (rs : List Row). refuse 14 (too_short rs last next) >>= (λ _. given (index_of (nodes rs))))

  building-is : building f t last next ≡ tested (tests1_3 f t)
  unfolding building
  building-is = refl

  pub refused-table : (k p : ℕ) → tests1_3 f t ≡ refused k p
      → build_index f t last next ≡ record { reply = record { number = k; place = p; rest = 0 }; last = last; next = next }
  refused-table k p e = by-building (refused k p) (building-is ∙ ap tested e)

  module _ (table : tests1_3 f t ≡ given (rows f t)) where
    abbrev short : Bool → Answer Index
    short b = refuse 14 b >>= (λ _. given (index_of (nodes (rows f t))))

    pub refused_short : too_short (rows f t) last next ≡ true
        → build_index f t last next ≡ record { reply = record { number = 14; place = 0; rest = 0 }; last = last; next = next }
    refused_short e = by-building (refused 14 0) (building-is ∙ ap tested table ∙ ap short e)

    pub given_index : too_short (rows f t) last next ≡ false → build_index f t last next ≡ built_by (given (index_of (nodes (rows f t))))
    given_index e = by-building (given (index_of (nodes (rows f t)))) (building-is ∙ ap tested table ∙ ap short e)

-- ---- the promise
pub builds_refused : (f : Format) (t last next : List ℕ) (e : Refusal)
    → build_index f t last next ≡ record { reply = record { number = refusal_number e; place = refusal_place e; rest = 0 }; last = last; next = next }
    → Builds f t last next (built (Err e)) last next
builds_refused f t last next e q = record {
  answer = sym (ap (λ (b : Built). b.reply) q);
  lasts = sym (ap (λ (b : Built). b.last) q);
  nexts = sym (ap (λ (b : Built). b.next) q);
}

module _ (f : Format) (n : ℕ) (t last next : List ℕ) (sound : SoundRows f n t) (table : tests1_3 f t ≡ given (rows f t)) where
  pub too_short_lem : (length last < n) ⊎ (length next < n) → too_short (rows f t) last next ≡ true
  too_short_lem (inl lt) = or_left (ltb (length next) (length (rows f t))) (lt-ltb (length last) (length (rows f t)) (omega (arith, sound.rows_n)))
  too_short_lem (inr lt) = or_right (ltb (length last) (length (rows f t))) (lt-ltb (length next) (length (rows f t)) (omega (arith, sound.rows_n)))

  pub builds_short : (length last < n) ⊎ (length next < n) → Builds f t last next (built (Err IndexTooShort)) last next
  builds_short short = builds_refused f t last next IndexTooShort (refused_short f t last next table (too_short_lem short))

  pub builds_given : (last' next' : List ℕ) → n ≤ length last → n ≤ length next → Indexes f t last next last' next'
      → Builds f t last next (built (Ok n)) last' next'
  unfolding index_of
  builds_given last' next' la lb is = record {
    answer = ap (λ m. record { number = 0; place = 0; rest = m }) (sym (long (last_descendant ns))) ∙ sym (ap (λ (b : Built). b.reply) given_is);
    lasts = is.lasts ∙ ap (λ m. (index_of ns).last ++ drop m last) (sym sound.rows_n ∙ sym (long (last_descendant ns))) ∙ sym (ap (λ (b : Built). b.last) given_is);
    nexts = is.nexts ∙ ap (λ m. (index_of ns).next ++ drop m next) (sym sound.rows_n ∙ sym (long (next_of_type ns))) ∙ sym (ap (λ (b : Built). b.next) given_is);
  }
    where
      ns : List Node
      ns = nodes (rows f t)

      long : (g : Node → ℕ) → length (map g ns) ≡ n
      long g = length-map ns g ∙ length-nodes (rows f t) ∙ sym sound.rows_n

      given_is : build_index f t last next ≡ built_by f t last next (given (index_of ns))
      given_is = given_index f t last next table (ap₂ ◌||◌ (le-ltb (length last) (length (rows f t)) (omega (arith, sound.rows_n)))
          (le-ltb (length next) (length (rows f t)) (omega (arith, sound.rows_n))))
