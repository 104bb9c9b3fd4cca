-- A shape that reading gives passes the tests of a shape over the same table. Assumes nothing.
use Prim.Native.Nat.{ℕ, ◌*◌, ◌%◌, ◌≤◌, ◌<◌, zero-le, suc-le-suc}
use native.Mathlib.Nat.{not-suc-le-zero, mul_comm, mul-pos, mul-mod_left, mul-le-mul_right}
use native.Mathlib.Omega.{arith}
use mathlib.Core.Path.{◌≡◌, refl, sym, ◌∙◌, ap, subst}
use mathlib.Core.Logic.{inl}
use mathlib.Core.Bool.{Bool, true, false, not, ◌||◌}
use mathlib.Core.List.{List, [], ◌∷◌, map, map-map}
use mathlib.Core.Option.{none}
use lib.Dec.{eqb, ltb}
use lib.ListN.{length, take, drop, length-map}
use lib.Seq.{take_at}
use borrow.Author.Tests.{ltb-false, le-ltb, eqb-true, eq-eqb, ne_eqb, not-false}
use Rattle.paper.specs.Lists.{Has, any, first_or, first_place, join_map, same}
use Rattle.paper.specs.Format.{Format, most_entries, entry_bytes, records}
use Rattle.paper.specs.Tables.{Row, bad_row, types}
use Rattle.paper.specs.Closeness.{nodes}
use Rattle.paper.specs.Shapes.{Entry, entry_of, entries, named, entry_kept, bad_entry, shape_over}
use Rattle.paper.specs.Calls.{Answer, refused, given, ◌>>=◌, refuse, refuse_at, reply, after, Work, type_too_many, type_missing}
use Rattle.paper.specs.Calls.{tests1_3, tests1_4, tests5_6, tests5_7, tests1_7}
use Rattle.paper.proofs.Lists.{eq_same, keep-has, has_any, map-has, map_same}
use Rattle.paper.proofs.Kept.{first-none, none_first}
use Rattle.paper.proofs.Tables.{rules-none}
use Rattle.paper.proofs.Shapes.{level_of}
use Rattle.paper.proofs.Bytes.{whole_back, length_back, records_back}
use Rattle.paper.proofs.Calls.{refused-given, bind_given, refuse-given, refuse_at-given, given-same, passed1_3, passed1_4}
use Rattle.paper.proofs.Calls.{Past, bind_past, refuse-told, refuse_at-told, reply-given, past1_3}
use Rattle.grammar.specs.Grammar.{Tree}
use Rattle.grammar.specs.Typed.{Wanted, wanted_from, wanted, Says, matches, matched, entry_back, shape_back, shaping, reading, Reading, read_as, ReadTree}
use Rattle.grammar.proofs.Back.{given_bind}
use Rattle.grammar.proofs.Fitting.{Climbs, wanted_climbs, Fits, types_fit, entry_for, entry-size, entry-again, named_for, entries_kept}

-- ---- the type that is matched alone
first-has : {A : Type 0} (d : A) (xs : List A) → 0 < length xs → Has (first_or d xs) xs
first-has d [] lt = absurd (not-suc-le-zero lt)
first-has d (x ∷ xs) lt = inl refl

sole_type : (ts : List (List ℕ)) (e : Wanted) → eqb (length (matched ts e)) 1 ≡ true → Has (first_or [] (matched ts e)) ts
unfolding matched
sole_type ts e h =
    (keep-has (matches e.name) (first_or [] (matched ts e)) ts (first-has [] (matched ts e) (omega (arith, eqb-true (length (matched ts e)) 1 h)))).0

-- ---- the shape of entries whose types a sound table has
module _ (f : Format) (small : f.labels < 65536) (rs : List Row) (sound : bad_row f rs ≡ none) (es : List Wanted) where
  abbrev kind : Wanted → List ℕ
  kind e = first_or [] (matched (types rs) e)

  abbrev asked : Wanted → Entry
  asked e = entry_for f e.level (kind e)

  abbrev back : Wanted → List ℕ
  back e = entry_back f e.level (kind e)

  abbrev shape : List ℕ
  shape = shape_back f (types rs) es

  size : (e : Wanted) → Has e es → length (back e) ≡ entry_bytes f
  size e h = entry-size f e.level (kind e)

  long : length shape ≡ length es * entry_bytes f
  unfolding shape_back
  long = length_back (entry_bytes f) (omega arith) back es size

  module _ (typed : (e : Wanted) → Has e es → Has (kind e) (types rs)) where
    fit : (e : Wanted) → Has e es → Fits f (kind e)
    fit e h = types_fit f rs sound (kind e) (typed e h)

    -- THE ENTRIES of the shape are those asked for.
    entries-read : entries f shape ≡ map asked es
    unfolding entries shape_back
    entries-read =
        let w = entry_bytes f in
        ap (λ n. map (entry_of f) (records w n (join_map back es))) (whole_back w (omega arith) back es size)
        ∙ ap (map (entry_of f)) (records_back w (omega arith) back es size) ∙ map-map (entry_of f) back es
        ∙ map_same (λ e. entry_of f (back e)) asked es (λ e h. entry-again f small e.level (kind e) (fit e h))

    -- a row has the type of each
    all_typed : type_missing rs (map asked es) ≡ none
    unfolding type_missing
    all_typed =
        none_first (λ e. not (any (same (named e)) (types rs))) (map asked es) (λ x h.
        let (e, i, q) = map-has asked x es h in
        let own : named x ≡ kind e = ap (λ (y : Entry). named y) q ∙ named_for f e.level (kind e) (fit e i) in
        ap not (has_any (same (named x)) (kind e) (types rs) (typed e i) (eq_same own)))

    module _ (deep : (e : Wanted) → Has e es → e.level ≤ f.levels) (climbs : Climbs 0 es) where
      all_kept_lem : bad_entry f (map asked es) ≡ none
      unfolding bad_entry
      all_kept_lem = rules-none (entry_kept f) level_of 0 0 (map asked es) (entries_kept f kind 0 es (λ e h. (fit e h, deep e h)) climbs)

      passes : (b : List ℕ) → tests1_4 f b ≡ given rs → 0 < length es → length es ≤ most_entries → (w : Work) × (tests1_7 f b shape ≡ given w)
      unfolding tests5_7 tests5_6
      passes b table filled few =
          let w = entry_bytes f in
          let work : List Entry → Work = λ xs. record { rows = rs; nodes = nodes rs; shape = shape_over (types rs) xs } in
          let empty : eqb (length shape) 0 ≡ false =
          ne_eqb (length shape) 0 (λ z. not-suc-le-zero (subst (λ n. 0 < n) (sym long ∙ z) (mul-pos filled (omega arith)))) in
          let over : ltb (most_entries * w) (length shape) ≡ false =
          le-ltb (most_entries * w) (length shape) (subst (λ n. n ≤ most_entries * w) (sym long) (mul-le-mul_right w few)) in
          let even : eqb (length shape % w) 0 ≡ true = eq-eqb (length shape % w) 0 (ap (λ n. n % w) long ∙ mul-mod_left (length es) w) in
          let bad : bad_entry f (entries f shape) ≡ none = ap (bad_entry f) entries-read ∙ all_kept_lem in
          let missing : type_missing rs (entries f shape) ≡ none = ap (type_missing rs) entries-read ∙ all_typed in (
            work (entries f shape),
            given_bind (tests1_4 f b) rs _ table
                ∙ (λ i. refuse 5 (empty i || over i || not (even i)) >>= (λ _. refuse_at 6 (bad i) >>= (λ _. given (entries f shape)))
                >>= (λ xs. refuse_at 7 (type_missing rs xs) >>= (λ _. given (work xs))))
                ∙ ap (λ o. refuse_at 7 o >>= (λ _. given (work (entries f shape)))) missing,
          )

-- ---- what is read
-- The shape passes, and has n entries.
pub record Passed (f : Format) (b : List ℕ) (n : ℕ) (s : List ℕ) : Type 0 where
  pub work : Work
  pub passes : tests1_7 f b s ≡ given work
  pub count : n ≡ length (entries f s)
  pub long : length s ≡ entry_bytes f * n

pub shape_passed : (f : Format) → f.labels < 65536 → (b : List ℕ) (t : Tree) (room n : ℕ) (s : List ℕ)
    → reading f b (given (wanted t)) room ≡ given (n, s) → Passed f b n s
unfolding reading shaping wanted_from
shape_passed f small b t room n s h =
    let es = wanted t in
    let (rs, table, k) = bind_given (tests1_4 f b) _ (n, s) h in
    let ts = types rs in
    let many = ltb most_entries (length es) in
    let deep : Wanted → Bool = λ e. ltb f.levels e.level in
    let sole : Wanted → Bool = λ e. eqb (length (matched ts e)) 1 in
    let (u₅, h₅, k₅) = bind_given (refuse 5 many) _ (n, s) k in
    let (u₆, h₆, k₆) = bind_given (refuse_at 6 (first_place deep es)) _ (n, s) k₅ in
    let (u₇, h₇, k₇) = bind_given (refuse_at 13 (first_place (λ e. not (sole e)) es)) _ (n, s) k₆ in
    let (u₈, h₈, k₈) = bind_given (refuse 29 (ltb room (length (shape_back f ts es)))) _ (n, s) k₇ in
    let sound = (passed1_3 f b rs (passed1_4 f b rs table)).1 in
    let typed : (e : Wanted) → Has e es → Has (first_or [] (matched ts e)) ts = λ e i.
    sole_type ts e (not-false (sole e) (first-none (λ e. not (sole e)) es (refuse_at-given 13 (first_place (λ e. not (sole e)) es) u₇ h₇) e i)) in
    let shallow : (e : Wanted) → Has e es → e.level ≤ f.levels = λ e i.
    ltb-false f.levels e.level (first-none deep es (refuse_at-given 6 (first_place deep es) u₆ h₆) e i) in
    let few = ltb-false most_entries (length es) (refuse-given 5 many u₅ h₅) in
    let (w, p) = passes f small rs sound es typed shallow (wanted_climbs t) b table (suc-le-suc zero-le) few in
    subst (λ (x : ℕ × List ℕ). Passed f b x.0 x.1) (given-same (length es, shape_back f ts es) (n, s) k₈) (record {
      work = w;
      passes = p;
      count = sym (ap length (entries-read f small rs sound es typed) ∙ length-map es (asked f small rs sound es));
      long = long f small rs sound es ∙ mul_comm (length es) (entry_bytes f);
    })

-- WHAT IS READ PASSES THE TESTS OF A SHAPE over the same table, with as many entries as reading counts.
pub shape_passes : (f : Format) → f.labels < 65536 → (b : List ℕ) (t : Tree) (room n : ℕ) (s : List ℕ)
    → reading f b (given (wanted t)) room ≡ given (n, s) → (w : Work) × (tests1_7 f b s ≡ given w) × (n ≡ length (entries f s))
shape_passes f small b t room n s h = let p = shape_passed f small b t room n s h in (p.work, p.passes, p.count)

-- ---- the whole answer
past_shaping : (f : Format) (ts : List (List ℕ)) (es : List Wanted) (room : ℕ) → Past 0 (shaping f ts es room)
unfolding shaping
past_shaping f ts es room =
    let many = ltb most_entries (length es) in
    let deep = first_place (λ (e : Wanted). ltb f.levels e.level) es in
    let apart = first_place (λ (e : Wanted). not (eqb (length (matched ts e)) 1)) es in
    let short = ltb room (length (shape_back f ts es)) in
    bind_past 0 (refuse 5 many) _ (refuse-told (λ k. 0 < k) 5 many (omega arith)) (λ _.
    bind_past 0 (refuse_at 6 deep) _ (refuse_at-told (λ k. 0 < k) 6 deep (omega arith)) (λ _.
    bind_past 0 (refuse_at 13 apart) _ (refuse_at-told (λ k. 0 < k) 13 apart (omega arith)) (λ _.
    bind_past 0 (refuse 29 short) _ (refuse-told (λ k. 0 < k) 29 short (omega arith)) (λ _. tt))))

past_reading : (f : Format) (b : List ℕ) (said : Answer (List Wanted)) (room : ℕ) → Past 0 said → Past 0 (reading f b said room)
unfolding reading tests1_4
past_reading f b said room past =
    bind_past 0 (tests1_4 f b) _ (bind_past 0 (tests1_3 f b) _ (past1_3 f b) (λ rs.
    bind_past 0 (refuse_at 4 (type_too_many rs)) _ (refuse_at-told (λ k. 0 < k) 4 (type_too_many rs) (omega arith)) (λ _. tt))) (λ rs.
    bind_past 0 said _ past (λ es. past_shaping f (types rs) es room))

-- the bytes of the entries that a reading counts
abbrev left : Format → Reading → List ℕ
left f r = take (entry_bytes f * r.reply.rest) r.shape

module _ (f : Format) (b lent : List ℕ) where
  -- an accepted reading gives something
  given-reading : (said : Answer (List Wanted)) → Past 0 said → (read_as f b said lent).reply.number ≡ 0
      → (x : ℕ × List ℕ) × (reading f b said (length lent) ≡ given x)
  unfolding read_as
  given-reading said past accepted =
      let a = reading f b said (length lent) in
      let count : ℕ × List ℕ → Answer ℕ = λ x. given x.0 in
      let (n, e, q) = reply-given 0 (a >>= count) (bind_past 0 a count (past_reading f b said (length lent) past) (λ _. tt)) accepted in
      let (x, g, k) = bind_given a count n e in
      (x, g)

  -- and leaves it
  given_left : (said : Answer (List Wanted)) (x : ℕ × List ℕ) → reading f b said (length lent) ≡ given x → length x.1 ≡ entry_bytes f * x.0
      → left f (read_as f b said lent) ≡ x.1
  unfolding read_as
  given_left said x e long =
      ap (λ (a : Answer (ℕ × List ℕ)).
      left f (record { reply = reply 0 (a >>= (λ x. given x.0)); shape = after lent (a >>= (λ x. given x.1)) })) e
      ∙ take_at x.1 (drop (length x.1) lent) (entry_bytes f * x.0) long

  abbrev Passes : Reading → Type 0
  Passes r = (w : Work) × (tests1_7 f b (left f r) ≡ given w)

  said_passes : f.labels < 65536 → (text : List ℕ) (said : Answer (List Wanted)) → Says f text said → (read_as f b said lent).reply.number ≡ 0
      → Passes (read_as f b said lent)
  unfolding reading
  said_passes small text (refused k p) (twelve, why) accepted =
      let (x, e) = given-reading (refused k p) (omega (arith, twelve)) accepted in
      let (rs, table, none-given) = bind_given (tests1_4 f b) _ x e in
      refused-given k p x none-given
  said_passes small text (given es) asks accepted =
      let (x, e) = given-reading (given es) tt accepted in
      let of_Tree = subst (λ ws. reading f b (given ws) (length lent) ≡ given x) asks.entries e in
      let p = shape_passed f small b asks.tree (length lent) x.0 x.1 of_Tree in
      (p.work, ap (tests1_7 f b) (given_left (given es) x e p.long) ∙ p.passes)

-- A SHAPE THAT READING GIVES is never refused with 5, 6 or 7 over the same table.
pub read_passes : (f : Format) → f.labels < 65536 → (b text lent : List ℕ) (r : Reading) → ReadTree f b text lent r → r.reply.number ≡ 0
    → (w : Work) × (tests1_7 f b (take (entry_bytes f * r.reply.rest) r.shape) ≡ given w)
read_passes f small b text lent r tree accepted =
    subst (λ (x : Reading). x.reply.number ≡ 0 → Passes f b lent x) (sym tree.answer)
    (said_passes f b lent small text tree.said tree.says) accepted
