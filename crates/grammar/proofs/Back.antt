-- A printed line is read back as the shape that it was printed from. Assumes nothing.
use Prim.Native.Nat.{ℕ, ◌≤◌, ◌<◌}
use native.Mathlib.Omega.{arith}
use mathlib.Core.Path.{◌≡◌, refl, sym, ◌∙◌, ap, subst}
use mathlib.Core.Logic.{inl, inr}
use mathlib.Core.Bool.{Bool, true, false, not, true≢false, false≢true}
use mathlib.Core.List.{List, [], ◌∷◌, ◌++◌, map}
use mathlib.Core.Option.{none}
use lib.Dec.{eqb, leb, ltb}
use lib.ListN.{length, take, drop, length-map}
use lib.Seq.{take_at}
use borrow.Author.Tests.{lt-ltb, le-ltb, leb-true, leb-false, not-false, not-true}
use Rattle.paper.specs.Lists.{Has, keep, all, any, first_or, first_place, same, distinct}
use Rattle.paper.specs.Format.{Format, most_entries}
use Rattle.paper.specs.Tables.{Row, row_types, types}
use Rattle.paper.specs.Shapes.{Entry, entries, named}
use Rattle.paper.specs.Calls.{Answer, refused, given, ◌>>=◌, refuse, refuse_at, reply, after, Work, type_missing, tests1_4, tests5_6, tests5_7, tests1_7}
use Rattle.paper.proofs.Lists.{and, same_eq, eq_same, keep-has, any_has, map-has, join_map_lem, join-same}
use Rattle.paper.proofs.Kept.{keep-none, first-none, none_first}
use Rattle.paper.proofs.Shapes.{each_part, entries_laid}
use Rattle.paper.proofs.Calls.{bind_given, refuse_at-given, passed5_6}
use Rattle.grammar.specs.Grammar.{name_kept}
use Rattle.grammar.specs.Typed.{Wanted, Says, matches, matched, entry_back, shape_back, shaping, reading, Reading, read_as, ReadTree}
use Rattle.grammar.specs.Typed.{line_of, whole_path, printing, Printing, print_tree}
use Rattle.grammar.proofs.Lines.{Steps, Stepped, LaidOut, stepped, line_tree}
use Rattle.grammar.proofs.Length.{line_short}
use Rattle.grammar.proofs.LineTokens.{tokens-printed}
use Rattle.grammar.proofs.NamesRead.{NamesRead}
use Rattle.grammar.proofs.Right.{read_tree_unique}
use Rattle.grammar.proofs.Records.{Octets, entries_back_lem}

-- ---- a list of which each stands once
module _ {A : Type 0} (p q : A → Bool) where
  -- what passes one test passes the other
  keep-within : (xs : List A) → ((x : A) → Has x xs → p x ≡ true → q x ≡ true) → keep p (keep q xs) ≡ keep p xs
  keep-within [] h = refl
  keep-within (x ∷ xs) h = go (q x) refl (p x) refl (keep-within xs (λ y i. h y (inr i)))
    where
      go : (b : Bool) → q x ≡ b → (c : Bool) → p x ≡ c → keep p (keep q xs) ≡ keep p xs → keep p (keep q (x ∷ xs)) ≡ keep p (x ∷ xs)
      go true e true g ih = rw (e, g, keep) (ap {B = List A} (λ l. x ∷ l) ih)
      go true e false g ih = rw (e, g, keep) ih
      go false e true g ih = absurd (false≢true (sym e ∙ h x (inl refl) g))
      go false e false g ih = rw (e, g, keep) ih

none_kept : {A : Type 0} (xs : List A) → length xs ≡ 0 → xs ≡ []
none_kept [] e = refl
none_kept (x ∷ xs) e = let z : ⊥ = omega (arith, e) in absurd z

-- Of lists that stand once, one is the same as a list among them: itself.
pub only_itself : (k : List ℕ) (ks : List (List ℕ)) → Has k (distinct ks) → keep (same k) (distinct ks) ≡ k ∷ []
only_itself k [] h = absurd h
only_itself k (x ∷ ks) h = go (same k x) refl h (only_itself k ks)
  where
    go : (b : Bool) → same k x ≡ b → Has k (distinct (x ∷ ks)) → (Has k (distinct ks) → keep (same k) (distinct ks) ≡ k ∷ [])
        → keep (same k) (distinct (x ∷ ks)) ≡ k ∷ []
    go true e h ih =
        let others = keep (λ y. not (same x y)) (distinct ks) in
        let none-else : (y : List ℕ) → Has y others → same k y ≡ true → ⊥ = λ y i g.
        true≢false (sym (eq_same (sym (same_eq k x e) ∙ same_eq k y g)) ∙ not-true (same x y) (keep-has (λ y. not (same x y)) y (distinct ks) i).1) in
        rw (e, keep) (λ i. sym (same_eq k x e) i ∷ none_kept (keep (same k) others) (keep-none (same k) others none-else) i)
    go false e (inl q) ih = absurd (true≢false (sym (eq_same q) ∙ e))
    go false e (inr i) ih =
        let (there, apart) = keep-has (λ y. not (same x y)) k (distinct ks) i in
        rw (e, keep) (keep-within (same k) (λ y. not (same x y)) (distinct ks) (λ y j g. subst (λ z. not (same x z) ≡ true) (same_eq k y g) apart) ∙ ih there)

pub given_bind : {A B : Type 0} (a : Answer A) (x : A) (next : A → Answer B) → a ≡ given x → (a >>= next) ≡ next x
given_bind a x next e = ap (λ y. y >>= next) e

-- ---- what the grammar says of a line
names_kept_lem : (f : Format) (before : ℕ) (ws : List Wanted) → Steps f before ws → all (λ (w : Wanted). name_kept f w.name) ws ≡ true
names_kept_lem f before [] steps = refl
names_kept_lem f before (w ∷ ws) (two, next, kept, steps) = and kept (names_kept_lem f w.level ws steps)

line_names : (f : Format) (ws : List Wanted) → Stepped f ws → all (λ (w : Wanted). name_kept f w.name) ws ≡ true
line_names f [] st = absurd st
line_names f (w ∷ ws) (one, kept, steps) = and kept (names_kept_lem f 1 ws steps)

-- A PRINTED LINE asks for the entries that it was printed from.
pub says_line : (f : Format) → f.levels ≤ 8 → f.labels < 65536 → (s : List ℕ) (es : List Entry) → tests5_6 f s ≡ given es
    → Says f (line_of (map whole_path es)) (given (map whole_path es))
says_line f few small s es shape =
    let ws = map whole_path es in
    let (own, sound, filled, most) = passed5_6 f s es shape in
    let laid = subst (LaidOut f) own (entries_laid f s) in
    let t = line_tree f es laid sound filled in
    let same-tokens = tokens-printed f ws (line_names f ws (stepped f es laid sound filled)) in
    record {
      short = omega (arith, line_short f few small s es shape);
      tree = t.tree;
      text_of_lem = record { kept = t.kept; are = same-tokens ∙ sym t.tokens };
      entries = sym t.entries;
    }

-- ---- what is read over a table that has the types
module _ (f : Format) (b : List ℕ) (rs : List Row) (table : tests1_4 f b ≡ given rs)
    (s : List ℕ) (es : List Entry) (shape : tests5_6 f s ≡ given es) (all_Typed : type_missing rs es ≡ none) where
  abbrev asked : List Wanted
  asked = map whole_path es

  typed-entry : (e : Entry) → Has e es → Has (named e) (types rs)
  unfolding type_missing
  typed-entry e h =
      let here = any (same (named e)) (types rs) in
      let found = not-false here (first-none (λ e. not (any (same (named e)) (types rs))) es all_Typed e h) in
      let (k, i, q) = any_has (same (named e)) (types rs) found in
      subst (λ z. Has z (types rs)) (sym (same_eq (named e) k q)) i

  -- a whole path matches its own type alone
  pub path_matched : (e : Entry) → Has e es → matched (types rs) (whole_path e) ≡ named e ∷ []
  unfolding matched matches types
  path_matched e h = only_itself (named e) (row_types rs) (typed-entry e h)

  pub shape_back_lem : Octets s → shape_back f (types rs) asked ≡ s
  unfolding shape_back
  shape_back_lem small =
      let back : Wanted → List ℕ = λ w. entry_back f w.level (first_or [] (matched (types rs) w)) in
      join_map_lem back whole_path es
      ∙ join-same (λ e. back (whole_path e)) (λ e. entry_back f e.level (named e)) es (λ e h.
      ap (λ k. entry_back f e.level (first_or [] k)) (path_matched e h))
      ∙ entries_back_lem f s es shape small

  pub reads_given : Octets s → (room : ℕ) → length s ≤ room → reading f b (given asked) room ≡ given (length es, s)
  unfolding shaping reading
  reads_given small room fits =
      let (_, sound, _, most) = passed5_6 f s es shape in
      let five : ltb most_entries (length asked) ≡ false = le-ltb most_entries (length asked) (omega (arith, most, length-map es whole_path)) in
      let six : first_place (λ (w : Wanted). ltb f.levels w.level) asked ≡ none =
      none_first (λ (w : Wanted). ltb f.levels w.level) asked (λ w h.
      let (e, i, q) = map-has whole_path w es h in
      le-ltb f.levels w.level (omega (arith, ap (λ (v : Wanted). v.level) q, (each_part f es sound e i).1.level.1))) in
      let one : Wanted → Bool = λ w. eqb (length (matched (types rs) w)) 1 in
      let thirteen : first_place (λ w. not (one w)) asked ≡ none =
      none_first (λ w. not (one w)) asked (λ w h.
      let (e, i, q) = map-has whole_path w es h in
      ap (λ v. not (one v)) q ∙ ap (λ k. not (eqb (length k) 1)) (path_matched e i)) in
      let back = shape_back_lem small in
      let room-left : ltb room (length (shape_back f (types rs) asked)) ≡ false =
      ap (λ l. ltb room (length l)) back ∙ le-ltb room (length s) fits in
      given_bind (tests1_4 f b) rs _ table
      ∙ (λ i. refuse 5 (five i) >>= (λ _. refuse_at 6 (six i) >>= (λ _. refuse_at 13 (thirteen i) >>= (λ _.
      refuse 29 (room-left i) >>= (λ _. given (length-map es whole_path i, back i))))))

  -- the whole answer
  pub read-given : Octets s → (lent : List ℕ) → length s ≤ length lent
      → read_as f b (given asked) lent ≡ record { reply = record { number = 0; place = 0; rest = length es }; shape = s ++ drop (length s) lent }
  unfolding read_as
  read-given small lent fits =
      ap (λ (a : Answer (ℕ × List ℕ)). record { reply = reply 0 (a >>= (λ x. given x.0)); shape = after lent (a >>= (λ x. given x.1)) })
      (reads_given small (length lent) fits)

-- ---- there and back
module _ (f : Format) (few : f.levels ≤ 8) (small : f.labels < 65536) (names : NamesRead f)
    (b : List ℕ) (rs : List Row) (table : tests1_4 f b ≡ given rs)
    (s : List ℕ) (es : List Entry) (shape : tests5_6 f s ≡ given es) (all_Typed : type_missing rs es ≡ none)
    (octets : Octets s) (lent : List ℕ) (fits : length s ≤ length lent) where
  -- what comes back: the number of entries, and the shape
  abbrev pub came_back : Reading
  came_back = record { reply = record { number = 0; place = 0; rest = length es }; shape = s ++ drop (length s) lent }

  abbrev line : List ℕ
  line = line_of (map whole_path es)

  pub line_reads : ReadTree f b line lent came_back
  line_reads = record {
    said = given (map whole_path es);
    says = says_line f few small s es shape;
    answer = sym (read-given f b rs table s es shape all_Typed octets lent fits);
  }

  -- A PRINTED LINE IS READ BACK over a table with the shape's types, as the shape: it is never refused with 12, 5, 6 or 13.
  pub reads_back : (x : Reading) → ReadTree f b line lent x → x ≡ came_back
  reads_back x r = read_tree_unique f names b line lent x came_back r line_reads

-- ---- the calls
module _ (f : Format) (s room : List ℕ) (es : List Entry) where
  abbrev text : List ℕ
  text = line_of (map whole_path es)

  -- a shape past 5 and 6 is printed where the line has room
  pub printed : tests5_6 f s ≡ given es → length text ≤ length room
      → print_tree f s room ≡ record { reply = record { number = 0; place = 0; rest = length text }; text = text ++ drop (length text) room }
  unfolding print_tree printing
  printed shape fits =
      let line : printing f s (length room) ≡ given text =
      given_bind (tests5_6 f s) es _ shape ∙ ap (λ t. refuse 29 t >>= (λ _. given text)) (le-ltb (length room) (length text) fits) in
      ap (λ (a : Answer (List ℕ)). record { reply = reply 0 (a >>= (λ x. given (length x))); text = after room a }) line

-- The bytes that a printing wrote.
abbrev pub written : Printing → List ℕ
written p = take p.reply.rest p.text

-- 1,360 bytes of room are always enough for a shape past 5 and 6.
pub print_accepted : (f : Format) → f.levels ≤ 8 → f.labels < 65536 → (s : List ℕ) (es : List Entry) → tests5_6 f s ≡ given es
    → (room : List ℕ) → 1360 ≤ length room → (print_tree f s room).reply.number ≡ 0
print_accepted f few small s es shape room enough =
    ap (λ (p : Printing). p.reply.number) (printed f s room es shape (omega (arith, enough, line_short f few small s es shape)))

-- where a line has no room, printing is refused
unprinted : (f : Format) (s room : List ℕ) (es : List Entry) → tests5_6 f s ≡ given es → length room < length (line_of (map whole_path es))
    → (print_tree f s room).reply.number ≡ 29
unfolding print_tree printing
unprinted f s room es shape lt =
    let line = line_of (map whole_path es) in
    let none : printing f s (length room) ≡ refused 29 0 =
    given_bind (tests5_6 f s) es _ shape ∙ ap (λ t. refuse 29 t >>= (λ _. given line)) (lt-ltb (length room) (length line) lt) in
    ap (λ (a : Answer (List ℕ)). (reply 0 (a >>= (λ x. given (length x)))).number) none

-- so an accepted print has written the line
accepted_line : (f : Format) (s room : List ℕ) (es : List Entry) → tests5_6 f s ≡ given es → (print_tree f s room).reply.number ≡ 0
    → written (print_tree f s room) ≡ line_of (map whole_path es)
accepted_line f s room es shape accepted = go (leb (length line) (length room)) refl
  where
    line : List ℕ
    line = line_of (map whole_path es)

    go : (t : Bool) → leb (length line) (length room) ≡ t → written (print_tree f s room) ≡ line
    go true e =
        ap written (printed f s room es shape (leb-true (length line) (length room) e)) ∙ take_at line (drop (length line) room) (length line) refl
    go false e =
        let none : ◌≡◌ {A = ℕ} 0 29 = sym accepted ∙ unprinted f s room es shape (leb-false (length line) (length room) e) in
        let z : ⊥ = omega (arith, none) in absurd z

-- A SHAPE THAT IS PRINTED IS READ BACK from the line, over every table past 1 to 4 that holds its types.
pub print_reads : (f : Format) → f.levels ≤ 8 → f.labels < 65536 → NamesRead f → (b s : List ℕ) (w : Work) → tests1_7 f b s ≡ given w → Octets s
    → (room : List ℕ) → (print_tree f s room).reply.number ≡ 0 → (lent : List ℕ) → length s ≤ length lent
    → (x : Reading) → ReadTree f b (written (print_tree f s room)) lent x
    → x ≡ record { reply = record { number = 0; place = 0; rest = length (entries f s) }; shape = s ++ drop (length s) lent }
unfolding tests5_7
print_reads f few small names b s w passes octets room accepted lent fits x r =
    let (rs, table, k₁) = bind_given (tests1_4 f b) _ w passes in
    let (es, shape, k₂) = bind_given (tests5_6 f s) _ w k₁ in
    let (u, typed, k₃) = bind_given (refuse_at 7 (type_missing rs es)) _ w k₂ in
    let back =
    reads_back f few small names b rs table s es shape (refuse_at-given 7 (type_missing rs es) u typed) octets lent fits x
    (subst (λ t. ReadTree f b t lent x) (accepted_line f s room es shape accepted) r) in
    let count = sym (ap length (passed5_6 f s es shape).0) in
    back ∙ ap (λ n. record { reply = record { number = 0; place = 0; rest = n }; shape = s ++ drop (length s) lent }) count
