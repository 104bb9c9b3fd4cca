-- The shape of one entry alone passes what the whole shape passes, and its lines show the rows of that entry's type. Assumes nothing.
use Prim.Native.Nat.{ℕ, zero, suc, ◌+◌, ◌*◌, ◌/◌, ◌%◌, ◌≤◌, ◌<◌, pred}
use native.Mathlib.Nat.{not-suc-le-zero, le_of_suc-le-suc, mul-zero, mul-suc, suc-mul, mul_comm, div_self, mod_self, le-div_iff_mul-le}
use native.Mathlib.Omega.{arith}
use mathlib.Core.Path.{◌≡◌, refl, sym, ◌∙◌, ap, ap₂, subst}
use mathlib.Core.Logic.{inl, inr}
use mathlib.Core.Bool.{Bool, true, not, ◌&&◌}
use mathlib.Core.List.{List, [], ◌∷◌, ◌++◌, map, map-map}
use mathlib.Core.Option.{none}
use lib.Dec.{eqb, leb}
use lib.ListN.{length, get_or, take, drop, length-take, length-drop, length-map}
use lib.Seq.{drop-drop, take_all}
use borrow.Author.Tests.{le-leb, leb-true}
use Rattle.paper.specs.Lists.{Has, keep, all, any, place, first_place, joined, first_break, between, same, up, count, ways}
use Rattle.paper.specs.Format.{Format, entry_bytes, word, words, records, whole}
use Rattle.paper.specs.Tables.{types, type_number}
use Rattle.paper.specs.Closeness.{Node, of_kind, closest_of}
use Rattle.paper.specs.Shapes.{Entry, Shape, entry_of, entries, named, level_kept, entry_kept, bad_entry, steps, shape_over, kind, children}
use Rattle.paper.specs.NewTable.{forest, tree, beneath, tops, lines, entry_unit, source_list}
use Rattle.paper.specs.Calls.{given, Work, type_missing, tests1_7, room_in, reshape}
use Rattle.totals.specs.Tape.{type_rows}
use Rattle.totals.specs.Alone.{alone}
use Rattle.totals.proofs.Lists.{both, and, get_d_has, unbroken, none_passes, map-has, map_same, get_d_map}
use Rattle.totals.proofs.Passed.{Passed, length-records, count_entries, pass5_6, pass1_7}
use Rattle.totals.proofs.Reshaped.{length_sources, pass8, reshape_written}

-- ---- the bytes of one entry
records-at : (w n : ℕ) (b : List ℕ) (e : ℕ) → e < n → get_or (records w n b) e [] ≡ take w (drop (w * e) b)
records-at w zero b e lt = absurd (not-suc-le-zero lt)
records-at w (suc n) b zero lt = ap (λ i. take w (drop i b)) (sym (mul-zero w))
records-at w (suc n) b (suc e) lt =
    let past : w + w * e ≡ w * suc e = omega (arith, mul-suc w e) in
    records-at w n (drop w b) e (le_of_suc-le-suc lt) ∙ ap (take w) (drop-drop (w * e) w b ∙ ap (λ i. drop i b) past)

-- behind byte 0 the words are the same, whatever byte 0
words-behind : (n x y : ℕ) (r : List ℕ) (i : ℕ) → words n (x ∷ r) (suc i) ≡ words n (y ∷ r) (suc i)
words-behind zero x y r i = refl
words-behind (suc n) x y r i = ap {B = List ℕ} (λ l. word (x ∷ r) (suc i) ∷ l) (words-behind n x y r (suc (suc i)))

-- the entry, on level 1
abbrev on_level1 : Entry → Entry
on_level1 x = record { level = 1; size = x.size; spare = x.spare; labels = x.labels }

-- level 1 written over a record's level
level1_entry : (f : Format) (r : List ℕ) → 0 < length r → entry_of f (1 ∷ drop 1 r) ≡ on_level1 (entry_of f r)
unfolding entry_of
level1_entry f [] some_bytes = absurd (not-suc-le-zero some_bytes)
level1_entry f (x ∷ r) some_bytes =
    let old = entry_of f (x ∷ r) in
    ap {B = Entry} (λ l. record { level = 1; size = old.size; spare = old.spare; labels = l }) (words-behind f.levels 1 x r 3)

-- ---- an entry that keeps the rules keeps them on level 1
level1_kept : (f : Format) (before : ℕ) (x : Entry) → entry_kept f before x ≡ true → entry_kept f 0 (on_level1 x) ≡ true
unfolding entry_kept
level1_kept f before x kept =
    let first = between 1 x.level f.levels in
    let second = between 1 x.size f.levels in
    let third = eqb x.spare 0 in
    let fourth = all (λ y. between 1 y f.labels) (named x) in
    let fifth = all (eqb 0) (drop x.size x.labels) in
    let (h₅, next) = both (first && second && third && fourth && fifth) (level_kept before x.level) kept in
    let (h₄, e₅) = both (first && second && third && fourth) fifth h₅ in
    let (h₃, e₄) = both (first && second && third) fourth h₄ in
    let (h₂, e₃) = both (first && second) third h₃ in
    let (e₁, e₂) = both first second h₂ in
    let (low, high) = both (leb 1 x.level) (leb x.level f.levels) e₁ in
    let levels : 1 ≤ f.levels = omega (arith, leb-true 1 x.level low, leb-true x.level f.levels high) in
    and (and (and (and (and (and refl (le-leb 1 f.levels levels)) e₂) e₃) e₄) e₅) refl

-- ---- the one entry of the shape alone
-- the bytes of entry e
abbrev part : Format → List ℕ → ℕ → List ℕ
part f sb e = take (entry_bytes f) (drop (entry_bytes f * e) sb)

-- entry e as it is read
abbrev entry_at : Format → List ℕ → ℕ → Entry
entry_at f sb e = entry_of f (part f sb e)

module _ (f : Format) (sb : List ℕ) (e : ℕ) (lt : e < length (entries f sb)) where
  entry_at_lem : (d : Entry) → get_or (entries f sb) e d ≡ entry_at f sb e
  unfolding entries
  entry_at_lem d =
      let n = whole (entry_bytes f) sb in
      let lt-whole : e < n = omega (arith, lt, count_entries f sb) in
      get_d_map (entry_of f) (records (entry_bytes f) n sb) e [] d (omega (arith, length-records (entry_bytes f) n sb))
      ∙ ap (entry_of f) (records-at (entry_bytes f) n sb e lt-whole)

  entry_in : Has (entry_at f sb e) (entries f sb)
  entry_in = subst (λ x. Has x (entries f sb)) (entry_at_lem (entry_at f sb e)) (get_d_has (entry_at f sb e) (entries f sb) e lt)

  length_part : length (part f sb e) ≡ entry_bytes f
  length_part =
      let lt-whole : suc e ≤ length sb / entry_bytes f = omega (arith, lt, count_entries f sb) in
      let fits : suc e * entry_bytes f ≤ length sb = (le-div_iff_mul-le {k = entry_bytes f} (omega arith)).0 lt-whole in
      omega (
        arith,
        fits,
        suc-mul e (entry_bytes f),
        mul_comm e (entry_bytes f),
        length-take (entry_bytes f) (drop (entry_bytes f * e) sb),
        length-drop (entry_bytes f * e) sb,
      )

  length-alone : length (alone f sb e) ≡ entry_bytes f
  length-alone = omega (arith, length_part, length-drop 1 (part f sb e))

  alone-entries : entries f (alone f sb e) ≡ on_level1 (entry_at f sb e) ∷ []
  unfolding entries
  alone-entries =
      let one : whole (entry_bytes f) (alone f sb e) ≡ 1 = ap (λ n. n / entry_bytes f) length-alone ∙ div_self (omega arith) in
      ap (λ n. map (entry_of f) (records (entry_bytes f) n (alone f sb e))) one
      ∙ ap {B = List Entry} (λ r. entry_of f r ∷ []) (take_all (entry_bytes f) (alone f sb e) (omega (arith, length-alone)))
      ∙ ap {B = List Entry} (λ x. x ∷ []) (level1_entry f (part f sb e) (omega (arith, length_part)))

-- ---- the lines of a shape of one entry
-- a thing with nothing beneath it is a tree of its own
leaf : {A : Type 0} (groups : A → List (List A)) (n : ℕ) (x : A) (d : List ℕ) → joined (groups x) ≡ [] → tree groups n x d ≡ (x, d) ∷ []
leaf groups zero x d none_beneath = refl
leaf groups (suc n) x d none_beneath = ap (λ xs. (x, d) ∷ forest (tree groups n) d 1 xs) none_beneath

leaves : {A : Type 0} (groups : A → List (List A)) (n : ℕ) (d : List ℕ) (i : ℕ) (xs : List A) → ((x : A) → Has x xs → joined (groups x) ≡ [])
    → map (λ (y : A × List ℕ). y.0) (forest (tree groups n) d i xs) ≡ xs
leaves groups n d i [] none_beneath = refl
leaves {A} groups n d i (x ∷ xs) none_beneath =
    ap (λ l. map (λ (y : A × List ℕ). y.0) (l ++ forest (tree groups n) d (suc i) xs)) (leaf groups n x (d ++ (i ∷ [])) (none_beneath x (inl refl)))
    ∙ ap {B = List A} (λ l. x ∷ l) (leaves groups n d (suc i) xs (λ y h. none_beneath y (inr h)))

-- the places of rows
abbrev pub places : List Node → List ℕ
places = map (λ (r : Node). r.place)

-- A shape whose one entry is entry 0 writes one line for each row of its type.
one_entry_sources : (t : List Node) (s : Shape) (n : ℕ) → s.ways ≡ (0 ∷ []) ∷ []
    → source_list (lines t s n) ≡ places (of_kind t (kind s 0))
unfolding source_list lines beneath tops
one_entry_sources t s n one =
    let written = forest (tree (beneath t s) (pred n)) [] 1 (tops t s) in
    let number : ℕ × Node → ℕ = λ x. x.0 * entry_unit + x.1.place in
    map-map _ _ written ∙ sym (map-map number (λ (y : (ℕ × Node) × List ℕ). y.0) written)
    ∙ ap (map number) (leaves (beneath t s) (pred n) [] 1 (tops t s) none_beneath)
    ∙ map-map number (λ (r : Node). (0, r)) (of_kind t (kind s 0))
    ∙ map_same (λ (r : Node). number (0, r)) (λ (r : Node). r.place) (of_kind t (kind s 0)) (λ r _. omega arith)
  where
    childless : children s 0 ≡ []
    childless = ap (λ (ws : List (List ℕ)). keep (λ c. same (up (get_or ws c [])) (get_or ws 0 [])) (count 0 (length ws))) one

    none_beneath : (x : ℕ × Node) → Has x (tops t s) → joined (beneath t s x) ≡ []
    none_beneath x h =
        let (r, hr, e) = map-has {B = ℕ × Node} (λ (r : Node). (0, r)) x (of_kind t (kind s 0)) h in
        ap (λ z. joined (beneath t s z)) e
        ∙ ap (λ cs. joined (map (λ c. map (λ (q : Node). (c, q)) (closest_of t r (kind s c))) cs)) childless

-- ---- what it passes
-- what is worked on with the shape of entry e alone
abbrev pub alone_work : Format → List ℕ → ℕ → Work → Work
alone_work f sb e w = record { rows = w.rows; nodes = w.nodes; shape = shape_over (types w.rows) (entries f (alone f sb e)) }

module _ (f : Format) (b sb : List ℕ) (w : Work) (past : Passed f b sb w) (e : ℕ) (lt : e < length (entries f sb)) where
  alone_missing : type_missing w.rows (entries f (alone f sb e)) ≡ none
  unfolding type_missing
  alone_missing =
      let missing : Entry → Bool = λ x. not (any (same (named x)) (types w.rows)) in
      let here = none_passes missing (entries f sb) past.none_missing (entry_at f sb e) (entry_in f sb e lt) in
      rw (alone-entries f sb e lt, here, first_place, place)

  alone-sound : bad_entry f (entries f (alone f sb e)) ≡ none
  unfolding bad_entry
  alone-sound =
      let level : Entry → ℕ = λ x. x.level in
      let (before, kept) = unbroken (entry_kept f) level 0 0 (entries f sb) past.none_bad (entry_at f sb e) (entry_in f sb e lt) in
      rw (alone-entries f sb e lt, level1_kept f before (entry_at f sb e) kept, first_break)

  -- The shape of one entry alone passes all that the whole shape passes.
  pub alone_passes : tests1_7 f b (alone f sb e) ≡ given (alone_work f sb e w)
  alone_passes =
      let long = length-alone f sb e lt in
      let even = ap (λ n. n % entry_bytes f) long ∙ mod_self (entry_bytes f) in
      let read = pass5_6 f (alone f sb e) (omega arith) (omega (arith, long)) even alone-sound in
      pass1_7 f b (alone f sb e) w.rows (entries f (alone f sb e)) past.read read alone_missing
      ∙ ap (λ t. given (record { rows = w.rows; nodes = t; shape = (alone_work f sb e w).shape })) (sym past.nodes_are)

  -- Its one entry names the type that entry e names.
  pub alone_kind : kind (alone_work f sb e w).shape 0 ≡ kind w.shape e
  unfolding shape_over
  alone_kind =
      let number : Entry → ℕ = λ x. type_number (types w.rows) (named x) in
      ap (λ es. get_or (map number es) 0 0) (alone-entries f sb e lt)
      ∙ sym (ap number (entry_at_lem f sb e lt (entry_at f sb e)))
      ∙ sym (get_d_map number (entries f sb) e (entry_at f sb e) 0 lt)
      ∙ ap (λ rs. get_or (map (λ x. type_number (types rs) (named x)) (entries f sb)) e 0) past.rows_are
      ∙ sym (ap (λ s. kind s e) past.shape_is)

  -- Its lines show each row of that type once, in table order.
  pub alone_sources : (n : ℕ) → source_list (lines w.nodes (alone_work f sb e w).shape n) ≡ places (type_rows w e)
  unfolding shape_over type_rows
  alone_sources n =
      one_entry_sources w.nodes (alone_work f sb e w).shape n (ap (λ es. ways [] (steps 0 es)) (alone-entries f sb e lt))
      ∙ ap (λ k. places (of_kind w.nodes k)) alone_kind

  -- A reshape to it, where there is room, gives the places of the rows of entry e's type.
  pub alone-reshaped : (table sources : List ℕ) → length (type_rows w e) ≤ room_in f table sources
      → let answer = reshape f b (alone f sb e) table sources in
      (answer.reply ≡ record { number = 0; place = 0; rest = length (type_rows w e) })
      × (answer.sources ≡ places (type_rows w e) ++ drop (length (type_rows w e)) sources)
  alone-reshaped table sources fit =
      let work = alone_work f sb e w in
      let ls = lines work.nodes work.shape f.levels in
      let shows = alone_sources f.levels in
      let long : length ls ≡ length (type_rows w e) = sym (length_sources ls) ∙ ap length shows ∙ length-map (type_rows w e) _ in
      let passes8 = pass8 f work (room_in f table sources) (omega (arith, long)) in
      let answer = reshape_written f b (alone f sb e) table sources (room_in f table sources) refl work ls alone_passes passes8 in (
        answer.reply-is ∙ ap (λ n. record { number = 0; place = 0; rest = n }) long,
        answer.sources_are ∙ ap₂ (λ l n. l ++ drop n sources) shows long,
      )
