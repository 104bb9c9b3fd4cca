-- A table that keeps the row rules is a forest in document order, and its types are those of its ancestors. Assumes nothing.
use Prim.Native.Nat.{ℕ, zero, suc, ◌≤◌, ◌<◌, pred}
use native.Mathlib.Omega.{arith}
use mathlib.Core.Path.{◌≡◌, refl, sym, ◌∙◌, ap, subst, subst₂}
use mathlib.Core.Logic.{inl, inr, ⊎_elim}
use mathlib.Core.Bool.{Bool, true, false, ◌&&◌, not, false≢true}
use mathlib.Core.List.{List, [], ◌∷◌, ◌++◌, map}
use mathlib.Core.Option.{none, some}
use lib.Dec.{leb, eqb}
use lib.ListN.{length, length-append, length-take, length-map, take, drop, get_or}
use lib.Seq.{take_at}
use borrow.Author.Tests.{leb-true}
use Rattle.paper.specs.Lists.{Has, all, place, first_break, between, same, distinct, ways}
use Rattle.paper.specs.Format.{Format, head_bytes, row_bytes, words, records, whole}
use Rattle.paper.specs.Tables.{Row, row_of, rows, dewey, fields_kept, follows, row_kept, bad_row, row_types, types, type_number}
use Rattle.paper.specs.Closeness.{Node, nodes_from, nodes, closest}
use Rattle.paper.specs.Faithful.{Chain}
use Rattle.paper.proofs.Lists.{both, same_eq, eq_same, has-keep, keep-has, has-map}
use Rattle.paper.proofs.Agree.{Agree}
use Rattle.paper.proofs.Forest.{Forest, Numbered, Kin, Above, deweys, follows_lt, chain-pos, above, prefix, run, one-node, nodes_from_numbered}
use Rattle.paper.proofs.Closeness.{closest_near, near_closest, own_near, own_only}

-- ---- a rule that no element breaks
module _ {A B : Type 0} (rule : B → A → Bool) (leaves : A → B) where
  abbrev pub Rules : B → List A → Type 0
  Rules b [] = Unit
  Rules b (x ∷ xs) = (rule b x ≡ true) × Rules (leaves x) xs

  pub none-rules : (i : ℕ) (b : B) (xs : List A) → first_break rule leaves i b xs ≡ none → Rules b xs
  none-rules i b [] h = tt
  none-rules i b (x ∷ xs) h = go (rule b x) refl (none-rules (suc i) (leaves x) xs)
    where
      go : (c : Bool) → rule b x ≡ c → (first_break rule leaves (suc i) (leaves x) xs ≡ none → Rules (leaves x) xs) → Rules b (x ∷ xs)
      go true e ih = (e, ih (rw (e, first_break) at h))
      go false e ih =
          let q : some i ≡ none = rw (e, first_break) at h in
          let z : ◌≡◌ {A = ℕ} 0 1 = cc in let w : ⊥ = omega arith in absurd w

  pub rules-none : (i : ℕ) (b : B) (xs : List A) → Rules b xs → first_break rule leaves i b xs ≡ none
  rules-none i b [] h = refl
  rules-none i b (x ∷ xs) h = rw (h.0, first_break) (rules-none (suc i) (leaves x) xs h.1)

  pub rules-each : (b : B) (xs : List A) → Rules b xs → (x : A) → Has x xs → (c : B) × (rule c x ≡ true)
  rules-each b [] h x i = absurd i
  rules-each b (y ∷ ys) h x (inl e) = (b, subst (λ z. rule b z ≡ true) (sym e) h.0)
  rules-each b (y ∷ ys) h x (inr i) = rules-each (leaves y) ys h.1 x i

-- ---- rows as read have a component for each level
abbrev pub Laid : Format → List Row → Type 0
Laid f [] = Unit
Laid f (r ∷ rs) = (length r.components ≡ f.levels) × Laid f rs

pub length-words : (n : ℕ) (b : List ℕ) (i : ℕ) → length (words n b i) ≡ n
length-words zero b i = refl
length-words (suc n) b i = ap suc (length-words n b (suc (suc i)))

pub rows_laid : (f : Format) (b : List ℕ) → Laid f (rows f b)
unfolding rows row_of
rows_laid f b = go (records (row_bytes f) (whole (row_bytes f) b) b)
  where
    go : (bs : List (List ℕ)) → Laid f (map (row_of f) bs)
    go [] = tt
    go (x ∷ bs) = (length-words f.levels x head_bytes, go bs)

-- ---- the rules make a chain
-- a row's level is the length of its Dewey number
abbrev pub Levelled : List Row → Type 0
Levelled [] = Unit
Levelled (r ∷ rs) = (length (dewey r) ≡ r.level) × Levelled rs

pub fields_level : (f : Format) (r : Row) → fields_kept f r ≡ true → (1 ≤ r.level) × (r.level ≤ f.levels)
unfolding fields_kept
fields_level f r h =
    let a = both (between 1 r.level f.levels && eqb r.spare 0 && between 1 r.label f.labels) (all (eqb 0) (drop r.level r.components)) h in
    let b = both (between 1 r.level f.levels && eqb r.spare 0) (between 1 r.label f.labels) a.0 in
    let c = both (between 1 r.level f.levels) (eqb r.spare 0) b.0 in
    let d = both (leb 1 r.level) (leb r.level f.levels) c.0 in
    (leb-true 1 r.level d.0, leb-true r.level f.levels d.1)

pub kept_chain : (f : Format) (p : List ℕ) (rs : List Row) → Laid f rs → Rules (row_kept f) dewey p rs → Chain p (map dewey rs) × Levelled rs
unfolding row_kept
kept_chain f p [] l k = (tt, tt)
kept_chain f p (r ∷ rs) l k =
    let h = both (fields_kept f r) (follows p (dewey r)) k.0 in
    let (lo, hi) = fields_level f r h.0 in
    let e : length (dewey r) ≡ r.level = omega (arith, length-take r.level r.components, l.0) in
    let ih = kept_chain f (dewey r) rs l.1 k.1 in
    (((omega arith, h.1), ih.0), (e, ih.1))

-- ---- each row with its Dewey number and its type
abbrev pub step : Row → ℕ × ℕ
step r = (r.level, r.label)

abbrev pub typed_from : List ℕ → List Row → List (List ℕ × List ℕ)
typed_from w [] = []
typed_from w (r ∷ rs) = let v = take (pred r.level) w ++ (r.label ∷ []) in (dewey r, v) ∷ typed_from v rs

abbrev pub typed : List Row → List (List ℕ × List ℕ)
typed rs = typed_from [] rs

abbrev number : List ℕ × List ℕ → List ℕ
number x = x.0

abbrev labels : List ℕ × List ℕ → List ℕ
labels x = x.1

typed_kin : (p w : List ℕ) (rs : List Row) → length w ≡ length p → Chain p (map dewey rs) → Levelled rs → Kin number labels p w (typed_from w rs)
typed_kin p w [] e c l = tt
typed_kin p w (r ∷ rs) e c l =
    let (lt, le, same) = follows_lt p (dewey r) c.0 in
    let n = pred r.level in
    let v = take n w ++ (r.label ∷ []) in
    let q : pred (length (dewey r)) ≡ n = ap pred l.0 in
    let lw : length (take n w) ≡ n = omega (arith, length-take n w, l.0, c.0.0) in
    let ev : length v ≡ length (dewey r) = omega (arith, length-append (take n w) (r.label ∷ []), l.0, c.0.0) in (
      ev,
      same,
      subst (λ m. take m v ≡ take m w) (sym q) (take_at (take n w) (r.label ∷ []) n lw),
      typed_kin (dewey r) v rs ev c.1 l.1,
    )

pub length-ways : (w : List ℕ) (xs : List (ℕ × ℕ)) → length (ways w xs) ≡ length xs
length-ways w [] = refl
length-ways w (x ∷ xs) = ap suc (length-ways (take (pred x.0) w ++ (x.1 ∷ [])) xs)

pub nodes_from_deweys : (i : ℕ) (ks : List ℕ) (ds : List (List ℕ)) → length ks ≡ length ds → deweys (nodes_from i ks ds) ≡ ds
nodes_from_deweys i [] [] e = refl
nodes_from_deweys i [] (d ∷ ds) e = let w : ⊥ = omega arith in absurd w
nodes_from_deweys i (k ∷ ks) [] e = let w : ⊥ = omega arith in absurd w
nodes_from_deweys i (k ∷ ks) (d ∷ ds) e = ap {B = List (List ℕ)} (λ l. d ∷ l) (nodes_from_deweys (suc i) ks ds (omega arith))

module _ (g : List ℕ → ℕ) where
  abbrev nodes_over : ℕ → List ℕ → List Row → List Node
  nodes_over i w rs = nodes_from i (map g (ways w (map step rs))) (map dewey rs)

  node-typed : (i : ℕ) (w : List ℕ) (rs : List Row) (x : Node) → Has x (nodes_over i w rs)
      → (v : List ℕ) × Has (x.dewey, v) (typed_from w rs) × (x.kind ≡ g v)
  node-typed i w [] x h = absurd h
  node-typed i w (r ∷ rs) x (inl e) =
      let v = take (pred r.level) w ++ (r.label ∷ []) in
      (v, inl (ap {B = List ℕ × List ℕ} (λ (x : Node). (x.dewey, v)) e), ap (λ (x : Node). x.kind) e)
  node-typed i w (r ∷ rs) x (inr h) =
      let u = node-typed (suc i) (take (pred r.level) w ++ (r.label ∷ [])) rs x h in
      (u.0, inr u.1, u.2)

  typed-node : (i : ℕ) (w : List ℕ) (rs : List Row) (y : List ℕ × List ℕ) → Has y (typed_from w rs)
      → (x : Node) × Has x (nodes_over i w rs) × (x.dewey ≡ y.0) × (x.kind ≡ g y.1)
  typed-node i w [] y h = absurd h
  typed-node i w (r ∷ rs) y (inl e) =
      let v = take (pred r.level) w ++ (r.label ∷ []) in
      (record { place = i; kind = g v; dewey = dewey r }, inl refl, sym (ap number e), sym (ap (λ (z : List ℕ × List ℕ). g z.1) e))
  typed-node i w (r ∷ rs) y (inr h) =
      let u = typed-node (suc i) (take (pred r.level) w ++ (r.label ∷ [])) rs y h in
      (u.0, inr u.1, u.2, u.3)

typed_way : (w : List ℕ) (rs : List Row) (y : List ℕ × List ℕ) → Has y (typed_from w rs) → Has y.1 (ways w (map step rs))
typed_way w [] y h = absurd h
typed_way w (r ∷ rs) y (inl e) = inl (ap labels e)
typed_way w (r ∷ rs) y (inr h) = inr (typed_way (take (pred r.level) w ++ (r.label ∷ [])) rs y h)

way_typed : (w : List ℕ) (rs : List Row) (v : List ℕ) → Has v (ways w (map step rs)) → (d : List ℕ) × Has (d, v) (typed_from w rs)
way_typed w [] v h = absurd h
way_typed w (r ∷ rs) v (inl e) = (dewey r, inl (ap {B = List ℕ × List ℕ} (λ z. (dewey r, z)) e))
way_typed w (r ∷ rs) v (inr h) = let u = way_typed (take (pred r.level) w ++ (r.label ∷ [])) rs v h in (u.0, inr u.1)

-- ---- numbering
pub has-distinct : (k : List ℕ) (ks : List (List ℕ)) → Has k ks → Has k (distinct ks)
has-distinct k [] h = absurd h
has-distinct k (x ∷ ks) (inl e) = inl e
has-distinct k (x ∷ ks) (inr h) = go (same x k) refl (has-distinct k ks h)
  where
    go : (b : Bool) → same x k ≡ b → Has k (distinct ks) → Has k (distinct (x ∷ ks))
    go true e i = inl (sym (same_eq x k e))
    go false e i = inr (has-keep (λ y. not (same x y)) k (distinct ks) i (ap not e))

pub distinct-has : (k : List ℕ) (ks : List (List ℕ)) → Has k (distinct ks) → Has k ks
distinct-has k [] h = absurd h
distinct-has k (x ∷ ks) (inl e) = inl e
distinct-has k (x ∷ ks) (inr h) = inr (distinct-has k ks (keep-has (λ y. not (same x y)) k (distinct ks) h).0)

-- a type stands at its number
pub number_at : (k : List ℕ) (ts : List (List ℕ)) → Has k ts → (type_number ts k < length ts) × (get_or ts (type_number ts k) [] ≡ k)
unfolding type_number
number_at k [] h = absurd h
number_at k (x ∷ ts) h = go (same k x) refl h (number_at k ts)
  where
    go : (b : Bool) → same k x ≡ b → Has k (x ∷ ts) → (Has k ts → (place (same k) ts < length ts) × (get_or ts (place (same k) ts) [] ≡ k))
        → (place (same k) (x ∷ ts) < length (x ∷ ts)) × (get_or (x ∷ ts) (place (same k) (x ∷ ts)) [] ≡ k)
    go true e h ih = rw (e, place) (omega arith, sym (same_eq k x e))
    go false e (inl q) ih = absurd (false≢true (sym e ∙ eq_same q))
    go false e (inr h) ih = let r = ih h in rw (e, place) (omega (arith, r.0), r.1)

pub number_same : (j k : List ℕ) (ts : List (List ℕ)) → Has j ts → Has k ts → type_number ts j ≡ type_number ts k → j ≡ k
number_same j k ts hj hk e = sym (number_at j ts hj).1 ∙ ap (λ n. get_or ts n []) e ∙ (number_at k ts hk).1

-- the rows of a table have the places 0, 1, 2 and so on
pub nodes_numbered : (rs : List Row) → Numbered 0 (nodes rs)
unfolding nodes
nodes_numbered rs = nodes_from_numbered 0 (map (type_number (types rs)) (row_types rs)) (map dewey rs)

-- ---- a sound table
module _ (f : Format) (rs : List Row) (laid : Laid f rs) (sound : bad_row f rs ≡ none) where
  rules : Chain [] (map dewey rs) × Levelled rs
  unfolding bad_row
  rules = kept_chain f [] rs laid (none-rules (row_kept f) dewey 0 [] rs sound)

  -- In a sound table each row follows the one before it.
  pub sound_forest : Forest (nodes rs)
  unfolding nodes row_types
  sound_forest =
      subst (λ ds. Chain [] ds) (sym (nodes_from_deweys 0 (map (type_number (types rs)) (row_types rs)) (map dewey rs)
      (length-map (row_types rs) (type_number (types rs)) ∙ length-ways [] (map step rs) ∙ length-map rs step ∙ sym (length-map rs dewey)))) rules.0

  pub sound-pos : (x : Node) → Has x (nodes rs) → 0 < length x.dewey
  sound-pos x h = chain-pos [] (deweys (nodes rs)) x.dewey sound_forest (has-map (λ (x : Node). x.dewey) x (nodes rs) h)

  -- x has the type v
  abbrev pub HasType : Node → List ℕ → Type 0
  HasType x v = Has (x.dewey, v) (typed rs)

  pub type_of_lem : (x : Node) → Has x (nodes rs) → (v : List ℕ) × HasType x v × (x.kind ≡ type_number (types rs) v)
  unfolding nodes row_types
  type_of_lem x h = node-typed (type_number (types rs)) 0 [] rs x h

  pub type_listed : (y : List ℕ × List ℕ) → Has y (typed rs) → Has y.1 (types rs)
  unfolding types row_types
  type_listed y h = has-distinct y.1 (ways [] (map step rs)) (typed_way [] rs y h)

  -- each listed type is some row's
  pub listed_type : (k : List ℕ) → Has k (types rs) → (x : Node) × Has x (nodes rs) × HasType x k × (x.kind ≡ type_number (types rs) k)
  unfolding types row_types nodes
  listed_type k h =
      let (d, i) = way_typed [] rs k (distinct-has k (ways [] (map step rs)) h) in
      let (x, hx, ed, ek) = typed-node (type_number (types rs)) 0 [] rs (d, k) i in
      (x, hx, subst (λ z. Has (z, k) (typed rs)) (sym ed) i, ek)

  -- a row's type is as long as its Dewey number
  pub type_length : (x : Node) (v : List ℕ) → HasType x v → length v ≡ length x.dewey
  type_length x v h = go [] [] (typed rs) (typed_kin [] [] rs refl rules.0 rules.1) h
    where
      go : (p w : List ℕ) (ys : List (List ℕ × List ℕ)) → Kin number labels p w ys → Has (x.dewey, v) ys → length v ≡ length x.dewey
      go p w [] k h = absurd h
      go p w (y ∷ ys) k (inl e) = ap (λ (z : List ℕ × List ℕ). length z.1) e ∙ k.0 ∙ sym (ap (λ (z : List ℕ × List ℕ). length z.0) e)
      go p w (y ∷ ys) k (inr h) = go y.0 y.1 ys k.3 h

  -- The type of a row's ancestor at level k is the first k labels of its own type.
  pub ancestor : (x : Node) (v : List ℕ) → HasType x v → (k : ℕ) → 0 < k → k ≤ length x.dewey
      → (y : Node) × Has y (nodes rs) × (y.dewey ≡ take k x.dewey) × HasType y (take k v) × (y.kind ≡ type_number (types rs) (take k v))
  unfolding nodes row_types
  ancestor x v h k pos le =
      ⊎_elim found lost (above number labels [] [] (x.dewey, v) (typed rs) k (typed_kin [] [] rs refl rules.0 rules.1) h)
    where
      found : Above number labels k (x.dewey, v) (typed rs)
          → (y : Node) × Has y (nodes rs) × (y.dewey ≡ take k x.dewey) × HasType y (take k v) × (y.kind ≡ type_number (types rs) (take k v))
      found (z, hz, ed, ev) =
          let (y, hy, yd, yk) = typed-node (type_number (types rs)) 0 [] rs z hz in (
            y,
            hy,
            yd ∙ ed,
            subst₂ (λ a b. Has (a, b) (typed rs)) (sym yd) ev hz,
            yk ∙ ap (type_number (types rs)) ev,
          )

      lost : (take k x.dewey ≡ take k []) × (take k v ≡ take k [])
          → (y : Node) × Has y (nodes rs) × (y.dewey ≡ take k x.dewey) × HasType y (take k v) × (y.kind ≡ type_number (types rs) (take k v))
      lost e = let w : ⊥ = omega (arith, ap length e.0, length-take k x.dewey, length-take {A = ℕ} k []) in absurd w

  -- rows of one type number have one type
  pub kind_type : (x y : Node) → Has x (nodes rs) → Has y (nodes rs) → x.kind ≡ y.kind → (v : List ℕ) × HasType x v × HasType y v
  kind_type x y hx hy e =
      let (v, tv, kv) = type_of_lem x hx in
      let (u, tu, ku) = type_of_lem y hy in
      let q : v ≡ u = number_same v u (types rs) (type_listed (x.dewey, v) tv) (type_listed (y.dewey, u) tu) (sym kv ∙ e ∙ ku) in
      (v, tv, subst (λ z. HasType y z) (sym q) tu)

  -- Rows of one type have one level.
  pub one-level : (x y : Node) → Has x (nodes rs) → Has y (nodes rs) → x.kind ≡ y.kind → length x.dewey ≡ length y.dewey
  one-level x y hx hy e = let (v, tx, ty) = kind_type x y hx hy e in sym (type_length x v tx) ∙ type_length y v ty

  -- No two rows share a Dewey number.
  pub one-row : (x y : Node) → Has x (nodes rs) → Has y (nodes rs) → x.dewey ≡ y.dewey → x ≡ y
  one-row = one-node [] (nodes rs) sound_forest

  -- A row of a type is closest, within its own type, to itself only.
  pub self_closest : (r : Node) → Has r (nodes rs) → closest (nodes rs) r r ≡ true
  self_closest r h =
      near_closest (nodes rs) r.kind r.kind r r (h, refl) (h, refl)
      (own_near (nodes rs) one-row r.kind (length r.dewey) (λ x o. one-level x r o.0 h o.1) (sound-pos r h) r (h, refl))

  pub only_self : (r s : Node) → Has r (nodes rs) → Has s (nodes rs) → r.kind ≡ s.kind → closest (nodes rs) r s ≡ true → r ≡ s
  only_self r s hr hs e c =
      own_only (nodes rs) one-row r.kind (length r.dewey) (λ x o. one-level x r o.0 hr o.1) (sound-pos r hr) r s (hr, refl) (hs, sym e)
      (closest_near (nodes rs) r.kind r.kind r s refl (sym e) c)

  -- In a sound table each prefix of a row's Dewey number is a row's.
  pub sound_prefix : (x : Node) → Has x (nodes rs) → (k : ℕ) → 0 < k → k ≤ length x.dewey → (y : Node) × Has y (nodes rs) × (y.dewey ≡ take k x.dewey)
  sound_prefix = prefix (nodes rs) sound_forest

  -- Rows that agree to a level are one unbroken run.
  pub sound-run : (k : ℕ) (x y z : Node) → Has x (nodes rs) → Has y (nodes rs) → Has z (nodes rs) → x.place < y.place → y.place < z.place
      → Agree k x.dewey z.dewey → Agree k x.dewey y.dewey × Agree k y.dewey z.dewey
  sound-run = run (nodes rs) (nodes_numbered rs) sound_forest
