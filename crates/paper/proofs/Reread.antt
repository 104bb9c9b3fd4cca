-- The new table's bytes and source list, read again, are its lines; and each line keeps the row rules. Assumes nothing.
use Prim.Native.Nat.{ℕ, zero, suc, ◌+◌, ◌*◌, ◌/◌, ◌%◌, ◌≤◌, ◌<◌}
use native.Mathlib.Omega.{arith}
use mathlib.Core.Path.{◌≡◌, refl, sym, ◌∙◌, ap, ap₂, subst}
use mathlib.Core.Logic.{◌⊎◌, inl, inr, ⊎_elim}
use mathlib.Core.Bool.{true}
use mathlib.Core.List.{List, [], ◌∷◌, ◌++◌, map, map-map}
use mathlib.Core.Option.{none}
use lib.Dec.{eqb}
use lib.ListN.{length, get_or, take, drop, replicate, length-append, length-take, length-map, length-replicate}
use lib.Seq.{take-take, take_at}
use borrow.Author.Tests.{le-leb, eq-eqb}
use Rattle.paper.specs.Lists.{Has, between, join_map, padded}
use Rattle.paper.specs.Format.{Format, row_bytes, value_bytes, span, records, whole, head_bytes, list_bytes}
use Rattle.paper.specs.Tables.{Row, row_of, row_back, rows, dewey, fields_kept, follows, row_kept, bad_row, types}
use Rattle.paper.specs.Closeness.{Node, nodes_from, nodes}
use Rattle.paper.specs.Shapes.{Shape, way}
use Rattle.paper.specs.NewTable.{Line, lines, line_row, new_table, source_list, entry_unit}
use Rattle.paper.specs.Faithful.{Chain, Faithful}
use Rattle.paper.specs.Links.{new_nodes, source_row}
use Rattle.paper.proofs.Lists.{and, has_all, take-has, get_d_has, has_append, map-has, map_same}
use Rattle.paper.proofs.Bytes.{Small, Shaped, length-row, dewey_back, row_back_lem, whole_back, length_back, records_back}
use Rattle.paper.proofs.Tables.{Rules, rules-none}
use Rattle.paper.proofs.Shapes.{Ways}
use Rattle.paper.proofs.Verdict.{In, way_pos}
use Rattle.paper.proofs.Forest.{Kin}
use Rattle.paper.proofs.NewTypes.{ways-taken-over, one_each}
use Rattle.paper.proofs.Written.{line_nodes, lines_chain, line_within, line_fits, lines_faithful}

-- ---- padding with zeros
pub length-padded : (n : ℕ) (d : List ℕ) → length (padded n d) ≡ n
length-padded n d = omega (arith, length-take n (d ++ replicate n 0), length-append d (replicate n 0), length-replicate {A = ℕ} n 0)

replicate-has : (n x : ℕ) → Has x (replicate n 0) → x ≡ 0
replicate-has zero x h = absurd h
replicate-has (suc n) x (inl e) = e
replicate-has (suc n) x (inr h) = replicate-has n x h

pub padded-has : (n : ℕ) (d : List ℕ) (x : ℕ) → Has x (padded n d) → Has x d ⊎ (x ≡ 0)
padded-has n d x h =
    ⊎_elim (λ a. inl a) (λ b. inr (replicate-has n x b)) (has_append x d (replicate n 0) (take-has n (d ++ replicate n 0) x h))

pub take-padded : (n : ℕ) (d : List ℕ) → length d ≤ n → take (length d) (padded n d) ≡ d
take-padded n d le = take-take (length d) n (d ++ replicate n 0) le ∙ take_at d (replicate n 0) (length d) refl

-- past the number stand zeros only
zeros_past : (n m : ℕ) (d : List ℕ) (x : ℕ) → Has x (drop (length d) (take n (d ++ replicate m 0))) → x ≡ 0
zeros_past n m [] x h = replicate-has m x (take-has n (replicate m 0) x h)
zeros_past zero m (y ∷ d) x h = absurd h
zeros_past (suc n) m (y ∷ d) x h = zeros_past n m d x h

-- ---- lines as rows
-- what the shape and the source rows give a line: a level, a label, a value of eight bytes
module _ (f : Format) (rs : List Row) (s : Shape) (l : Line)
    (level : get_or s.levels l.entry 0 ≡ length l.dewey) (fits : length l.dewey ≤ f.levels) where
  abbrev r : Row
  r = line_row f s rs l

  pub line_dewey : dewey (line_row f s rs l) ≡ l.dewey
  unfolding line_row
  line_dewey = ap (λ n. take n (padded f.levels l.dewey)) level ∙ take-padded f.levels l.dewey fits

  pub line_shaped : length (get_or (map (λ (r : Row). r.value) rs) l.source.place []) ≡ value_bytes → Shaped f (line_row f s rs l)
  unfolding line_row
  line_shaped v = (length-padded f.levels l.dewey, v)

  pub line_small : ((c : ℕ) → Has c l.dewey → Small c) → (x : ℕ) → Has x (line_row f s rs l).components → Small x
  unfolding line_row
  line_small small x h = ⊎_elim (λ i. small x i) (λ e. omega (arith, e)) (padded-has f.levels l.dewey x h)

  -- a line keeps the rules of a row's own fields
  pub line_fields : 0 < length l.dewey → between 1 (get_or s.labels l.entry 0) f.labels ≡ true → fields_kept f (line_row f s rs l) ≡ true
  unfolding line_row fields_kept
  line_fields pos lab =
      let n = get_or s.levels l.entry 0 in
      and (and (and (and (le-leb 1 n (omega arith)) (le-leb n f.levels (omega arith))) refl) lab)
      (has_all (eqb 0) (drop n (padded f.levels l.dewey)) (λ x h.
      eq-eqb 0 x (sym (zeros_past f.levels f.levels l.dewey x (subst (λ k. Has x (drop k (padded f.levels l.dewey))) level h)))))

-- rules of rows whose Dewey numbers make a chain
pub chain-rules : {A : Type 0} (f : Format) (row : A → Row) (number : A → List ℕ) (p : List ℕ) (xs : List A)
    → ((x : A) → Has x xs → (dewey (row x) ≡ number x) × (fields_kept f (row x) ≡ true)) → Chain p (map number xs) → Rules (row_kept f) dewey p (map row xs)
unfolding row_kept
chain-rules f row number p [] each c = tt
chain-rules f row number p (x ∷ xs) each c =
    let (d, k) = each x (inl refl) in (
      and k (subst (λ z. follows p z ≡ true) (sym d) c.0.1),
      subst (λ z. Rules (row_kept f) dewey z (map row xs)) (sym d) (chain-rules f row number (number x) xs (λ y h. each y (inr h)) c.1),
    )

-- ---- a table of lines over a source table
module _ (f : Format) (b : List ℕ) (s : Shape) (w : Ways s) (some : 0 < length s.ways)
    (place : (x y : Node) → Has x (nodes (rows f b)) → Has y (nodes (rows f b)) → x.place ≡ y.place → x ≡ y)
    (numbered : (x : Node) → Has x (nodes (rows f b)) → x.place < length (rows f b)) (few : length (rows f b) < entry_unit)
    (level : (e : ℕ) → e < length s.ways → (length (way s e) ≡ get_or s.levels e 0) × (length (way s e) ≤ f.levels)) where
  abbrev t : List Node
  t = nodes (rows f b)

  deep : (e : ℕ) → e < length s.ways → length (way s e) ≤ f.levels
  deep e le = (level e le).1

  abbrev pub ls : List Line
  ls = lines t s f.levels

  fits : (l : Line) → Has l ls → (l.entry < length s.ways) × In s w t l.entry l.source × (length l.dewey ≡ length (way s l.entry))
  fits = line_fits t place s w some f.levels deep

  line_level : (l : Line) → Has l ls → get_or s.levels l.entry 0 ≡ length l.dewey
  line_level l h = let (e, i, q) = fits l h in sym (q ∙ (level l.entry e).0)

  pub line_levels : (l : Line) → Has l ls → length l.dewey ≤ f.levels
  line_levels l h = let (e, i, q) = fits l h in omega (arith, q, deep l.entry e)

  -- ---- the written table keeps the row rules
  pub lines_kept : ((e : ℕ) → e < length s.ways → between 1 (get_or s.labels e 0) f.labels ≡ true)
      → bad_row f (map (line_row f s (rows f b)) ls) ≡ none
  unfolding bad_row
  lines_kept labels =
      rules-none (row_kept f) dewey 0 [] (map (line_row f s (rows f b)) ls)
      (chain-rules f (line_row f s (rows f b)) (λ (l : Line). l.dewey) [] ls each (lines_chain t place s w some f.levels deep))
    where
      each : (l : Line) → Has l ls → (dewey (line_row f s (rows f b) l) ≡ l.dewey) × (fields_kept f (line_row f s (rows f b) l) ≡ true)
      each l h =
          let (e, i, q) = fits l h in (
            line_dewey f (rows f b) s l (line_level l h) (line_levels l h),
            line_fields f (rows f b) s l (line_level l h) (line_levels l h) (omega (arith, q, way_pos s w l.entry e)) (labels l.entry e),
          )

  -- ---- reading it again
  length-span : (n : ℕ) (b : List ℕ) (i : ℕ) → length (span n b i) ≡ n
  length-span zero b i = refl
  length-span (suc n) b i = ap suc (length-span n b (suc i))

  -- a source row's value has eight bytes
  value_length : (l : Line) → Has l ls → length (get_or (map (λ (r : Row). r.value) (rows f b)) l.source.place []) ≡ value_bytes
  unfolding rows row_of
  value_length l h =
      let (e, i, q) = fits l h in
      let vs = map (λ (r : Row). r.value) (rows f b) in
      let at = get_d_has [] vs l.source.place (omega (arith, numbered l.source i.0, length-map (rows f b) (λ (r : Row). r.value))) in
      let (r, hr, er) = map-has (λ (r : Row). r.value) (get_or vs l.source.place []) (rows f b) at in
      let (x, hx, ex) = map-has (row_of f) r (records (row_bytes f) (whole (row_bytes f) b) b) hr in
      ap length (er ∙ ap (λ (r : Row). r.value) ex) ∙ length-span value_bytes x (head_bytes + list_bytes f)

  pub shaped : (l : Line) → Has l ls → Shaped f (line_row f s (rows f b) l)
  shaped l h = line_shaped f (rows f b) s l (line_level l h) (line_levels l h) (value_length l h)

  module _ (room : length ls < entry_unit) where
    small : (l : Line) → Has l ls → (x : ℕ) → Has x (line_row f s (rows f b) l).components → Small x
    small l h =
        line_small f (rows f b) s l (line_level l h) (line_levels l h)
        (λ c i. omega (arith, line_within t place s w some f.levels deep l h c i))

    rows_new : rows f (new_table f s (rows f b) ls) ≡ map (λ l. row_of f (row_back (line_row f s (rows f b) l))) ls
    unfolding new_table rows
    rows_new =
        let g : Line → List ℕ = λ l. row_back (line_row f s (rows f b) l) in
        let e : (l : Line) → Has l ls → length (g l) ≡ row_bytes f = λ l h. length-row f (line_row f s (rows f b) l) (shaped l h) in
        ap (λ n. map (row_of f) (records (row_bytes f) n (join_map g ls))) (whole_back (row_bytes f) (omega arith) g ls e)
        ∙ ap (map (row_of f)) (records_back (row_bytes f) (omega arith) g ls e) ∙ map-map (row_of f) g ls

    pub length_new : length (new_table f s (rows f b) ls) ≡ length ls * row_bytes f
    unfolding new_table
    length_new =
        length_back (row_bytes f) (omega arith) (λ l. row_back (line_row f s (rows f b) l)) ls (λ l h. length-row f (line_row f s (rows f b) l) (shaped l h))

    deweys_new : map dewey (rows f (new_table f s (rows f b) ls)) ≡ map (λ (l : Line). l.dewey) ls
    deweys_new =
        ap (map dewey) rows_new ∙ map-map dewey (λ l. row_of f (row_back (line_row f s (rows f b) l))) ls
        ∙ map_same (λ l. dewey (row_of f (row_back (line_row f s (rows f b) l)))) (λ (l : Line). l.dewey) ls (λ l h.
        dewey_back f (line_row f s (rows f b) l) (shaped l h) (small l h) ∙ line_dewey f (rows f b) s l (line_level l h) (line_levels l h))

    mark : Line → ℕ
    mark l = l.entry * entry_unit + l.source.place

    place-small : (l : Line) → Has l ls → l.source.place < entry_unit
    place-small l h = let (e, i, q) = fits l h in omega (arith, numbered l.source i.0)

    -- the new table's bytes and source list read as its lines
    pub nodes_new : new_nodes f (new_table f s (rows f b) ls) (source_list ls) ≡ line_nodes 0 ls
    unfolding new_nodes source_list mark
    nodes_new =
        ap₂ (λ ks ds. nodes_from 0 ks ds) (map-map (λ x. x / entry_unit) mark ls
        ∙ map_same (λ l. mark l / entry_unit) (λ (l : Line). l.entry) ls (λ l h. omega (arith, place-small l h))) deweys_new

    -- What the reshape's definition writes is faithful, as bytes.
    pub table_faithful : Faithful t s (new_nodes f (new_table f s (rows f b) ls) (source_list ls)) (source_row (source_list ls))
    unfolding source_row source_list mark
    table_faithful =
        subst (λ new. Faithful t s new (λ (x : Node). get_or (map mark ls) x.place 0 % entry_unit)) (sym nodes_new)
        (lines_faithful t place s w some f.levels deep mark (λ x. x % entry_unit) (λ l h. omega (arith, place-small l h)))

    -- what is read again is the lines' rows, where the labels are of 16 bits
    pub rows-again : ((e : ℕ) → e < length s.ways → Small (get_or s.labels e 0)) → rows f (new_table f s (rows f b) ls) ≡ map (line_row f s (rows f b)) ls
    unfolding line_row
    rows-again Label-small =
        rows_new ∙ map_same (λ l. row_of f (row_back (line_row f s (rows f b) l))) (line_row f s (rows f b)) ls (λ l h.
        row_back_lem f (line_row f s (rows f b) l) (shaped l h) (small l h) (Label-small l.entry (fits l h).0))

    -- and it has at most one type for each entry
    pub types-again : ((e : ℕ) → e < length s.ways → Small (get_or s.labels e 0)) → length (types (rows f (new_table f s (rows f b) ls))) ≤ length s.ways
    types-again Label-small =
        subst (λ rs. length (types rs) ≤ length s.ways) (sym (rows-again Label-small))
        (one_each f (rows f b) s w (λ e le. (level e le).0) ls (λ l h. (fits l h).0)
        (subst (λ new. Kin (λ (x : Node). x.dewey) (λ (x : Node). way s x.kind) [] [] new) nodes_new (ways-taken-over t place s w _ _ table_faithful)))
