-- What the calls answer of a widened table and a widened shape. Assumes nothing.
use Prim.Native.Nat.{ℕ, zero, suc, ◌+◌, ◌*◌, ◌%◌, ◌<◌}
use native.Mathlib.Nat.{mul-zero, mul-suc, not-suc-le-zero, le_of_suc-le-suc}
use native.Mathlib.Omega.{arith}
use mathlib.Core.Path.{◌≡◌, refl, sym, ◌∙◌, ap, ap₂, subst}
use mathlib.Core.Bool.{Bool, true, false, not}
use mathlib.Core.List.{List, [], map}
use mathlib.Core.Option.{Option, none, some}
use lib.Dec.{ltb}
use lib.ListN.{length, get_or, take, drop, length-map}
use lib.Seq.{drop-drop}
use borrow.Author.Tests.{ltb-true}
use Rattle.paper.specs.Lists.{Has, any, place, first_place, same}
use Rattle.paper.specs.Format.{Format, most_types, row_bytes, records, whole}
use Rattle.paper.specs.Tables.{Row, rows, row_part, bad_row, types}
use Rattle.paper.specs.Closeness.{nodes}
use Rattle.paper.specs.Shapes.{Entry, named, shape_over}
use Rattle.paper.specs.Adorned.{Summary, summaries_from, adorned}
use Rattle.paper.specs.Verdict.{judgement}
use Rattle.paper.specs.Calls.{Answer, refused, given, ◌>>=◌, refuse, refuse_at, Reply, reply, after, Adorning, Work, no_judgement}
use Rattle.paper.specs.Calls.{type_too_many, type_missing, tests1_3, tests1_4, tests5_6, tests5_7, tests1_7, look_up, adorning, adorn, judge_rows, judge}
use Rattle.paper.specs.Widths.{deeper, record_to, table_to, shape_to, row_to, entry_to}
use Rattle.paper.proofs.Kept.{first-same, get_d_moved}
use Rattle.paper.proofs.Tables.{rows_laid}
use Rattle.paper.proofs.Shapes.{entries_laid, each_part}
use Rattle.paper.proofs.Calls.{Past, past1_3, passed1_3, passed1_4, passed5_6, count-rows, length-records}
use Rattle.keeping.proofs.Moved.{wide-size, records-moved}
use Rattle.keeping.proofs.Widened.{same-row-types, same-types}
use Rattle.keeping.proofs.WidenedTables.{nodes-same, tests1_3_widened}
use Rattle.keeping.proofs.WidenedShapes.{named-same, shape_same, shape_widened}

-- what judging, reshaping and summarising work on, with the rows widened
abbrev pub work_to : ℕ → Work → Work
work_to n w = record { rows = map (row_to n) w.rows; nodes = w.nodes; shape = w.shape }

-- ---- 1 to 4
too_many_same : (n : ℕ) (rs : List Row) → type_too_many (map (row_to n) rs) ≡ type_too_many rs
unfolding type_too_many
too_many_same n rs =
    ap₂ {C = Option ℕ} (λ (ts ks : List (List ℕ)). elim (ltb most_types (length ts)) [ true ↦ some (place (same (get_or ts most_types [])) ks) | false ↦ none ])
    (same-types n rs) (same-row-types n rs)

module _ (f : Format) (n : ℕ) (b : List ℕ) (even : length b % row_bytes f ≡ 0) where
  abbrev wide : List ℕ
  wide = table_to f (deeper f n) b

  pub tests1_4_widened : tests1_4 (deeper f n) wide ≡ (tests1_4 f b >>= (λ rs. given (map (row_to n) rs)))
  unfolding tests1_4
  tests1_4_widened = ap (λ a. a >>= (λ rs. refuse_at 4 (type_too_many rs) >>= (λ _. given rs))) (tests1_3_widened f n b even) ∙ go (tests1_3 f b)
    where
      through : (o : Option ℕ) (rs : List Row)
          → (refuse_at 4 o >>= (λ _. given (map (row_to n) rs))) ≡ ((refuse_at 4 o >>= (λ _. given rs)) >>= (λ rs. given (map (row_to n) rs)))
      through none rs = refl
      through (some p) rs = refl

      go : (a : Answer (List Row)) → ((a >>= (λ rs. given (map (row_to n) rs))) >>= (λ rs. refuse_at 4 (type_too_many rs) >>= (λ _. given rs)))
          ≡ ((a >>= (λ rs. refuse_at 4 (type_too_many rs) >>= (λ _. given rs))) >>= (λ rs. given (map (row_to n) rs)))
      go (refused k p) = refl
      go (given rs) = ap (λ o. refuse_at 4 o >>= (λ _. given (map (row_to n) rs))) (too_many_same n rs) ∙ through (type_too_many rs) rs

  -- the nodes of what passes 1 to 4
  passed_nodes : (rs : List Row) → tests1_4 f b ≡ given rs → nodes (map (row_to n) rs) ≡ nodes rs
  passed_nodes rs h =
      let (e, sound, short) = passed1_3 f b rs (passed1_4 f b rs h) in
      subst (λ z. bad_row f z ≡ none → nodes (map (row_to n) z) ≡ nodes z) e (nodes-same f n (rows f b) (rows_laid f b)) sound

  -- ---- adorning
  adorning_widened : (lent : ℕ) → adorning (deeper f n) wide lent ≡ adorning f b lent
  unfolding adorning adorned
  adorning_widened lent = ap (λ a. a >>= fill) tests1_4_widened ∙ go (tests1_4 f b) refl
    where
      fill : List Row → Answer (List Summary)
      fill rs = let xs = adorned rs in refuse 10 (ltb lent (length xs)) >>= (λ _. given xs)

      go : (a : Answer (List Row)) → tests1_4 f b ≡ a → ((a >>= (λ rs. given (map (row_to n) rs))) >>= fill) ≡ (a >>= fill)
      go (refused k p) h = refl
      go (given rs) h =
          ap₂ (λ t ts. let xs = summaries_from t ts 0 ts in refuse 10 (ltb lent (length xs)) >>= (λ _. given xs)) (passed_nodes rs h) (same-types n rs)

  -- A WIDENED TABLE IS ADORNED as the table is.
  pub adorn_widened : (before : List Summary) → adorn (deeper f n) wide before ≡ adorn f b before
  unfolding adorn
  adorn_widened before =
      ap {B = Adorning} (λ a. record { reply = reply 0 (a >>= (λ xs. given (length xs))); summaries = after before a }) (adorning_widened (length before))

  -- ---- looking up
  part_at : (w m : ℕ) (t : List ℕ) (i : ℕ) → i < m → take w (drop (w * i) t) ≡ get_or (records w m t) i []
  part_at w zero t i lt = absurd (not-suc-le-zero lt)
  part_at w (suc m) t zero lt = ap (λ k. take w (drop k t)) (mul-zero w)
  part_at w (suc m) t (suc i) lt =
      let on : w * suc i ≡ w + w * i = omega (arith, mul-suc w i) in
      ap (take w) (ap (λ k. drop k t) on ∙ sym (drop-drop (w * i) w t)) ∙ part_at w m (drop w t) i (le_of_suc-le-suc lt)

  part_widened : (i : ℕ) → i < whole (row_bytes f) b → row_part (deeper f n) wide i ≡ record_to f (deeper f n) (row_part f b i)
  part_widened i lt =
      let w = row_bytes f in
      let v = row_bytes (deeper f n) in
      let rs = records w (whole w b) b in
      let e = records-moved f (deeper f n) w v (omega arith) (wide-size f n w v (omega arith) (omega arith)) b in
      let there : i < whole v wide =
      omega (arith, ap length e, length-records v (whole v wide) wide, length-map rs (record_to f (deeper f n)), length-records w (whole w b) b) in
      part_at v (whole v wide) wide i there ∙ ap (λ l. get_or l i []) e
      ∙ get_d_moved (record_to f (deeper f n)) rs i [] [] (omega (arith, length-records w (whole w b) b))
      ∙ ap (record_to f (deeper f n)) (sym (part_at w (whole w b) b i lt))

  -- A ROW OF A WIDENED TABLE is looked up with the same number and place, and where it is found its bytes are the row's own, widened.
  pub look_up_widened : (i : ℕ) → let there = look_up (deeper f n) wide i in let own = look_up f b i in
      (there.number ≡ own.number) × (there.place ≡ own.place) × (own.number ≡ 0 → there.rest ≡ record_to f (deeper f n) own.rest)
  unfolding look_up
  look_up_widened i =
      subst (λ a. Same (reply [] (a >>= found wide (deeper f n))) (reply [] (tests1_3 f b >>= found b f))) (sym (tests1_3_widened f n b even))
      (go (tests1_3 f b) refl (past1_3 f b))
    where
      Same : Reply (List ℕ) → Reply (List ℕ) → Type 0
      Same x y = (x.number ≡ y.number) × (x.place ≡ y.place) × (y.number ≡ 0 → x.rest ≡ record_to f (deeper f n) y.rest)

      -- the part, where the row is there
      part : Bool → List ℕ → Answer (List ℕ)
      part there p = refuse_at 11 (elim there as (λ _. Option ℕ) [ true ↦ none | false ↦ some i ]) >>= (λ _. given p)

      found : List ℕ → Format → List Row → Answer (List ℕ)
      found t h rs = part (ltb i (length rs)) (row_part h t i)

      asked : (there : Bool) → (there ≡ true → i < whole (row_bytes f) b)
          → Same (reply [] (part there (row_part (deeper f n) wide i))) (reply [] (part there (row_part f b i)))
      asked true lt = (refl, refl, λ _. part_widened i (lt refl))
      asked false lt = (refl, refl, λ z. let w : ⊥ = omega arith in absurd w)

      go : (a : Answer (List Row)) → tests1_3 f b ≡ a → Past 0 a
          → Same (reply [] ((a >>= (λ rs. given (map (row_to n) rs))) >>= found wide (deeper f n))) (reply [] (a >>= found b f))
      go (refused k p) h past = (refl, refl, λ z. let w : ⊥ = omega arith in absurd w)
      go (given rs) h past =
          subst (λ m. Same (reply [] (part (ltb i m) (row_part (deeper f n) wide i))) (reply [] (found b f rs))) (sym (length-map rs (row_to n)))
          (asked (ltb i (length rs)) (λ q. omega (arith, ltb-true i (length rs) q, count-rows f b, ap length (passed1_3 f b rs h).0)))

  -- ---- 1 to 7
  module _ (s : List ℕ) (es : List Entry) (sound : tests5_6 f s ≡ given es) where
    abbrev wider : List ℕ
    wider = shape_to f (deeper f n) s

    laid : (e : Entry) → Has e es → length e.labels ≡ f.levels
    laid e h = entries_laid f s e (subst (λ z. Has e z) (sym (passed5_6 f s es sound).0) h)

    missing_same : (rs : List Row) → type_missing (map (row_to n) rs) (map (entry_to n) es) ≡ type_missing rs es
    unfolding type_missing
    missing_same rs =
        let (e, kept, pos, few) = passed5_6 f s es sound in
        ap (λ ts. first_place (λ e. not (any (same (named e)) ts)) (map (entry_to n) es)) (same-types n rs)
        ∙ first-same (λ e. not (any (same (named e)) (types rs))) (λ e. not (any (same (named e)) (types rs))) (entry_to n) es (λ x h.
        ap (λ k. not (any (same k) (types rs))) (named-same f n x (laid x h) (each_part f es kept x h).1.size.1))

    -- A WIDENED TABLE AND SHAPE are refused alike by 1 to 7, or give the same nodes and the same shape, with the same rows, widened.
    pub work_widened : tests1_7 (deeper f n) wide wider ≡ (tests1_7 f b s >>= (λ w. given (work_to n w)))
    unfolding tests5_7
    work_widened = ap (λ a. a >>= next wider (deeper f n)) tests1_4_widened ∙ go (tests1_4 f b) refl
      where
        own : List Row → List Entry → Work
        own rs es = record { rows = rs; nodes = nodes rs; shape = shape_over (types rs) es }

        checked : Option ℕ → Work → Answer Work
        checked o w = refuse_at 7 o >>= (λ _. given w)

        next : List ℕ → Format → List Row → Answer Work
        next t h rs = tests5_6 h t >>= (λ es. checked (type_missing rs es) (own rs es))

        through : (o : Option ℕ) (w : Work) → checked o (work_to n w) ≡ (checked o w >>= (λ w. given (work_to n w)))
        through none w = refl
        through (some p) w = refl

        same_work : (rs : List Row) → tests1_4 f b ≡ given rs → own (map (row_to n) rs) (map (entry_to n) es) ≡ work_to n (own rs es)
        same_work rs h =
            ap₂ {C = Work} (λ t s. record { rows = map (row_to n) rs; nodes = t; shape = s }) (passed_nodes rs h)
            (ap (λ ts. shape_over ts (map (entry_to n) es)) (same-types n rs) ∙ shape_same f n es laid (passed5_6 f s es sound).1 (types rs))

        go : (a : Answer (List Row)) → tests1_4 f b ≡ a
            → ((a >>= (λ rs. given (map (row_to n) rs))) >>= next wider (deeper f n)) ≡ ((a >>= next s f) >>= (λ w. given (work_to n w)))
        go (refused k p) h = refl
        go (given rs) h =
            let after : List Row → Answer (List Entry) → Answer Work = λ rs a. a >>= (λ es. checked (type_missing rs es) (own rs es)) in
            ap (after (map (row_to n) rs)) (shape_widened f n s es sound) ∙ ap₂ checked (missing_same rs) (same_work rs h)
            ∙ through (type_missing rs es) (own rs es) ∙ ap (λ a. after rs a >>= (λ w. given (work_to n w))) (sym sound)

    -- THEY ARE JUDGED as the table and the shape are: the same verdict, second answer and numbers of each edge, or the same refusal.
    pub judge_widened : judge (deeper f n) wide wider ≡ judge f b s
    unfolding judge judge_rows
    judge_widened = ap (λ a. reply no_judgement (a >>= (λ (w : Work). given (judgement w.nodes w.shape)))) work_widened ∙ go (tests1_7 f b s)
      where
        go : (a : Answer Work) → reply no_judgement ((a >>= (λ w. given (work_to n w))) >>= (λ (w : Work). given (judgement w.nodes w.shape)))
            ≡ reply no_judgement (a >>= (λ (w : Work). given (judgement w.nodes w.shape)))
        go (refused k p) = refl
        go (given w) = refl
