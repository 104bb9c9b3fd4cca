-- A text, walked to a place: the entries so far, and what the tokens from there on say of the text. Assumes nothing.
use Prim.Native.Nat.{ℕ, suc, pred, ◌+◌, ◌-◌, ◌≤◌, ◌<◌}
use native.Mathlib.Numerals.{add-one}
use native.Mathlib.Omega.{arith}
use mathlib.Core.Path.{◌≡◌, refl, sym, ◌∙◌, ap, subst}
use mathlib.Core.Bool.{Bool, true, false}
use mathlib.Core.Option.{none}
use mathlib.Core.List.{List, [], ◌∷◌, ◌++◌, map, append-nil}
use borrow.Author.Tests.{le-ltb}
use lib.ListN.{length, get_or, take, drop, set, length-set, length-map, length-append}
use lib.Seq.{take-nil}
use Rattle.std.specs.Prelude.{Result, Ok, Err}
use Rattle.paper.specs.Format.{Format, most_entries}
use Rattle.paper.specs.declared.refusal.Refusal.{Refusal}
use Rattle.paper.specs.declared.refusal.Refusal.TheVariants.{NoTree}
use Rattle.paper.specs.Calls.{Answer, refused, given}
use Rattle.paper.proofs.Lists.{map_append}
use Rattle.grammar.specs.Text.{space}
use Rattle.grammar.specs.Grammar.{opening, closing, word, open_byte, close_byte, plain, run, token_at, Placed, tokens_from}
use Rattle.grammar.specs.Typed.{Wanted, most_text}
use Rattle.grammar.specs.Reader.{first, behind_name, behind_open, behind_close, may_name, may_open, may_close, may_end, wrong, walk, said_of, name_of_word}
use Rattle.typed.specs.Matching.{sole_number, Listed}
use Rattle.typed.specs.Walk.{stage_of, may_stand, levels_of, numbers_of, Kept, Asks, Walks}
use Rattle.typed.specs.declared.walk.Walked.{Walked}
use Rattle.typed.proofs.Left.{tokens_of, left, space_left, open_left, close_left, word_left, token_left, end_left}
use Rattle.typed.proofs.Left.{walk_open, walk_close, walk-word, walk_no_name, walk-stop, walk_end, walk_early}
use Rattle.typed.proofs.Left.{said_behind, behind_on, with_on, said_all}

-- ---- what a list of fixed length keeps
-- It keeps the first values, so many as it has places, and one more value is put at its place, if there is one.
kept_more : (l vs : List ℕ) (v : ℕ) → take (length vs) l ≡ take (length l) vs
    → take (suc (length vs)) (set l (length vs) v) ≡ take (length l) (vs ++ (v ∷ []))
kept_more [] vs v e = refl
kept_more (x ∷ l) [] v e = ap {B = List ℕ} (λ r. v ∷ r) (sym (take-nil (length l)))
kept_more (x ∷ l) (y ∷ vs) v e = λ i. get_or (e i) 0 0 ∷ kept_more l vs v (ap (drop 1) e) i

-- the same, where the values are a figure of entries
kept_entry : (h : Wanted → ℕ) (l l' : List ℕ) (es : List Wanted) (n : ℕ) (e : Wanted) → n ≡ length es → l' ≡ set l n (h e)
    → take n l ≡ take (length l) (map h es) → take (n + 1) l' ≡ take (length l') (map h (es ++ (e ∷ [])))
kept_entry h l l' es n e many put kept =
    let vs = map h es in
    let many' : n ≡ length vs = many ∙ sym (length-map es h) in
    let next : n + 1 ≡ suc (length vs) = add-one n ∙ ap suc many' in
    let put' : l' ≡ set l (length vs) (h e) = put ∙ ap (λ m. set l m (h e)) many' in
    let long : length l ≡ length l' = sym (ap length put ∙ length-set l n (h e)) in
    (λ i. take (next i) (put' i)) ∙ kept_more l vs (h e) (subst (λ m. take m l ≡ take (length l) vs) many' kept)
    ∙ (λ i. take (long i) (sym (map_append h es (e ∷ [])) i))

-- Right so far: the entries are so many, with their levels and types kept, and from place p on the tokens say what is said of the text.
pub record Going (f : Format) (text parents labels : List ℕ) (count : ℕ) (w : Walked) (stage depth p : ℕ) : Type 0 where
  so_far : List Wanted
  counted : w.entries ≡ length so_far
  levels_kept : take w.entries w.levels ≡ take (length w.levels) (levels_of so_far)
  types_kept : (ts : List (List ℕ)) → Listed ts parents labels count → take w.entries w.types ≡ take (length w.types) (numbers_of ts so_far)
  onward : said_of f text ≡ said_behind text so_far (left text p) (walk f (stage_of stage) depth (tokens_of (left text p)))

module _ (f : Format) (text parents labels : List ℕ) (count : ℕ) where
  pub going_start : (w : Walked) → w.entries ≡ 0 → length text ≤ most_text → Going f text parents labels count w 0 0 0
  unfolding said_of
  going_start w nothing short = record {
    so_far = [];
    counted = nothing;
    levels_kept = ap (λ n. take n w.levels) nothing ∙ sym (take-nil (length w.levels));
    types_kept = λ ts listed. ap (λ n. take n w.types) nothing ∙ sym (take-nil (length w.types));
    onward = rw (le-ltb most_text (length text) short, said_of) (said_all text (walk f first 0 (tokens_of (tokens_from space 0 text))));
  }

  module _ (w : Walked) (stage depth p : ℕ) (g : Going f text parents labels count w stage depth p) where
    -- what the tokens left say, if they are these
    said-by : (ps : List Placed) → left text p ≡ ps → said_of f text ≡ said_behind text g.so_far ps (walk f (stage_of stage) depth (tokens_of ps))
    said-by ps e = g.onward ∙ ap (λ ps. said_behind text g.so_far ps (walk f (stage_of stage) depth (tokens_of ps))) e

    -- what is said where the walk stops at the first of them
    said-stop : (x : Placed) (ps : List Placed) → left text p ≡ x ∷ ps → walk f (stage_of stage) depth (x.token ∷ tokens_of ps) ≡ wrong 0
        → said_of f text ≡ refused 12 x.at
    said-stop x ps e stop = said-by (x ∷ ps) e ∙ ap (said_behind text g.so_far (x ∷ ps)) stop

    -- no entry more
    going_to : (stage' depth' p' : ℕ)
        → said_of f text ≡ said_behind text g.so_far (left text p') (walk f (stage_of stage') depth' (tokens_of (left text p')))
        → Going f text parents labels count w stage' depth' p'
    going_to stage' depth' p' said = record {
      so_far = g.so_far;
      counted = g.counted;
      levels_kept = g.levels_kept;
      types_kept = g.types_kept;
      onward = said;
    }

    module _ (lt : p < length text) where
      pub going_space : get_or text p 0 ≡ space → Going f text parents labels count w stage depth (p + 1)
      going_space e = going_to stage depth (p + 1) (said-by (left text (p + 1)) (space_left text p lt e ∙ ap (left text) (sym (add-one p))))

      pub going_open : get_or text p 0 ≡ open_byte → may_open (stage_of stage) ≡ true
          → Going f text parents labels count w 2 (depth + 1) (p + 1)
      going_open e may =
          let x : Placed = record { at = p; token = opening } in
          let ps = left text (suc p) in
          going_to 2 (depth + 1) (p + 1)
          (rw (add-one depth, add-one p)
          (said-by (x ∷ ps) (open_left text p lt e)
          ∙ ap (said_behind text g.so_far (x ∷ ps)) (walk_open f (stage_of stage) depth (tokens_of ps) may)
          ∙ behind_on text g.so_far x ps (walk f behind_open (suc depth) (tokens_of ps))))

      pub going_close : get_or text p 0 ≡ close_byte → may_close (stage_of stage) depth ≡ true
          → Going f text parents labels count w 3 (depth - 1) (p + 1)
      going_close e may =
          let x : Placed = record { at = p; token = closing } in
          let ps = left text (suc p) in
          let less : depth - 1 ≡ pred depth = omega arith in
          going_to 3 (depth - 1) (p + 1)
          (rw (less, add-one p)
          (said-by (x ∷ ps) (close_left text p lt e)
          ∙ ap (said_behind text g.so_far (x ∷ ps)) (walk_close f (stage_of stage) depth (tokens_of ps) may)
          ∙ behind_on text g.so_far x ps (walk f behind_close (pred depth) (tokens_of ps))))

      -- a token that may not stand there
      pub going_stop : (get_or text p 0 ≡ space → ⊥) → may_stand (get_or text p 0) (stage_of stage) depth ≡ false → said_of f text ≡ refused 12 p
      going_stop ne may =
          let b = get_or text p 0 in
          let bs = drop (suc p) text in
          let ps = tokens_from b (suc p) bs in
          said-stop (record { at = p; token = token_at b bs }) ps (token_left text p lt ne) (walk-stop f (stage_of stage) depth (tokens_of ps) b bs may)

      module _ (is_IsWord : plain (get_or text p 0) ≡ true) (may : may_name (stage_of stage) depth ≡ true) where
        module _ (bs : List ℕ) (same : bs ≡ run (drop p text)) where
          -- the word spells no name
          pub word-stop : name_of_word f bs ≡ none → said_of f text ≡ refused 12 p
          word-stop e =
              let ps = left text (p + length (run (drop p text))) in
              said-stop (record { at = p; token = word bs }) ps
              (word_left text p lt is_IsWord ∙ ap (λ bs. record { at = p; token = word bs } ∷ ps) (sym same))
              (walk_no_name f (stage_of stage) depth (tokens_of ps) bs may e)

          -- one entry more
          module _ (w' : Walked) (kept : Kept f bs depth parents labels count w w') (p' : ℕ) (ends : p' ≡ p + length (run (drop p text))) where
            abbrev es : List Wanted
            es = g.so_far

            abbrev entry : Wanted
            entry = record { level = suc depth; name = kept.name }

            said-word : said_of f text ≡ said_behind text (es ++ (entry ∷ [])) (left text p') (walk f behind_name depth (tokens_of (left text p')))
            said-word =
                let x : Placed = record { at = p; token = word bs } in
                let ps = left text p' in
                said-by (x ∷ ps) (word_left text p lt is_IsWord ∙ λ i. record { at = p; token = word (sym same i) } ∷ left text (sym ends i))
                ∙ ap (said_behind text es (x ∷ ps)) (walk-word f (stage_of stage) depth (tokens_of ps) bs kept.name may kept.spells_one)
                ∙ with_on text es x ps entry (walk f behind_name depth (tokens_of ps))

            pub going_word : Going f text parents labels count w' 1 depth p'
            going_word =
                let more = kept.one_more in
                record {
                  so_far = es ++ (entry ∷ []);
                  counted = omega (arith, more, g.counted, length-append es (entry ∷ []));
                  levels_kept = ap (λ n. take n w'.levels) more
                      ∙ kept_entry (λ (e : Wanted). e.level) w.levels w'.levels es w.entries entry g.counted
                      kept.level_put g.levels_kept;
                  types_kept = λ ts listed. ap (λ n. take n w'.types) more
                      ∙ kept_entry (λ (e : Wanted). sole_number ts e.name) w.types w'.types es w.entries entry g.counted
                      (kept.type_put ts listed) (g.types_kept ts listed);
                  onward = said-word;
                }

    -- the text ends
    module _ (le : length text ≤ p) (long : length w.levels ≡ most_entries) (long' : length w.types ≡ most_entries) where
      asks : may_end (stage_of stage) depth ≡ true → Asks f text parents labels count w
      asks may = record {
        entries = g.so_far;
        asked =
            said-by [] (end_left text p le) ∙ ap (said_behind text g.so_far []) (walk_end f (stage_of stage) depth may)
            ∙ ap {B = Answer (List Wanted)} given (append-nil g.so_far);
        count-is = g.counted;
        levels_are = g.levels_kept ∙ ap (λ m. take m (levels_of g.so_far)) long;
        types_are = λ ts listed. g.types_kept ts listed ∙ ap (λ m. take m (numbers_of ts g.so_far)) long';
      }

      pub walks_ended : p ≤ length text → (r : Result Walked Refusal)
          → ((may_end (stage_of stage) depth ≡ true → r ≡ Ok w) × (may_end (stage_of stage) depth ≡ false → r ≡ Err (NoTree p))) → Walks f text parents labels count r
      walks_ended within r (whole, early) = go (may_end (stage_of stage) depth) refl
        where
          go : (t : Bool) → may_end (stage_of stage) depth ≡ t → Walks f text parents labels count r
          go true e = subst (Walks f text parents labels count) (sym (whole e)) (asks e)
          go false e =
              let at_end : length text ≡ p = omega (arith, le, within) in
              subst (Walks f text parents labels count) (sym (early e))
              (said-by [] (end_left text p le) ∙ ap (said_behind text g.so_far []) (walk_early f (stage_of stage) depth e) ∙ ap (refused 12) at_end)
