-- What the walks over a `Reader` share: how a width, a table and a place, and a reader, go to a call, and what is kept beside it. All are Copy, so what they
-- own is had twice.
--     width_is, width_typed       a width is what its machine value says, and that value is of its type
--     reader, onward, made_is     the reader of a width, a table and a place; the one a row on; and a reader with these fields is that one
--     Asks-table, Asks-reader     what a call asks that takes a width, a table and a place, or a reader
--     apart       a reader is taken apart for a call on its width, its table and its place, and kept
--     lent        a width, a table and a place go to a call, and the table is kept
--     passed      a reader that a call returned goes to the next call
--     make_said, row-said     what is known of a result of `make` and of `row`
-- Assumes `Logic`.
use mathlib.Core.Path.{◌≡◌, refl}
use Prim.Native.Nat.{ℕ, ◌<◌, ◌^◌}
use mathlib.Core.List.{List, [], ◌∷◌}
use lib.Dec.{T as Holds}
use lib.ListN.{length}
use seplogic.Ra.Ura.{Ura}
use mir.Syntax.{named, w8, w64}
use mir.Val.{Val, WT, has_ty, vint}
use base.Logic.{SProp, ent, sep, emp, snd∗, ex_e}
use base.Fml.{Lft, Share, Fml, ftrue, flft}
use prog.Memory.{Memory}
use prog.Routine.{Routine}
use types.Logic.{Logic, sem}
use contract.Monad.{Fun, fact}
use types.Kit.{‵, raw, ◌⊛◌, given, ⋆, ◌$◌, ◌∵◌, !, qed, move, drop, use1, use2, split, join, learn, fsplit, fjoin, frame, done}
use denote.RattleType.{owns}
use denote.Laws.{Is}
use denote.Plain.{uint_Makes, uint_row_laws}
use denote.Builtin.{u8, usize}
use denote.Enum.Laws as EL
use denote.Ref.{Bor}
use denote.Signature.{named_lft}
use denote.Slice.{slice_val, ShrSlice, shr_slice_copy}
use denote.Steps.{owned, nothing}
use denote.Struct.Declared.{Declared}
use denote.Struct.Laws as LL
use denote.Struct.Rest.{all_own, field_own, rest, own_open, own_out}
use denote.Struct.Values.{Values}
use denote.Triple.Clauses.{ensured, lasts}
use Rattle.paper.specs.Widths.{format_of}
use Rattle.paper.specs.Calls.{reader_next}
use Rattle.paper.specs.declared.Width.{Width}
use Rattle.paper.specs.declared.Width.TheVariants.{Six, Eight}
use Rattle.paper.specs.contracts.Width as E
use Rattle.paper.proofs.Width.TheLaws as E'
use Rattle.reading.specs.Handed.{Handed}
use Rattle.reading.specs.declared.reader.Reader.{Reader}
use Rattle.reading.specs.contracts.reader.Reader as T
use Rattle.reading.proofs.reader.Reader.TheLaws as T'
use Rattle.reading.specs.contracts.reader.make as make
use Rattle.reading.specs.contracts.reader.next as next
use Rattle.reading.specs.contracts.reader.row as row

-- the machine value of a width: one for either, so that no walk goes by cases on it
abbrev pub tag : Width → Val
tag w = EL.val E.the_type E'.the_laws w

-- a width owns nothing but this
pub width_is : (w : Width) → Is E.the_row w (tag w ∷ [])
width_is Six = EL.owes E.the_type E'.the_laws Six tt
width_is Eight = EL.owes E.the_type E'.the_laws Eight tt

-- the struct's type and laws, its fields' values, and its machine value
abbrev pub D : Lft → Declared
D κ = T.the_type (named_lft 1 0 tt (κ, tt))

abbrev pub L : (κ : Lft) → LL.Laws (D κ)
L κ = T'.the_laws (named_lft 1 0 tt (κ, tt))

abbrev pub fields : (κ : Lft) → Reader → Values (D κ).parts
fields κ d = (d.table, (d.at, (d.width, tt)))

abbrev pub word : Lft → Reader → Val
word κ d = LL.val (D κ) (L κ) d

-- the machine value of a table
abbrev pub cell : Bor (List ℕ) → Val
cell s = slice_val s.ref_ptr (length s.now)

-- what a table owns, and what a reader owns with the machine value u
abbrev pub Table : Lft → Bor (List ℕ) → Fml
Table κ s = (ShrSlice (named 0) κ u8).own_val s (cell s ∷ [])

abbrev pub Held : Lft → Reader → Val → Fml
Held κ d u = (T.the_row (named_lft 1 0 tt (κ, tt))).own_val d (u ∷ [])

-- the same, as the arguments of a call: a width, a table and a place, and a reader
abbrev pub Arg-table : Lft → Width → Bor (List ℕ) → ℕ → Fml
Arg-table κ w s n = owns (E.the_row ∷ ShrSlice (named 0) κ u8 ∷ usize ∷ []) (w, (s, (n, tt))) (tag w ∷ [], (cell s ∷ [], (vint w64 n ∷ [], tt)))

abbrev pub Arg-reader : Lft → Reader → Val → Fml
Arg-reader κ d u = owns (T.the_row (named_lft 1 0 tt (κ, tt)) ∷ []) (d, tt) (u ∷ [], tt)

module _ {M : Type 1} {𝓤 : Ura M} (𝓛 : Logic 𝓤) where
  pub width_typed : (w : Width) → Holds (has_ty E'.mir (tag w)) × WT (tag w)
  width_typed w = ((EL.lawful E.the_type E'.the_laws 𝓛 tt).typed w (tag w ∷ []) (width_is w)).0

module _ {M : Type 1} {𝓤 : Ura M} (𝓛 : Logic 𝓤) (κ : Lft) (q : Share) where
  -- the lifetime's token beside what is passed
  open 𝓛 use {A}

  abbrev pub With : Fml → SProp 𝓤
  With P = sep 𝓤 (sep 𝓤 (A.lft κ q) (emp 𝓤)) (sem 𝓛 P)

  abbrev pub Asks-table : Width → Bor (List ℕ) → ℕ → SProp 𝓤
  Asks-table w s n = sep 𝓤 (With (Arg-table κ w s n)) (emp 𝓤)

  abbrev pub Asks-reader : Reader → Val → SProp 𝓤
  Asks-reader d u = sep 𝓤 (With (Arg-reader κ d u)) (emp 𝓤)

  module _ where
    asked : (P : Fml) → ent 𝓤 (With P) (sep 𝓤 (With P) (emp 𝓤))
    asked P = qed 𝓛 ((‵ (flft κ q) ⊛ ‵ ftrue) ∷ ‵ P ∷ []) ∵ join ! $ frame ! $ done !

    pub apart : (d : Reader) → d.at < 2 ^ 64 → ent 𝓤 (With (Arg-reader κ d (word κ d))) (sep 𝓤 (Asks-table d.width d.table d.at) (sem 𝓛 (Held κ d (word κ d))))
    apart d fits =
        qed 𝓛 ((‵ (flft κ q) ⊛ ‵ ftrue) ∷ ‵ (Arg-reader κ d (word κ d)) ∷ []) ∵
        move ! (1 ∷ []) $ fsplit ! $ move ! (1 ∷ []) $ drop ! $ use1 𝓛 (‵ (Held κ d (word κ d)) ⊛ ‵ (Held κ d (word κ d))) ((LL.copy (D κ) (T'.the_copy (named_lft 1 0 tt (κ, tt))) 𝓛).twice d (word κ d ∷ [])) $ split ! $
        use1 𝓛 (given (word κ d ∷ [] ≡ word κ d ∷ []) (‵ (all_own (D κ).parts (L κ) (fields κ d)))) (own_open 𝓛 (D κ) (L κ) (fields κ d) (word κ d)) $ learn ! (λ _.
        use1 𝓛 (‵ (field_own (D κ).parts (L κ) 0 d.table) ⊛ ‵ (rest (D κ).parts (L κ) 0 (fields κ d))) (own_out 𝓛 (D κ).parts (L κ) 0 (fields κ d)) $ split ! $
        -- [what the table owns; what the place and the width own; what the struct owns; the token]
        move ! (1 ∷ []) $ drop ! $ nothing ! $ owned ! usize (Is usize) (uint_Makes 𝓛 w64) d.at _ (refl, fits) $ fjoin ! $ move ! (1 ∷ 0 ∷ []) $ fjoin ! $
        owned ! E.the_row (Is E.the_row) (EL.makes E.the_type E'.the_plain 𝓛) d.width _ (width_is d.width) $ fjoin ! $
        move ! (2 ∷ 0 ∷ []) $ use2 𝓛 (raw (Asks-table d.width d.table d.at)) (asked (Arg-table κ d.width d.table d.at)) $ frame ! $ done !)

    pub lent : (w : Width) (s : Bor (List ℕ)) (n : ℕ) → ent 𝓤 (With (Arg-table κ w s n)) (sep 𝓤 (Asks-table w s n) (sem 𝓛 (Table κ s)))
    lent w s n =
        qed 𝓛 ((‵ (flft κ q) ⊛ ‵ ftrue) ∷ ‵ (Arg-table κ w s n) ∷ []) ∵
        move ! (1 ∷ []) $ fsplit ! $ move ! (1 ∷ []) $ fsplit ! $ use1 𝓛 (‵ (Table κ s) ⊛ ‵ (Table κ s)) ((shr_slice_copy 𝓛 (named 0) κ u8 (uint_row_laws w8)).twice s (cell s ∷ [])) $ split ! $
        -- [what the table owns; the same; what the place owns; what the width owns; the token]
        move ! (0 ∷ 2 ∷ []) $ fjoin ! $ move ! (2 ∷ 0 ∷ []) $ fjoin ! $
        move ! (2 ∷ 0 ∷ []) $ use2 𝓛 (raw (Asks-table w s n)) (asked (Arg-table κ w s n)) $ frame ! $ done !

    pub passed : (d : Reader) (u : Val) → ent 𝓤 (⋆ 𝓛 (‵ (Held κ d u) ∷ (‵ (flft κ q) ⊛ ‵ ftrue) ∷ [])) (Asks-reader d u)
    passed d u = qed 𝓛 (‵ (Held κ d u) ∷ (‵ (flft κ q) ⊛ ‵ ftrue) ∷ []) ∵ nothing ! $ move ! (1 ∷ 0 ∷ []) $ fjoin ! $ move ! (1 ∷ 0 ∷ []) $ join ! $ frame ! $ done !

-- the reader of a width, a table and a place, and the reader one row on
abbrev pub reader : Width → Bor (List ℕ) → ℕ → Reader
reader w s n = record { table = s; at = n; width = w }

abbrev pub onward : Reader → Reader
onward r = reader r.width r.table (reader_next (format_of r.width) r.table.now r.at)

-- what `make` says of its result
abbrev pub Made : Width → Bor (List ℕ) → ℕ → Reader → Type 0
Made w s n r = (r.table ≡ s) × (r.at ≡ n) × (r.width ≡ w)

pub made_is : (w : Width) (s : Bor (List ℕ)) (n : ℕ) (r : Reader) → Made w s n r → r ≡ reader w s n
made_is w s n r e = λ i. record { table = e.0 i; at = e.1 i; width = e.2 i }

-- what `next` says of its result: the reader one row on
abbrev pub On : Reader → Reader → Type 0
On r = Made r.width r.table (onward r).at

-- what `row` says of its result
abbrev pub Found : Reader → Bor (List ℕ) → Type 0
Found r = Handed (format_of r.width) r.table r.at

module _ {M : Type 1} {𝓤 : Ura M} (𝓛 : Logic 𝓤) (mem : Memory → SProp 𝓤) (run : Routine → Fun 𝓤) (κ : Lft) where
  -- a callee has no `&mut`, so what is said of last values is dropped
  pub make_said : (w : Width) (s : Bor (List ℕ)) (n : ℕ) (r : Reader) → ent 𝓤 (ensured 𝓛 make.ended (make.clauses 𝓛 mem run) (κ, tt) (w, (s, (n, tt))) tt r) (fact 𝓤 (Made w s n r))
  make_said w s n r = ex_e 𝓤 _ (λ ws. snd∗ 𝓤 (sem 𝓛 (lasts make.ended (κ, tt) (w, (s, (n, tt))) ws)) (fact 𝓤 (Made w s n r)))

  pub next_said : (r p : Reader) → ent 𝓤 (ensured 𝓛 next.ended (next.clauses 𝓛 mem run) (κ, tt) (r, tt) tt p) (fact 𝓤 (On r p))
  next_said r p = ex_e 𝓤 _ (λ ws. snd∗ 𝓤 (sem 𝓛 (lasts next.ended (κ, tt) (r, tt) ws)) (fact 𝓤 (On r p)))

  pub row-said : (r : Reader) (t : Bor (List ℕ)) → ent 𝓤 (ensured 𝓛 row.ended (row.clauses 𝓛 mem run) (κ, tt) (r, tt) tt t) (fact 𝓤 (Found r t))
  row-said r t = ex_e 𝓤 _ (λ ws. snd∗ 𝓤 (sem 𝓛 (lasts row.ended (κ, tt) (r, tt) ws)) (fact 𝓤 (Found r t)))
