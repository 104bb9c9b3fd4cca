-- The refusals of printing one by one, and what it writes. Assumes nothing.
use Prim.Native.Nat.{ℕ, ◌≤◌, ◌<◌}
use native.Mathlib.Omega.{arith}
use mathlib.Core.Path.{◌≡◌, sym, ◌∙◌, ap, ap₂}
use mathlib.Core.Bool.{Bool, true, false}
use mathlib.Core.List.{List, map}
use lib.Dec.{ltb}
use lib.ListN.{length, take, drop}
use lib.Seq.{sets, take-append_seam}
use borrow.Author.Tests.{lt-ltb, le-ltb}
use Rattle.paper.specs.Format.{Format}
use Rattle.paper.specs.Shapes.{Entry, entries}
use Rattle.paper.specs.Calls.{Answer, refused, given, ◌>>=◌, refuse, Reply, reply, after, tests5_6}
use Rattle.octets.proofs.Writing.{front_written}
use Rattle.grammar.specs.Typed.{whole_path, line_of, printing, print_tree}
use Rattle.names.specs.Put.{Put}
use Rattle.names.proofs.Putting.{as_long}
use Rattle.spelling.specs.Line.{shape_line}
use Rattle.spelling.specs.Printed.{Prints}

-- What fits the buffer before fits it afterwards.
pub still_fits : {l l' text : List ℕ} {n : ℕ} → Put l 0 text l' n → n ≤ length l → n ≤ length l'
still_fits put fits = omega (arith, as_long put, fits)

-- What is put at the front of a buffer in which it has room stands there.
pub front_is : {l l' text : List ℕ} {n : ℕ} → Put l 0 text l' n → n ≤ length l → (n ≡ length text) × (take n l' ≡ text)
front_is {l} {l'} {text} {n} put fits =
    let long : n ≡ length text = omega (arith, put.ends) in (
      long,
      ap₂ take long (put.written ∙ front_written l text (omega (arith, long, fits))) ∙ take-append_seam text (drop (length text) l),
    )

module _ (f : Format) (s lent : List ℕ) where
  -- ---- from an answer to what is told and left
  abbrev replied : Answer (List ℕ) → Reply ℕ
  replied a = reply 0 (a >>= (λ (x : List ℕ). given (length x)))

  answered : (a : Answer (List ℕ)) → printing f s (length lent) ≡ a → (replied a ≡ (print_tree f s lent).reply) × (after lent a ≡ (print_tree f s lent).text)
  unfolding print_tree
  answered a e = (sym (ap replied e), sym (ap (after lent) e))

  -- ---- in order
  abbrev line_tested : Bool → List ℕ → Answer (List ℕ)
  line_tested short line = refuse 29 short >>= (λ _. given line)

  abbrev follows : List Entry → Answer (List ℕ)
  follows es = let line = line_of (map whole_path es) in line_tested (ltb (length lent) (length line)) line

  in_order_lem : (x : Answer (List Entry)) → tests5_6 f s ≡ x → printing f s (length lent) ≡ x >>= follows
  unfolding printing
  in_order_lem x e = ap (λ (y : Answer (List Entry)). y >>= follows) e

  pub shape-refused : (k p : ℕ) → tests5_6 f s ≡ refused k p → Prints (print_tree f s lent) (record { number = k; place = p; rest = 0 }) lent
  shape-refused k p e = answered (refused k p) (in_order_lem (refused k p) e)

  module _ (passes : tests5_6 f s ≡ given (entries f s)) (n : ℕ) (long : n ≡ length (shape_line f s)) where
    tested : (short : Bool) → ltb (length lent) (length (shape_line f s)) ≡ short → printing f s (length lent) ≡ line_tested short (shape_line f s)
    tested short e = in_order_lem (given (entries f s)) passes ∙ ap (λ b. line_tested b (shape_line f s)) e

    pub too_short_lem : length lent < n → Prints (print_tree f s lent) (record { number = 29; place = 0; rest = 0 }) lent
    too_short_lem lt = answered (refused 29 0) (tested true (lt-ltb (length lent) (length (shape_line f s)) (omega (arith, lt, long))))

    pub printed : n ≤ length lent → (text : List ℕ) → text ≡ sets lent 0 (shape_line f s)
        → Prints (print_tree f s lent) (record { number = 0; place = 0; rest = n }) text
    printed fits text e =
        let room : length (shape_line f s) ≤ length lent = omega (arith, fits, long) in
        let (told, left) = answered (given (shape_line f s)) (tested false (le-ltb (length lent) (length (shape_line f s)) room)) in
        (ap (λ k. record { number = 0; place = 0; rest = k }) long ∙ told, e ∙ front_written lent (shape_line f s) room ∙ left)
