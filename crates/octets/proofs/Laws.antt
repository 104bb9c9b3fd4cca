-- Laws of words and records, over any width. Assumes nothing.
use Prim.Native.Nat.{ℕ, suc, ◌+◌, ◌*◌, ◌≤◌, ◌<◌}
use native.Mathlib.Nat.{mul-le-mul_left, mul-add, mul-one}
use native.Mathlib.Numerals.{add-one}
use native.Mathlib.Omega.{arith}
use mathlib.Core.Path.{◌≡◌, sym, ap, subst}
use mathlib.Core.List.{List}
use lib.Dec.{lit≤}
use lib.ListN.{length, get_or, take, drop, length-take, length-drop}
use Rattle.paper.specs.Format.{Format, base, eight, word, number, span}
use Rattle.paper.specs.Widths.{format_of}
use Rattle.paper.specs.declared.Width.{Width}
use Rattle.paper.specs.declared.Width.TheVariants.{Six, Eight}
use Rattle.octets.specs.Served.{Served}

-- two bytes, the low one first
pub word_bytes : (b : List ℕ) (i lo hi : ℕ) → lo ≡ get_or b i 0 → hi ≡ get_or b (i + 1) 0 → lo + 256 * hi ≡ word b i
word_bytes b i lo hi el eh =
    let e : get_or b (i + 1) 0 ≡ get_or b (suc i) 0 = ap (λ n. get_or b n 0) (add-one i) in
    omega (arith, e)

-- eight bytes as four words, the low one first
pub four_words : (b : List ℕ) (i : ℕ) → number (span 8 b i) ≡ (word b i + 65536 * word b (i + 2)) + 4294967296 * (word b (i + 4) + 65536 * word b (i + 6))
four_words b i =
    let e : (n m : ℕ) → m ≡ i + n → word b m ≡ word b (i + n) = λ n m h. ap (word b) h in
    omega (arith, e 2 (suc (suc i)) (omega arith), e 4 (suc (suc (suc (suc i)))) (omega arith), e 6 (suc (suc (suc (suc (suc (suc i)))))) (omega arith))

pub record_length : (t : List ℕ) (w i : ℕ) → w * i + w ≤ length t → length (take w (drop (w * i) t)) ≡ w
record_length t w i h = simp (length-take, length-drop) (omega arith)

-- a record below the count lies within the table
pub record_in : (w i n l : ℕ) → i < n → w * n ≤ l → w * i + w ≤ l
record_in w i n l h f = let e : w * (i + 1) ≤ w * n = mul-le-mul_left w (omega arith) in omega (arith, simp (mul-add, mul-one) at e)

-- both widths are served
width_served : (w : Width) → Served (format_of w)
unfolding base eight
width_served Six = record { deep = lit≤ tt; shallow = lit≤ tt; small = lit≤ tt }
width_served Eight = record { deep = lit≤ tt; shallow = lit≤ tt; small = lit≤ tt }

-- so is the format that a width names
pub format_served : (f : Format) (w : Width) → f ≡ format_of w → Served f
format_served f w e = subst (λ (g : Format). Served g) (sym e) (width_served w)
