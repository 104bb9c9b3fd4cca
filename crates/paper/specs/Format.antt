-- The format of a table, its limits, and its bytes. Assumes nothing.
use Rattle.std.specs.Prelude.{ℕ, zero, suc, ◌+◌, ◌*◌, ◌/◌, ◌%◌, ◌-◌, ◌^◌, true, false, List, [], ◌∷◌, ltb, ℤ, pos, negsuc, length, get_or, take, drop}
use Rattle.paper.specs.declared.Format as Declared

-- What a width of the files may change: `levels`, the number of levels, and `labels`, the largest label.
abbrev pub Format : Type 0
Format = Declared.Format

abbrev pub format : ℕ → ℕ → Format
format levels labels = record { levels = levels; labels = labels }

-- the narrow width: levels 1 to 6, labels 1 to 99
unfoldable pub base : Format
base = format 6 99

-- the wide one: levels 1 to 8, the same labels
unfoldable pub eight : Format
eight = format 8 99

-- ---- limits
abbrev pub most_rows : ℕ
most_rows = 1024

abbrev pub most_types : ℕ
most_types = 64

abbrev pub most_entries : ℕ
most_entries = 16

abbrev pub most_lines : ℕ
most_lines = 4096

-- ---- lengths in bytes
-- what stands before the components of a row, or the labels of an entry
abbrev pub head_bytes : ℕ
head_bytes = 4

-- a 16-bit number for each level (12 bytes on six levels, 16 on eight)
abbrev pub list_bytes : Format → ℕ
list_bytes f = 2 * f.levels

abbrev pub value_bytes : ℕ
value_bytes = 8

-- a record of a table (24 bytes on six levels, 28 on eight)
abbrev pub row_bytes : Format → ℕ
row_bytes f = head_bytes + list_bytes f + value_bytes

-- a record of a shape (16 bytes on six levels, 20 on eight)
abbrev pub entry_bytes : Format → ℕ
entry_bytes f = head_bytes + list_bytes f

-- ---- reading; numbers are little-endian
-- the values of a byte
abbrev pub radix : ℕ
radix = 256

-- the number that the bytes spell
abbrev pub number : List ℕ → ℕ
number [] = 0
number (b ∷ bs) = b + radix * number bs

abbrev pub byte : List ℕ → ℕ → ℕ
byte b i = get_or b i 0

-- n bytes from byte i on
abbrev pub span : ℕ → List ℕ → ℕ → List ℕ
span zero b i = []
span (suc n) b i = byte b i ∷ span n b (suc i)

-- the 16-bit number at byte i
abbrev pub word : List ℕ → ℕ → ℕ
word b i = number (span 2 b i)

-- n 16-bit numbers from byte i on
abbrev pub words : ℕ → List ℕ → ℕ → List ℕ
words zero b i = []
words (suc n) b i = word b i ∷ words n b (suc (suc i))

-- n records of w bytes each
abbrev pub records : ℕ → ℕ → List ℕ → List (List ℕ)
records w zero b = []
records w (suc n) b = take w b ∷ records w n (drop w b)

-- the whole records of w bytes that the bytes hold
abbrev pub whole : ℕ → List ℕ → ℕ
whole w b = length b / w

-- the signed 64-bit number of eight bytes
unfoldable pub signed : List ℕ → ℤ
signed b = let x = number b in elim (ltb x (2 ^ 63)) [ true ↦ pos x | false ↦ negsuc (2 ^ 64 - 1 - x) ]

-- ---- writing
-- the n low bytes of a number
abbrev pub bytes : ℕ → ℕ → List ℕ
bytes zero x = []
bytes (suc n) x = x % radix ∷ bytes n (x / radix)
