-- Numbers as text, and parts with a byte between them. Text is a list of bytes. Assumes nothing.
use Rattle.std.specs.Prelude.{ℕ, zero, suc, ◌+◌, ◌/◌, ◌%◌, true, false, List, [], ◌∷◌, ◌++◌, ltb, ℤ, pos, negsuc}
use Prim.Native.Char.{code}
use Prim.Native.String.{String, [] as none, ◌∷◌ as ◌then◌}
use Rattle.paper.specs.Lists.{join_map}

-- the bytes of a text whose characters are ASCII
abbrev pub ascii : String → List ℕ
ascii none = []
ascii (c then s) = code c ∷ ascii s

-- ---- the bytes that stand between
abbrev pub newline : ℕ
newline = code "\n"

abbrev pub space : ℕ
space = code " "

abbrev pub hyphen : ℕ
hyphen = code "-"

abbrev pub dot : ℕ
dot = code "."

-- ---- numbers
-- the byte of a digit
abbrev pub digit : ℕ → ℕ
digit d = code "0" + d

-- the digits of a number that has at most suc f of them
unfoldable pub digits_in : ℕ → ℕ → List ℕ
digits_in zero n = digit n ∷ []
digits_in (suc f) n = elim (ltb n 10) [ true ↦ digit n ∷ [] | false ↦ digits_in f (n / 10) ++ (digit (n % 10) ∷ []) ]

-- the decimal digits of a number, the first of them not 0 unless it stands alone; n has at most suc n of them
unfoldable pub decimal : ℕ → List ℕ
decimal n = digits_in n n

-- a signed number: a hyphen before it where it is below 0
unfoldable pub signed_text : ℤ → List ℕ
signed_text (pos n) = decimal n
signed_text (negsuc n) = hyphen ∷ decimal (suc n)

-- ---- parts
-- the parts with the byte c before each
unfoldable pub followed : ℕ → List (List ℕ) → List ℕ
followed c ps = join_map (λ q. c ∷ q) ps

-- the parts with the byte c between them
unfoldable pub parted : ℕ → List (List ℕ) → List ℕ
parted c [] = []
parted c (p ∷ ps) = p ++ followed c ps
