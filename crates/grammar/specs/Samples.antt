-- Samples of request 1, proved by computation: texts beside their trees, shapes typed as text, each refusal with its place, alone and beside the
-- next, and printed lines. Assumes nothing.
use Rattle.std.specs.Prelude.{ℕ, ◌≡◌, refl, true, false, List, [], ◌∷◌, ◌++◌, map, length, replicate}
use Prim.Native.String.{String}
use Rattle.paper.specs.Lists.{join_map, padded}
use Rattle.paper.specs.Format.{Format, base, eight, bytes}
use Rattle.paper.specs.Opened.{opened}
use Rattle.paper.specs.samples.Files.{row, table, entry, A, table7, table10, portfolio, lessee, lease, asset}
use Rattle.grammar.specs.Text.{ascii, space, digits_in, decimal, followed, parted}
use Rattle.grammar.specs.Names.{names, name_of, name_text}
use Rattle.grammar.specs.Grammar.{tokens_from, tokens, Name, name_kept, dotted, spelled, Trees, no_trees, tree, trees_tokens, names_kept}
use Rattle.grammar.specs.Grammar.{first_byte}
use Rattle.grammar.specs.Typed.{wanted_from, matches, matched, entry_back, shape_back, shaping, reading, Reading, read_as}
use Rattle.grammar.specs.Typed.{line_tokens, line_of, printing, print_tree}
use Rattle.grammar.specs.Reader.{label_of, parts, labels_of, name_of_word, walk, said_of}

-- ---- texts beside their trees
-- a name as it is typed, and one with a leading dot
abbrev typed : List ℕ → Name
typed labels = record { whole = false; labels = labels }

abbrev dotting : List ℕ → Name
dotting labels = record { whole = true; labels = labels }

-- a tree with nothing beneath it, and another beside it
abbrev leaf : Name → Trees → Trees
leaf n beside = tree n no_trees beside

pub texts : List (String × Trees)
texts =
    ("lease", leaf (typed (3 ∷ [])) no_trees)
    ∷ ("asset [ lease [ lessee ] ]", tree (typed (4 ∷ [])) (tree (typed (3 ∷ [])) (leaf (typed (2 ∷ [])) no_trees) no_trees) no_trees)
    -- spaces are free
    ∷ ("  lease[lessee   asset]  ", tree (typed (3 ∷ [])) (leaf (typed (2 ∷ [])) (leaf (typed (4 ∷ [])) no_trees)) no_trees)
    -- dotted names, a leading dot, and numbers
    ∷ (
      "lessee.lease[.portfolio 21 99]",
      tree (typed (2 ∷ 3 ∷ [])) (leaf (dotting (1 ∷ [])) (leaf (typed (21 ∷ [])) (leaf (typed (99 ∷ [])) no_trees))) no_trees,
    )
    ∷ []

-- each text has the tokens of its tree, and the tree's names are names
pub texts_hold : map (λ (p : String × Trees). tokens (ascii p.0)) texts ≡ map (λ (p : String × Trees). trees_tokens p.1) texts
unfolding digits_in decimal followed parted names name_of name_text tokens_from dotted spelled trees_tokens texts
texts_hold = refl

pub texts_kept : map (λ (p : String × Trees). names_kept base p.1) texts ≡ true ∷ true ∷ true ∷ true ∷ []
unfolding base name_kept names_kept texts
texts_kept = refl

-- ---- what the definitions say, as lists of figures
-- number, place and count of entries, and the lent bytes afterwards
abbrev told : Reading → List (List ℕ)
told r = (r.reply.number ∷ r.reply.place ∷ r.reply.rest ∷ []) ∷ r.shape ∷ []

-- n lent bytes of 7
abbrev lent : ℕ → List ℕ
lent n = replicate n 7

-- a text read over a table with n bytes lent
abbrev read : Format → List ℕ → ℕ → List ℕ → List (List ℕ)
read f b n text = told (read_as f b (said_of f text) (lent n))

-- number and place, over table A with no byte lent
abbrev refusal : List ℕ → List (List ℕ)
refusal text = let r = (read_as base A (said_of base text) []).reply in (r.number ∷ r.place ∷ []) ∷ []

-- the same of a text of characters
abbrev refused : String → List (List ℕ)
refused text = refusal (ascii text)

-- number, place and count of bytes, and the line, into 90 lent bytes
abbrev printed : Format → List ℕ → List (List ℕ)
printed f s = let p = print_tree f s (lent 90) in (p.reply.number ∷ p.reply.place ∷ p.reply.rest ∷ []) ∷ p.text ∷ []

-- what is read: number 0, place 0, a count, and the shape before the bytes that stay
abbrev shape : ℕ → List ℕ → ℕ → List (List ℕ)
shape n s rest = (0 ∷ 0 ∷ n ∷ []) ∷ (s ++ lent rest) ∷ []

abbrev at : ℕ → ℕ → List (List ℕ)
at number place = (number ∷ place ∷ []) ∷ []

-- an entry of eight levels
abbrev wide : ℕ → List ℕ → List ℕ
wide l k = l ∷ length k ∷ 0 ∷ 0 ∷ join_map (bytes 2) (padded 8 k)

-- a portfolio with two lessees of one lease each, and a lease of its own
abbrev two_leases_lem : List ℕ
two_leases_lem = table 0 ((1 ∷ [], 1) ∷ (1 ∷ 1 ∷ [], 2) ∷ (1 ∷ 1 ∷ 1 ∷ [], 3) ∷ (1 ∷ 2 ∷ [], 3) ∷ [])

-- n portfolios beneath one
abbrev many : ℕ → List ℕ
many n = ascii "portfolio[" ++ join_map (λ w. w) (replicate n (ascii "portfolio ")) ++ ascii "]"

-- n portfolios, one beneath the other, over a lease
abbrev deep : ℕ → List ℕ
deep n = join_map (λ w. w) (replicate n (ascii "portfolio[")) ++ ascii "lease" ++ replicate n 93

pub samples : List (List (List ℕ) × List (List ℕ))
samples =
    -- the shapes of P4 to P10, typed
    (read base A 50 (ascii "lease [ lessee asset ]"), shape 3 (entry 1 lease ++ entry 2 lessee ++ entry 2 asset) 2)
    ∷ (read base A 50 (ascii "asset [ lease [ lessee ] ]"), shape 3 (entry 1 asset ++ entry 2 lease ++ entry 3 lessee) 2)
    ∷ (read base A 48 (ascii "portfolio [ lessee asset ]"), shape 3 (entry 1 portfolio ++ entry 2 lessee ++ entry 2 asset) 0)
    ∷ (
      read base table7 48 (ascii "lease [ asset [ payment ] ]"),
      shape 3 (entry 1 (1 ∷ 3 ∷ []) ++ entry 2 (1 ∷ 3 ∷ 4 ∷ []) ++ entry 3 (1 ∷ 5 ∷ [])) 0,
    )
    ∷ (read base A 32 (ascii "lease [ lease ]"), shape 2 (entry 1 lease ++ entry 2 lease) 0)
    ∷ (read base A 48 (ascii "portfolio [ lease lease ]"), shape 3 (entry 1 portfolio ++ entry 2 lease ++ entry 2 lease) 0)
    ∷ (read base table10 32 (ascii "lessee [ lease ]"), shape 2 (entry 1 (2 ∷ []) ++ entry 2 (3 ∷ [])) 0)
    -- dotted names: the end of a type's labels, or with a leading dot all of them
    ∷ (read base A 16 (ascii "lessee.lease"), shape 1 (entry 1 lease) 0)
    ∷ (read base A 16 (ascii ".portfolio.lessee.lease"), shape 1 (entry 1 lease) 0)
    ∷ (read base A 16 (ascii "portfolio.lessee.lease"), shape 1 (entry 1 lease) 0)
    ∷ (refused ".lease", at 13 0)
    ∷ (refused "portfolio.lease", at 13 0)
    ∷ (refused "portfolio.lessee.lease.asset.meter.tax.site.21", at 13 0)
    ∷ (refused "lease [ lessee tax ]", at 13 2)
    -- several types, and one of them by its whole list
    ∷ (read base two_leases_lem 16 (ascii "lease"), (13 ∷ 0 ∷ 0 ∷ []) ∷ lent 16 ∷ [])
    ∷ (read base two_leases_lem 16 (ascii ".portfolio.lease"), shape 1 (entry 1 (1 ∷ 3 ∷ [])) 0)
    -- an empty table
    ∷ (read base [] 16 (ascii "lease"), (13 ∷ 0 ∷ 0 ∷ []) ∷ lent 16 ∷ [])
    -- no names: 12 at the token's first byte
    ∷ (refused "lease [ foo ]", at 12 8)
    ∷ (refused "7", at 12 0)
    ∷ (refused "20", at 12 0)
    ∷ (refused "21", at 13 0)
    ∷ (refused "99", at 13 0)
    ∷ (refused "100", at 12 0)
    ∷ (refused "021", at 12 0)
    ∷ (refused "0", at 12 0)
    ∷ (refused " LEASE", at 12 1)
    ∷ (refused "lease.", at 12 0)
    ∷ (refused "lease..asset", at 12 0)
    ∷ (refused "..asset", at 12 0)
    ∷ (refused ".", at 12 0)
    ∷ (refused "lease.21", at 13 0)
    ∷ (refused "lease [ lessee asset ]\n", at 12 22)
    ∷ (refused "lease [ lessee\tasset ]", at 12 8)
    -- NUL and bytes above 127 are no spaces, no brackets and no letters: each belongs to a word that is no name
    ∷ (refusal (0 ∷ []), at 12 0)
    ∷ (refusal (ascii "lease" ++ 0 ∷ []), at 12 0)
    ∷ (refusal (ascii "lease " ++ 0 ∷ []), at 12 6)
    ∷ (refusal (ascii "lease" ++ 160 ∷ []), at 12 0)
    ∷ (refusal (236 ∷ ascii "ease"), at 12 0)
    ∷ (refusal (ascii "lease " ++ 219 ∷ ascii " asset ]"), at 12 6)
    ∷ (refusal (ascii "lease [ " ++ 255 ∷ ascii " ]"), at 12 8)
    -- brackets: never empty, never one too many; two trees side by side at the root
    ∷ (refused "lease [ ]", at 12 8)
    ∷ (refused "[ lease ]", at 12 0)
    ∷ (refused "lease ]", at 12 6)
    ∷ (refused "lease [ asset ] ]", at 12 16)
    ∷ (refused "lease [ asset ] [ lessee ]", at 12 16)
    ∷ (refused "lease [[ asset ] ]", at 12 7)
    ∷ (refused "lease asset", at 12 6)
    ∷ (refused "lease [ asset ] lessee", at 12 16)
    -- the text ends early: its length, trailing spaces counted
    ∷ (refused "", at 12 0)
    ∷ (refused "  ", at 12 2)
    ∷ (refused "lease [ asset ", at 12 14)
    ∷ (refused "lease [", at 12 7)
    -- 1,536 bytes, and one more, whatever stands before
    ∷ (refusal (ascii "lease" ++ replicate 1531 space), at 29 0)
    ∷ (refusal (ascii "lease" ++ replicate 1532 space), at 12 1536)
    ∷ (refusal (ascii "foo" ++ replicate 1534 space), at 12 1536)
    -- 12 before 5, 5 before 6, 6 before 13, 13 before 29
    ∷ (refusal (many 16 ++ ascii "]"), at 12 171)
    ∷ (refusal (many 16), at 5 0)
    ∷ (read base A 256 (many 15), shape 16 (entry 1 portfolio ++ join_map (λ x. x) (replicate 15 (entry 2 portfolio))) 0)
    ∷ (refusal (deep 16), at 5 0)
    ∷ (refusal (deep 6), at 6 6)
    ∷ (refused "tax[tax[tax[tax[tax[tax[tax]]]]]]", at 6 6)
    ∷ (refused "tax", at 13 0)
    ∷ (read base A 15 (ascii "lease"), (29 ∷ 0 ∷ 0 ∷ []) ∷ lent 15 ∷ [])
    -- 1 to 4 before 12
    ∷ (read base (7 ∷ []) 1 (ascii "foo"), (2 ∷ 0 ∷ 0 ∷ []) ∷ lent 1 ∷ [])
    -- eight levels
    ∷ (read eight [] 0 (deep 8), (6 ∷ 8 ∷ 0 ∷ []) ∷ [] ∷ [])
    ∷ (read eight [] 0 (deep 7), (13 ∷ 0 ∷ 0 ∷ []) ∷ [] ∷ [])
    -- printed lines: whole paths with a leading dot, single spaces
    ∷ (
      printed base (entry 1 lease ++ entry 2 lessee ++ entry 2 asset),
      (0 ∷ 0 ∷ 75 ∷ []) ∷ (ascii ".portfolio.lessee.lease [ .portfolio.lessee .portfolio.lessee.lease.asset ]" ++ lent 15) ∷ [],
    )
    ∷ (
      printed base (entry 1 (21 ∷ []) ++ entry 2 (99 ∷ []) ++ entry 3 (15 ∷ []) ++ entry 2 (15 ∷ [])),
      (0 ∷ 0 ∷ 25 ∷ []) ∷ (ascii ".21 [ .99 [ .tax ] .tax ]" ++ lent 65) ∷ [],
    )
    ∷ (printed eight (wide 1 (1 ∷ 1 ∷ 1 ∷ 1 ∷ 1 ∷ 1 ∷ 1 ∷ 1 ∷ [])), (0 ∷ 0 ∷ 80 ∷ []) ∷ (join_map (λ x. x) (replicate 8 (ascii ".portfolio")) ++ lent 10) ∷ [])
    ∷ (printed base [], (5 ∷ 0 ∷ 0 ∷ []) ∷ lent 90 ∷ [])
    ∷ (printed base (entry 2 lease), (6 ∷ 0 ∷ 0 ∷ []) ∷ lent 90 ∷ [])
    ∷ (printed base (entry 1 asset ++ entry 2 asset ++ entry 3 asset), (29 ∷ 0 ∷ 0 ∷ []) ∷ lent 90 ∷ [])
    ∷ []

-- every sample says what document 02 says
pub samples_hold : map (λ (p : List (List ℕ) × List (List ℕ)). p.0) samples ≡ map (λ (p : List (List ℕ) × List (List ℕ)). p.1) samples
unfolding opened eight row table entry A table7 table10 portfolio lessee lease asset digits_in decimal followed parted names name_of name_text tokens_from
    name_kept dotted spelled trees_tokens names_kept first_byte wanted_from matches matched entry_back shape_back shaping reading read_as line_tokens line_of printing
    print_tree label_of parts labels_of name_of_word walk said_of samples
samples_hold = refl
