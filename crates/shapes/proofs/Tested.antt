-- Refusals 5 to 7 in their order, after those of the table: what the tests answer once each is known. Assumes nothing.
use Prim.Native.Nat.{ℕ}
use mathlib.Core.Path.{◌≡◌, refl, ◌∙◌, ap}
use mathlib.Core.List.{List}
use mathlib.Core.Option.{Option, none}
use Rattle.paper.specs.Format.{Format}
use Rattle.paper.specs.Tables.{Row, rows, types}
use Rattle.paper.specs.Closeness.{nodes}
use Rattle.paper.specs.Shapes.{Entry, entries, shape_over}
use Rattle.paper.specs.Calls.{Answer, refused, given, ◌>>=◌, refuse_at, Work, type_missing, tests1_4, tests5_6, tests5_7, tests1_7}

-- ---- the tests, from what each finds
-- what the layers above work on
abbrev pub work_of : List Row → List Entry → Work
work_of rs es = record { rows = rs; nodes = nodes rs; shape = shape_over (types rs) es }

abbrev missed : List Row → List Entry → Option ℕ → Answer Work
missed rs es o = refuse_at 7 o >>= (λ _. given (work_of rs es))

abbrev shaped : List Row → Answer (List Entry) → Answer Work
shaped rs a = a >>= (λ (es : List Entry). missed rs es (type_missing rs es))

module _ (f : Format) (t s : List ℕ) where
  tests_are : tests1_7 f t s ≡ tests1_4 f t >>= (λ (rs : List Row). shaped rs (tests5_6 f s))
  unfolding tests5_7
  tests_are = refl

  module _ (table : tests1_4 f t ≡ given (rows f t)) where
    from-table : tests1_7 f t s ≡ shaped (rows f t) (tests5_6 f s)
    from-table = tests_are ∙ ap (λ a. a >>= (λ (rs : List Row). shaped rs (tests5_6 f s))) table

    pub refused-shape : (k p : ℕ) → tests5_6 f s ≡ refused k p → tests1_7 f t s ≡ refused k p
    refused-shape k p e = from-table ∙ ap (shaped (rows f t)) e

    module _ (shape : tests5_6 f s ≡ given (entries f s)) where
      from-shape : tests1_7 f t s ≡ missed (rows f t) (entries f s) (type_missing (rows f t) (entries f s))
      from-shape = from-table ∙ ap (shaped (rows f t)) shape

      pub refused_missing : (k p : ℕ) → refuse_at 7 (type_missing (rows f t) (entries f s)) ≡ refused k p → tests1_7 f t s ≡ refused k p
      refused_missing k p e = from-shape ∙ ap (λ a. a >>= (λ _. given (work_of (rows f t) (entries f s)))) e

      pub none-refused : type_missing (rows f t) (entries f s) ≡ none → tests1_7 f t s ≡ given (work_of (rows f t) (entries f s))
      none-refused e = from-shape ∙ ap (missed (rows f t) (entries f s)) e
