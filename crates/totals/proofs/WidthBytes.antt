-- Lengths at both widths. Assumes nothing.
use Prim.Native.Nat.{ℕ, ◌/◌, ◌≤◌, min}
use mathlib.Core.Path.{◌≡◌, ap₂}
use lib.Dec.{lit≤}
use lib.ListN.{replicate, length-replicate}
use Rattle.paper.specs.Format.{base, eight, most_rows, most_lines, entry_bytes}
use Rattle.paper.specs.Widths.{format_of}
use Rattle.paper.specs.Calls.{room_in}
use Rattle.paper.specs.declared.Width.{Width}
use Rattle.paper.specs.declared.Width.TheVariants.{Six, Eight}

pub entry_most : (w : Width) → entry_bytes (format_of w) ≤ 20
unfolding base eight
entry_most Six = lit≤ tt
entry_most Eight = lit≤ tt

-- what is lent has room for 1,024 lines, or for 4,096, at either width
pub room_for_rows : (w : Width) → room_in (format_of w) (replicate 28672 0) (replicate 1024 0) ≡ most_rows
unfolding base eight
room_for_rows Six = ap₂ (λ n m. min (n / 24) (min m most_lines)) (length-replicate {A = ℕ} 28672 0) (length-replicate {A = ℕ} 1024 0)
room_for_rows Eight = ap₂ (λ n m. min (n / 28) (min m most_lines)) (length-replicate {A = ℕ} 28672 0) (length-replicate {A = ℕ} 1024 0)

pub room_for_lines : (w : Width) → room_in (format_of w) (replicate 114688 0) (replicate 4096 0) ≡ most_lines
unfolding base eight
room_for_lines Six = ap₂ (λ n m. min (n / 24) (min m most_lines)) (length-replicate {A = ℕ} 114688 0) (length-replicate {A = ℕ} 4096 0)
room_for_lines Eight = ap₂ (λ n m. min (n / 28) (min m most_lines)) (length-replicate {A = ℕ} 114688 0) (length-replicate {A = ℕ} 4096 0)
