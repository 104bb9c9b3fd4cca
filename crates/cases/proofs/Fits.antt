-- Records of w bytes within lent bytes. Assumes nothing.
use Prim.Native.Nat.{ℕ, ◌*◌, ◌/◌, ◌≤◌, ◌<◌}
use native.Mathlib.Nat.{mul_comm, mul-le-mul_left, mul-le-mul_right, div-mul-le_self}
use native.Mathlib.Omega.{arith}

-- of records of more than one byte there are at most half as many as bytes
pub records_half : (w l : ℕ) → 1 < w → 2 * (l / w) ≤ l
records_half w l more =
    let least : 2 * (l / w) ≤ w * (l / w) = mul-le-mul_right (l / w) more in
    omega (arith, least, mul_comm w (l / w), div-mul-le_self l w)

-- as many as two bytes tell have no more bytes than a number holds
pub records_few : (w n : ℕ) → w ≤ 28 → n < 65536 → w * n ≤ 1835008
records_few w n small few = let most : w * n ≤ w * 65536 = mul-le-mul_left w (omega (arith, few)) in omega (arith, small, most)
