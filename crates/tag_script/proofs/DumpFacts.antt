-- Bytes made of bits.
use Rattle.tag_script.proofs.Uses.{arith, bit_value, Bool, cond, false, is_held_tag, PlainWorld, suc, sum_below, true, zero, ℕ}
use Rattle.std.proofs.Common.{◌≡◌, ◌+◌, ◌*◌, ◌^◌, ◌<◌, ◌≤◌}

value_le : (b : Bool) (x : ℕ) → cond b x 0 ≤ x
value_le true x = omega arith
value_le false x = omega arith

-- the sum of the first n bits is below 2 ^ n
pub bits-below : (w : PlainWorld) (offset n : ℕ) → sum_below (bit_value w offset) n < 2 ^ n
bits-below w offset zero = omega arith
bits-below w offset (suc n) =
    let before = bits-below w offset n in
    let last = value_le (is_held_tag w (8 * offset + n)) (2 ^ n) in
    let double : 2 ^ suc n ≡ 2 ^ n + 2 ^ n = omega arith in
    omega arith
