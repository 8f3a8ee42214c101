-- Bits of a word after an or, and after an and-not.
use Rattle.std.specs.Prelude.{◌%◌, ◌*◌, ◌+◌, ◌-◌, ◌/◌, ◌<◌, ◌^◌, ◌≡◌, ◌≤◌}
use Rattle.tag_core.proofs.Uses.{and_le_l, and_pow, and_step, ap, arith, bit_and, bit_at, bit_at-lt, bit_at-pow_other, bit_at-zero, bit_at_and, bit_at_not, bit_at_or, bit_or, count_ones, max, min, one-mul, ones-le, or_disjoint, or_lt, pow_below, same_from_bits_below, suc, w64, without, zero, ℕ}
use Rattle.tag_core.proofs.Uses.{◌∙◌}
use lib.Count.{ones, ones_step}

-- a clear bit is set by adding it
pub add_bit : (n b : ℕ) → bit_at n b ≡ 0 → bit_or n (2 ^ b) < 2 ^ 64 → (n + 2 ^ b) % 2 ^ 64 ≡ bit_or n (2 ^ b)
add_bit n b clear fits = grind (arith, and_pow, or_disjoint)

-- a bit of a word less a mask
pub bit_minus : (n m b : ℕ) → m < 2 ^ 64 → b < 64 → bit_at (without n m) b ≡ min (bit_at n b) (1 - bit_at m b)
bit_minus n m b fits within = bit_at_and n (2 ^ 64 - 1 - m) b ∙ ap (min (bit_at n b)) (bit_at_not w64 m b fits within)

-- a part of a mask is no greater than the mask
pub minus_le : (n m : ℕ) → without n m ≤ n
minus_le n m = and_le_l n (2 ^ 64 - 1 - m)

-- a mask whose bits are all set is taken out by subtracting it
pub take_bits : (n m : ℕ) → n < 2 ^ 64 → m < 2 ^ 64 → ((b : ℕ) → bit_at m b ≡ 1 → bit_at n b ≡ 1)
    → (n + (2 ^ 64 - m)) % 2 ^ 64 ≡ without n m
take_bits n m n_fits m_fits among =
    let w : ℕ = without n m in let w_fits : w < 2 ^ 64 = omega (arith, minus_le n m) in
    let whole : bit_or w m ≡ n = same_from_bits_below 64 (bit_or w m) n (or_lt 64 w m w_fits m_fits) n_fits
    (λ b low. bit_at_or w m b ∙ whole_bit b low) in
    let apart : bit_and w m ≡ 0 = same_from_bits_below 64 (bit_and w m) 0 (omega (arith, and_le_l w m)) (omega arith)
    (λ b low. bit_at_and w m b ∙ no_bit b low) in
    let sum = or_disjoint w m apart in omega arith
  where
    whole_bit : (b : ℕ) → b < 64 → max (bit_at (without n m) b) (bit_at m b) ≡ bit_at n b
    whole_bit b low = grind (arith, bit_minus, bit_at-lt, among)

    no_bit : (b : ℕ) → b < 64 → min (bit_at (without n m) b) (bit_at m b) ≡ bit_at 0 b
    no_bit b low = grind (arith, bit_minus, bit_at-lt, bit_at-zero)

-- a bit that is set is taken out by subtracting it
pub take_bit : (n b : ℕ) → n < 2 ^ 64 → b < 64 → bit_at n b ≡ 1 → n - 2 ^ b ≡ without n (2 ^ b)
take_bit n b fits low one = let few = pow_below b 64 low in
    let there : bit_and n (2 ^ b) ≡ 2 ^ b = and_pow n b ∙ ap (λ (x : ℕ). x * 2 ^ b) one ∙ one-mul (2 ^ b) in
    let taken = take_bits n (2 ^ b) fits few among in omega (arith, and_le_l n (2 ^ b))
  where
    among : (at : ℕ) → bit_at (2 ^ b) at ≡ 1 → bit_at n at ≡ 1
    among at here = grind (arith, bit_at-pow_other)

-- a part of a mask has no more bits than the mask
ones_part : (d m x : ℕ) → m ≤ d → count_ones (bit_and m x) ≤ count_ones m
ones_part zero m x h = omega (arith, ones-le 0 (bit_and m x) (omega (arith, and_le_l m x)))
ones_part (suc d) m x h =
    let a = and_step m x in let s = ones_step m in let t = ones_step (bit_and m x) in
    let half : bit_and m x / 2 ≡ bit_and (m / 2) (x / 2) = omega arith in
    let low : bit_and m x % 2 ≤ m % 2 = omega arith in
    let e : count_ones (bit_and m x / 2) ≡ count_ones (bit_and (m / 2) (x / 2)) = ap count_ones half in
    let ih = ones_part d (m / 2) (x / 2) (omega arith) in omega arith

pub ones_and : (m x : ℕ) → count_ones (bit_and m x) ≤ count_ones m
ones_and m x = ones_part m m x (omega arith)

-- a word less a mask has no more bits than the word
pub ones_minus : (n m : ℕ) → count_ones (without n m) ≤ count_ones n
ones_minus n m = ones_and n (2 ^ 64 - 1 - m)
