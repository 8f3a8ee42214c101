-- How many bits a mask has with one more, and with one less.
use Rattle.std.specs.Prelude.{◌%◌, ◌*◌, ◌+◌, ◌/◌, ◌<◌, ◌^◌, ◌≡◌, ◌≢◌, ◌≤◌}
use Rattle.tag_bell.proofs.Uses.{and_pow, ap, arith, bit_and, bit_at, bit_at-lt, bit_at-pow_other, bit_at-pow_same, bit_at_above, bit_at_or, bit_or, count_ones, dec_le, dite, ones-le, or_lt, or_step, same_from_bits, suc, without, zero, ℕ, ℕ_discrete, ◌∙◌}
use lib.Bits.{and_step}
use lib.Count.{ones_step}
use Rattle.tag_core.proofs.ListedBits.{without-else, without-in, without-of}
use Rattle.tag_core.proofs.OneBit.{count_ones-pow}

-- two masks that have no bit in common have the bits of both together
ones_apart : (d a b : ℕ) → a ≤ d → b ≤ d → bit_and a b ≡ 0 → count_ones (bit_or a b) ≡ count_ones a + count_ones b
ones_apart zero a b low low' apart =
    let none : bit_or a b < 2 ^ 0 = or_lt 0 a b (omega arith) (omega arith) in
    let x = ones-le 0 (bit_or a b) none in let y = ones-le 0 a (omega arith) in let z = ones-le 0 b (omega arith) in omega arith
ones_apart (suc d) a b low low' apart =
    let o = or_step a b in let n = and_step a b in let s = ones_step a in let t = ones_step b in
    let u = ones_step (bit_or a b) in
    let half : bit_or a b / 2 ≡ bit_or (a / 2) (b / 2) = omega arith in
    let none : bit_and (a / 2) (b / 2) ≡ 0 = omega arith in
    let last : bit_or a b % 2 ≡ a % 2 + b % 2 = omega arith in
    let e : count_ones (bit_or a b / 2) ≡ count_ones (bit_or (a / 2) (b / 2)) = ap count_ones half in
    let ih = ones_apart d (a / 2) (b / 2) (omega arith) (omega arith) none in omega arith

-- with one bit more
pub ones_with : (n i : ℕ) → bit_at n i ≡ 0 → count_ones (bit_or n (2 ^ i)) ≡ count_ones n + 1
ones_with n i off = let apart : bit_and n (2 ^ i) ≡ 0 = and_pow n i ∙ ap (λ (x : ℕ). x * 2 ^ i) off ∙ omega arith in
    let both = ones_apart (n + 2 ^ i) n (2 ^ i) (omega arith) (omega arith) apart in
    let one = count_ones-pow i in omega arith

-- with one bit less
module _ (n i : ℕ) (fits : n < 2 ^ 64) (low : i < 64) (set : bit_at n i ≡ 1) where
  whole : bit_or (without n (2 ^ i)) (2 ^ i) ≡ n
  whole = same_from_bits (bit_or (without n (2 ^ i)) (2 ^ i)) n (λ j. let both = bit_at_or (without n (2 ^ i)) (2 ^ i) j in
      let few = bit_at-lt n j in let less = bit_at-lt (without n (2 ^ i)) j in dite (ℕ_discrete j i)
      (λ (e : j ≡ i). let on : bit_at (2 ^ i) j ≡ 1 = ap (bit_at (2 ^ i)) e ∙ bit_at-pow_same i in
      let was : bit_at n j ≡ 1 = ap (bit_at n) e ∙ set in omega arith)
      (λ (ne : j ≢ i). let off = bit_at-pow_other i j ne in dite (ℕ_discrete (bit_at n j) 1)
      (λ (one : bit_at n j ≡ 1). let still : bit_at (without n (2 ^ i)) j ≡ 1 = kept j ne one in omega arith)
      (λ (none : bit_at n j ≢ 1). dite (ℕ_discrete (bit_at (without n (2 ^ i)) j) 1)
      (λ (one : bit_at (without n (2 ^ i)) j ≡ 1). absurd (none (without-of n (2 ^ i) j one)))
      (λ (clear : bit_at (without n (2 ^ i)) j ≢ 1). omega arith))))
    where
      kept : (j : ℕ) → j ≢ i → bit_at n j ≡ 1 → bit_at (without n (2 ^ i)) j ≡ 1
      kept j ne one = dite (dec_le 64 j)
          (λ (high : 64 ≤ j). let none = bit_at_above n 64 j fits high in absurd (omega arith))
          (λ (under : ¬ (64 ≤ j)). without-else n i j low (omega arith) ne one)

  pub ones_less : count_ones (without n (2 ^ i)) + 1 ≡ count_ones n
  ones_less = let more = ones_with (without n (2 ^ i)) i (without-in n (2 ^ i) i (bit_at-pow_same i)) in
      let same = ap count_ones whole in omega arith
