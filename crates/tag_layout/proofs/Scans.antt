-- What the lowest 1 of a word's clear bits says of its places.
use Rattle.std.specs.Prelude.{◌%◌, ◌+◌, ◌-◌, ◌/◌, ◌<◌, ◌^◌, ◌≡◌, ◌≤◌}
use Rattle.tag_layout.proofs.Uses.{ap, arith, bit_at, bit_at-lt, bit_at-trailing_zeros, bit_at-zero, bit_at_not, dec_lt, dite, shr-shr, shr_le, trailing_zeros, w64, ℕ, ◌∙◌}
use lib.Count.{count_trailing_zeros}
use Rattle.tag_layout.specs.Bits.{AllSet, IsFirstClear}

-- a bit of what is left after a shift
pub bit_at-shr : (n from k : ℕ) → bit_at (n / 2 ^ from) k ≡ bit_at n (from + k)
bit_at-shr n from k = ap (λ x. x % 2) (shr-shr n from k)

module _ (word from limit : ℕ) (fits : word < 2 ^ 64) (start : from < limit) (most : limit ≤ 64) where
  abbrev clear_bits : ℕ
  clear_bits = (2 ^ 64 - 1 - word) / 2 ^ from

  abbrev lowest : ℕ
  lowest = trailing_zeros w64 clear_bits

  clear_fits : clear_bits < 2 ^ 64
  clear_fits = let h = shr_le (2 ^ 64 - 1 - word) from in omega arith

  -- a bit of what is clear, beside that of the word
  clear_bit : (k : ℕ) → from + k < 64 → bit_at clear_bits k ≡ 1 - bit_at word (from + k)
  clear_bit k h = bit_at-shr (2 ^ 64 - 1 - word) from k ∙ bit_at_not w64 word (from + k) fits h

  -- no place below the lowest 1 is clear
  set_below : (place : ℕ) → from ≤ place → place < from + lowest → place < 64 → bit_at clear_bits (place - from) ≡ 0
      → bit_at word place ≡ 1
  set_below place h1 h2 h3 none =
      let k : ℕ = place - from in let e : from + k ≡ place = omega arith in
      let bit = clear_bit k (omega arith) in
      let same : bit_at word (from + k) ≡ bit_at word place = ap (bit_at word) e in
      let small = bit_at-lt word place in omega arith

  pub first_found : from + lowest < limit → IsFirstClear word from limit (from + lowest)
  unfolding count_trailing_zeros
  first_found below =
      dite (dec_lt 0 clear_bits)
      (λ (some : 0 < clear_bits).
      let found = bit_at-trailing_zeros w64 clear_bits some clear_fits in
      let bit = clear_bit lowest (omega arith) in
      record {
        behind = omega arith;
        within = below;
        clear = (let small = bit_at-lt word (from + lowest) in omega (arith, found.1));
        first = λ place h1 h2. set_below place h1 h2 (omega arith) (found.2 (place - from) (omega arith));
      })
      (λ none.
      let zero_bits : clear_bits ≡ 0 = omega arith in
      let all : lowest ≡ 64 = ap (trailing_zeros w64) zero_bits in absurd (omega arith))

  pub none_found : limit ≤ from + lowest → AllSet word from limit
  unfolding count_trailing_zeros
  none_found above place h1 h2 =
      dite (dec_lt 0 clear_bits)
      (λ (some : 0 < clear_bits).
      let found = bit_at-trailing_zeros w64 clear_bits some clear_fits in
      set_below place h1 (omega arith) (omega arith) (found.2 (place - from) (omega arith)))
      (λ none.
      let zero_bits : clear_bits ≡ 0 = omega arith in
      let all : lowest ≡ 64 = ap (trailing_zeros w64) zero_bits in
      set_below place h1 (omega arith) (omega arith) (ap (λ n. bit_at n (place - from)) zero_bits
      ∙ bit_at-zero (place - from)))
