-- A bit of a number that is not 0, and a bit that a word lacks.
use Rattle.std.specs.Prelude.{◌%◌, ◌/◌, ◌<◌, ◌^◌, ◌≡◌, ◌≢◌, ◌≤◌}
use Rattle.tag_core.proofs.ListedBits.{without-in, without-of}
use Rattle.tag_bell.proofs.Uses.{ap, arith, bit_and, bit_at, bit_at-lt, bit_at-suc, bit_at-zero, bit_at_above, bit_at_and, bit_at_lowest, bit_minus, dec_le, dite, same_from_bits, suc, without, zero, ℕ, ℕ_discrete, ◌∙◌}

-- a number that is not 0 has a bit, found after at most so many halvings
bit_found : (most n : ℕ) → n ≤ most → n ≢ 0 → (i : ℕ) × (bit_at n i ≡ 1)
bit_found zero n le ne = absurd (ne (omega arith))
bit_found (suc most) n le ne = dite (ℕ_discrete (n % 2) 1)
    (λ (odd : n % 2 ≡ 1). (0, bit_at_lowest n ∙ odd))
    (λ (even : n % 2 ≢ 1). let half = bit_found most (n / 2) (omega arith) (λ e. ne (omega arith)) in
    (suc half.0, bit_at-suc n half.0 ∙ half.1))

-- two numbers whose and is not 0 have a bit in common
pub bit_and-common : (a b : ℕ) → bit_and a b ≢ 0 → (i : ℕ) × (bit_at a i ≡ 1) × (bit_at b i ≡ 1)
bit_and-common a b ne = let w = bit_found (bit_and a b) (bit_and a b) (omega arith) ne in
    let both = bit_at_and a b w.0 in let is = w.1 in let low = bit_at-lt a w.0 in let low' = bit_at-lt b w.0 in
    (w.0, omega arith, omega arith)

-- a mask that is not all in a word has a bit that the word lacks
pub bit_missing : (word mask : ℕ) → word < 2 ^ 64 → mask < 2 ^ 64 → bit_and word mask ≢ mask
    → (i : ℕ) × (bit_at word i ≡ 0) × (bit_at mask i ≡ 1)
bit_missing word mask fits within part = dite (ℕ_discrete (without mask word) 0)
    (λ (none : without mask word ≡ 0). absurd (part (same_from_bits (bit_and word mask) mask (whole none))))
    (λ (some : without mask word ≢ 0). let w = bit_found (without mask word) (without mask word) (omega arith) some in
    (w.0, lacks w.0 w.1, without-of mask word w.0 w.1))
  where
    lacks : (i : ℕ) → bit_at (without mask word) i ≡ 1 → bit_at word i ≡ 0
    lacks i set = let low = bit_at-lt word i in dite (ℕ_discrete (bit_at word i) 1)
        (λ (one : bit_at word i ≡ 1). let off = without-in mask word i one in absurd (omega arith))
        (λ (not : bit_at word i ≢ 1). omega arith)

    whole : without mask word ≡ 0 → (i : ℕ) → bit_at (bit_and word mask) i ≡ bit_at mask i
    whole none i = let both = bit_at_and word mask i in let low = bit_at-lt word i in let low' = bit_at-lt mask i in
        dite (dec_le 64 i)
        (λ (high : 64 ≤ i). let off = bit_at_above mask 64 i within high in omega arith)
        (λ (under : ¬ (64 ≤ i)). let rest = bit_minus mask word i fits (omega arith) in
        let off : bit_at (without mask word) i ≡ 0 = ap (λ (m : ℕ). bit_at m i) none ∙ bit_at-zero i in omega arith)

-- none has no bit
pub no_bit : (mask : ℕ) → mask ≡ 0 → (i : ℕ) → bit_at mask i ≢ 1
no_bit mask none i on = let off : bit_at mask i ≡ 0 = ap (λ (m : ℕ). bit_at m i) none ∙ bit_at-zero i in omega arith
