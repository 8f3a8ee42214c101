-- The places of a word that are taken and not set aside.
use Rattle.std.specs.Prelude.{◌%◌, ◌*◌, ◌+◌, ◌-◌, ◌/◌, ◌<◌, ◌^◌, ◌≡◌}
use Rattle.tag_search.proofs.Uses.{ap, arith, bit_and, bit_at, bit_at-lt, bit_at-shr, bit_at-zero, bit_at_above, bit_at_and, bit_at_not, bit_is, dec_lt, dite, div-add-mod', get_or, inl, inr, IsTaken, IsTidy, IsWithin, mod_below, Plain, pow_pos, same_from_bits, sym, w64, word_depth, ℕ}
use Rattle.tag_search.proofs.Uses.{◌∙◌}

-- a number whose bits are all below a place is below that power of two
pub below_of_bits : (n w : ℕ) → ((k : ℕ) → bit_at n k ≡ 1 → k < w) → n < 2 ^ w
below_of_bits n w low =
    let none : (i : ℕ) → bit_at n (w + i) ≡ 0 = λ i. elim (bit_is n (w + i))
    [ inl one ↦ absurd (let h = low (w + i) one in omega arith) | inr z ↦ z ] in
    let high : n / 2 ^ w ≡ 0 = same_from_bits (n / 2 ^ w) 0 (λ i. bit_at-shr n w i ∙ none i ∙ sym (bit_at-zero i)) in
    let whole : n / 2 ^ w * 2 ^ w + n % 2 ^ w ≡ n = div-add-mod' n (2 ^ w) in
    let rest : n % 2 ^ w < 2 ^ w = mod_below n (2 ^ w) (pow_pos w) in
    let z : n / 2 ^ w * 2 ^ w ≡ 0 = ap (λ (x : ℕ). x * 2 ^ w) high ∙ omega arith in omega arith

-- the bits of a word that are in a mask and not in the cleared set
abbrev pub held : ℕ → ℕ → ℕ → ℕ
held n a mask = bit_and (bit_and n (2 ^ 64 - 1 - a)) mask

pub bit_held : (n a mask k : ℕ) → n < 2 ^ 64 → a < 2 ^ 64 → bit_at (held n a mask) k ≡ 1 → (bit_at n k ≡ 1)
    × (bit_at a k ≡ 0)
bit_held n a mask k fits fits' one =
    let e = bit_at_and (bit_and n (2 ^ 64 - 1 - a)) mask k in let f = bit_at_and n (2 ^ 64 - 1 - a) k in
    let ln = bit_at-lt n k in let la = bit_at-lt a k in let lm = bit_at-lt mask k in
    dite (dec_lt k 64)
    (λ (low : k < 64). let g = bit_at_not w64 a k fits' low in (omega arith, omega arith))
    (λ high. absurd (let z = bit_at_above n 64 k fits (omega arith) in omega arith))

-- they are within the word's depth
pub held_within : (p : Plain) (i n a mask : ℕ) → IsTidy p → n < 2 ^ 64 → a < 2 ^ 64 → n ≡ get_or p.word i 0
    → IsWithin p.layout i (held n a mask)
held_within p i n a mask tidy fits fits' e =
    below_of_bits (held n a mask) (word_depth p.layout i) (λ k one. let b = bit_held n a mask k fits fits' one in
    tidy.within i k (sym (ap (λ (x : ℕ). bit_at x k) e) ∙ b.0))

-- they are taken and not set aside
pub held_taken : (p : Plain) (i n a mask k : ℕ) → n < 2 ^ 64 → a < 2 ^ 64 → n ≡ get_or p.word i 0
    → a ≡ get_or p.aside i 0 → bit_at (held n a mask) k ≡ 1 → IsTaken p i k
held_taken p i n a mask k fits fits' e f one =
    let b = bit_held n a mask k fits fits' one in
    record { taken = sym (ap (λ (x : ℕ). bit_at x k) e) ∙ b.0; not_aside = sym (ap (λ (x : ℕ). bit_at x k) f) ∙ b.1 }
