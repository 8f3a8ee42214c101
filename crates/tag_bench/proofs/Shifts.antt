-- Bits of a shifted mask.
use Rattle.tag_bench.proofs.Uses.{ap, arith, bit_at, div-add-mod', pow_pos, sym, ℕ, ◌∙◌}
use Rattle.std.proofs.Common.{◌≡◌, ◌+◌, ◌-◌, ◌*◌, ◌/◌, ◌%◌, ◌^◌, ◌<◌, ◌≤◌}
use mathlib.Core.Logic.{dite}
use native.Mathlib.Decide.{dec_lt}
use Rattle.std.proofs.lemmas.Nat.Bits.{bit_at-zero, bit_at_cat_low, bit_at_cat_high}

-- a bit of a mask shifted within 64 bits is one of the mask
pub bit-of_shifted : (bits p q : ℕ) → q < 64 → bit_at (bits * 2 ^ p % 2 ^ 64) q ≡ 1
    → (p ≤ q) × (bit_at bits (q - p) ≡ 1)
bit-of_shifted bits p q small one =
    let n : ℕ = bits * 2 ^ p in
    let whole : bit_at n q ≡ 1 = ap (λ (x : ℕ). bit_at x q) (sym (div-add-mod' n (2 ^ 64)))
    ∙ bit_at_cat_low (n / 2 ^ 64) 64 (n % 2 ^ 64) q small ∙ one in
    let e : n ≡ n + 0 = omega arith in
    let there : bit_at (n + 0) q ≡ 1 = sym (ap (λ (x : ℕ). bit_at x q) e) ∙ whole in dite (dec_lt q p)
    (λ low. absurd (let none = bit_at_cat_low bits p 0 q low in let zero = bit_at-zero q in omega arith))
    (λ high. let above : p ≤ q = omega arith in (above, sym (bit_at_cat_high bits p 0 q (pow_pos p) above) ∙ there))
