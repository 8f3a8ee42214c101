-- Bits of words and lists: what an or and an and-not leave of them, and one value of a function changed.
use Rattle.std.specs.Prelude.{◌-◌, ◌<◌, ◌^◌, ◌≡◌, ◌≢◌, ◌≤◌}
use Rattle.tag_core.proofs.Uses.{ap, arith, bit_at, bit_at-lt, bit_at-pow_other, bit_at-pow_same, bit_at-zero, bit_at_above, bit_at_and, bit_at_or, bit_or, Bool, changed_at, cond, dite, eq-eqb, ne_eqb, pow_below, without, ℕ, ◌∙◌}
use native.Mathlib.Decide.{dec_le}
use Rattle.tag_core.proofs.Masks.{bit_minus}

-- a changed function has the new value there, and the old ones elsewhere
pub changed_at-here : (f : ℕ → ℕ) (at value i : ℕ) → i ≡ at → changed_at f at value i ≡ value
changed_at-here f at value i e = ap (λ (b : Bool). cond b value (f i)) (eq-eqb i at e)

pub changed_at-else : (f : ℕ → ℕ) (at value i : ℕ) → i ≢ at → changed_at f at value i ≡ f i
changed_at-else f at value i ne = ap (λ (b : Bool). cond b value (f i)) (ne_eqb i at ne)

-- a word less a mask has no bit of the mask, which may have more than 64
pub without-in : (word mask bit : ℕ) → bit_at mask bit ≡ 1 → bit_at (without word mask) bit ≡ 0
without-in word mask bit set = dite (dec_le (2 ^ 64) mask)
    (λ (wide : 2 ^ 64 ≤ mask). let none : 2 ^ 64 - 1 - mask ≡ 0 = omega arith in
    let rest = bit_at_and word (2 ^ 64 - 1 - mask) bit in
    let off : bit_at (2 ^ 64 - 1 - mask) bit ≡ 0 = ap (λ (m : ℕ). bit_at m bit) none ∙ bit_at-zero bit in omega arith)
    (λ (narrow : ¬ (2 ^ 64 ≤ mask)). dite (dec_le 64 bit)
    (λ (high : 64 ≤ bit). let off = bit_at_above mask 64 bit (omega arith) high in absurd (omega arith))
    (λ (low : ¬ (64 ≤ bit)). let rest = bit_minus word mask bit (omega arith) (omega arith) in omega arith))

-- and it has bits of the word alone
pub without-of : (word mask bit : ℕ) → bit_at (without word mask) bit ≡ 1 → bit_at word bit ≡ 1
without-of word mask bit set =
    let rest = bit_at_and word (2 ^ 64 - 1 - mask) bit in let low = bit_at-lt word bit in omega arith

-- so what was 0 in the word is 0 in it
pub without-none : (word mask bit : ℕ) → bit_at word bit ≡ 0 → bit_at (without word mask) bit ≡ 0
without-none word mask bit off = let rest = bit_at_and word (2 ^ 64 - 1 - mask) bit in omega arith

-- less one caller's bit a list still has each other one
pub without-else : (list caller bit : ℕ) → caller < 64 → bit < 64 → bit ≢ caller → bit_at list bit ≡ 1
    → bit_at (without list (2 ^ caller)) bit ≡ 1
without-else list caller bit low within other set =
    let rest = bit_minus list (2 ^ caller) bit (pow_below caller 64 low) within in
    let off = bit_at-pow_other caller bit other in omega arith

-- a list with one more caller has its bit, and each that it had
pub with-in : (list caller : ℕ) → bit_at (bit_or list (2 ^ caller)) caller ≡ 1
with-in list caller = let both = bit_at_or list (2 ^ caller) caller in let on = bit_at-pow_same caller in
    let low = bit_at-lt list caller in omega arith

pub with-kept : (list mask bit : ℕ) → bit_at list bit ≡ 1 → bit_at (bit_or list mask) bit ≡ 1
with-kept list mask bit set = let both = bit_at_or list mask bit in let low = bit_at-lt mask bit in omega arith

-- and it has no other bit more
pub with-of : (list caller bit : ℕ) → bit ≢ caller → bit_at (bit_or list (2 ^ caller)) bit ≡ 1 → bit_at list bit ≡ 1
with-of list caller bit other set =
    let both = bit_at_or list (2 ^ caller) bit in let off = bit_at-pow_other caller bit other in omega arith

pub with-none : (list caller bit : ℕ) → bit ≢ caller → bit_at list bit ≡ 0 → bit_at (bit_or list (2 ^ caller)) bit ≡ 0
with-none list caller bit other clear =
    let both = bit_at_or list (2 ^ caller) bit in let off = bit_at-pow_other caller bit other in omega arith
