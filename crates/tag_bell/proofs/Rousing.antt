-- Callers of a mask that are roused one after another, in the order of their numbers.
use Rattle.std.specs.Prelude.{◌+◌, ◌<◌, ◌^◌, ◌≡◌, ◌≢◌, ◌≤◌}
use Rattle.tag_bell.proofs.Uses.{ap, arith, bit_at, bit_at-lt, bit_at-pow_other, bit_at-pow_same, bit_at-zero, bit_at_above, bit_at_or, bit_or, dec_le, dite, same_from_bits, subst, sym, ℕ, ℕ_discrete, ◌∙◌}

-- the callers of the mask below this number were roused, and nobody else
pub record RousedBelow (n mask roused : ℕ) : Type 0 where
  pub below : (i : ℕ) → i < n → bit_at roused i ≡ bit_at mask i
  pub above : (i : ℕ) → n ≤ i → bit_at roused i ≡ 0

-- nobody is below 0
pub roused_none : (mask roused : ℕ) → roused ≡ 0 → RousedBelow 0 mask roused
roused_none mask roused none =
    record { below = λ i low. absurd (omega arith); above = λ i high. ap (λ (n : ℕ). bit_at n i) none ∙ bit_at-zero i }

module _ (n mask roused : ℕ) (so_far : RousedBelow n mask roused) where
  -- one more roused caller changes its own bit alone
  with_other : (i : ℕ) → i ≢ n → bit_at (bit_or roused (2 ^ n)) i ≡ bit_at roused i
  with_other i ne = let is = bit_at_or roused (2 ^ n) i in let other = bit_at-pow_other n i ne in omega arith

  with_same : bit_at mask n ≡ 1 → bit_at (bit_or roused (2 ^ n)) n ≡ bit_at mask n
  with_same set = let is = bit_at_or roused (2 ^ n) n in let same = bit_at-pow_same n in let low = bit_at-lt roused n in omega arith

  -- the next one was roused
  pub rouses_next : bit_at mask n ≡ 1 → RousedBelow (n + 1) mask (bit_or roused (2 ^ n))
  rouses_next set = record {
    below = λ i low. dite (ℕ_discrete i n)
        (λ (e : i ≡ n). subst (λ (k : ℕ). bit_at (bit_or roused (2 ^ n)) k ≡ bit_at mask k) (sym e) (with_same set))
        (λ (ne : i ≢ n). with_other i ne ∙ so_far.below i (omega arith));
    above = λ i high. with_other i (λ e. omega arith) ∙ so_far.above i (omega arith);
  }

  -- the next one is not in the mask
  pub passes_next : bit_at mask n ≢ 1 → RousedBelow (n + 1) mask roused
  passes_next clear = let here = so_far.above n (omega arith) in let low = bit_at-lt mask n in
      let same : bit_at roused n ≡ bit_at mask n = omega arith in record {
        below = λ i low. dite (ℕ_discrete i n)
            (λ (e : i ≡ n). subst (λ (k : ℕ). bit_at roused k ≡ bit_at mask k) (sym e) same)
            (λ (ne : i ≢ n). so_far.below i (omega arith));
        above = λ i high. so_far.above i (omega arith);
      }

-- all of them
pub roused_all : (n mask roused : ℕ) → mask < 2 ^ n → RousedBelow n mask roused → roused ≡ mask
roused_all n mask roused fits so_far = same_from_bits roused mask (λ i. dite (dec_le n i)
    (λ (high : n ≤ i). so_far.above i high ∙ sym (bit_at_above mask n i fits high))
    (λ (low : ¬ (n ≤ i)). so_far.below i (omega arith)))
