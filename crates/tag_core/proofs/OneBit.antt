-- One bit of a word, and a mask of one bit.
use Rattle.std.specs.Prelude.{◌*◌, ◌+◌, ◌-◌, ◌<◌, ◌^◌, ◌≡◌, ◌⊎◌}
use Rattle.tag_core.proofs.Uses.{and_comm, and_pow, ap, arith, bit_at, bit_at-lt, bit_at_not, count_ones, inl, inr, ones_cat, pow_pos, refl, suc, w64, without, zero, ℕ, ◌∙◌}
use lib.Count.{ones}

-- a power of two has one bit
pub count_ones-pow : (k : ℕ) → count_ones (2 ^ k) ≡ 1
unfolding ones
count_ones-pow k = let e : 2 ^ k ≡ 1 * 2 ^ k + 0 = omega arith in ap count_ones e ∙ ones_cat k 1 0 (pow_pos k)

-- zero has none
pub count_ones-zero : count_ones 0 ≡ 0
unfolding ones
count_ones-zero = refl

-- a bit is 1 or 0
pub bit_is : (n k : ℕ) → (bit_at n k ≡ 1) ⊎ (bit_at n k ≡ 0)
bit_is n k = cases (bit_at n k) refl (bit_at-lt n k)
  where
    cases : (b : ℕ) → bit_at n k ≡ b → b < 2 → (bit_at n k ≡ 1) ⊎ (bit_at n k ≡ 0)
    cases zero e l = inr e
    cases (suc zero) e l = inl e
    cases (suc (suc b)) e l = absurd (omega arith)

module _ (found k : ℕ) (fits : found < 2 ^ 64) (low : k < 64) where
  -- the mask that a claim of one place won, by the bit that it found there
  without-pow : without (2 ^ k) found ≡ (1 - bit_at found k) * 2 ^ k
  without-pow = and_comm (2 ^ k) (2 ^ 64 - 1 - found) ∙ and_pow (2 ^ 64 - 1 - found) k
      ∙ ap (λ (x : ℕ). x * 2 ^ k) (bit_at_not w64 found k fits low)

  -- a claim of one place wins its bit if it found the place clear
  pub won_where_clear : bit_at found k ≡ 0 → without (2 ^ k) found ≡ 2 ^ k
  won_where_clear clear = without-pow ∙ ap (λ (x : ℕ). (1 - x) * 2 ^ k) clear ∙ omega arith

  -- and nothing if it found the place taken
  pub none_where_taken : bit_at found k ≡ 1 → without (2 ^ k) found ≡ 0
  none_where_taken taken = without-pow ∙ ap (λ (x : ℕ). (1 - x) * 2 ^ k) taken ∙ omega arith
