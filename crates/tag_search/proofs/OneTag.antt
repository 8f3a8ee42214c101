-- The bit of a mask of one bit, and the conjunction of two tests.
use Rattle.std.specs.Prelude.{◌&&◌, ◌^◌, ◌≡◌}
use Rattle.tag_search.proofs.Uses.{arith, bit_at, bit_at-pow_other, Bool, dite, false, refl, true, ℕ, ℕ_discrete}

-- the only bit of a power of two is at its exponent
pub one_place : (k i : ℕ) → bit_at (2 ^ k) i ≡ 1 → i ≡ k
one_place k i one = dite (ℕ_discrete i k) (λ e. e) (λ ne. absurd (let none = bit_at-pow_other k i ne in omega arith))

-- a conjunction is true only if both tests are
pub both_true : (a b : Bool) → (a && b) ≡ true → (a ≡ true) × (b ≡ true)
both_true true true h = (refl, refl)
both_true true false h = absurd cc
both_true false b h = absurd cc

pub and_true : (a b : Bool) → a ≡ true → b ≡ true → (a && b) ≡ true
and_true true b h k = k
and_true false b h k = absurd cc
