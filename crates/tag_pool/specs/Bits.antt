-- Bits numbered across a list of words.
use Rattle.std.specs.Prelude.{◌%◌, ◌+◌, ◌/◌, ◌<◌, ◌≡◌, ◌≤◌, ◌⊎◌}
use Rattle.std.specs.Int.{bit_at}
use Rattle.std.specs.Prelude.{Bool, List, cond, max, slice_index, ℕ}

-- bit n of a list of words that have `width` bits each, low bit first
abbrev pub bit_in : ℕ → List ℕ → ℕ → ℕ
bit_in width words n = bit_at (slice_index words (n / width)) (n % width)

-- of the `count` bits from `first` on, those whose offset passes the test are set; all other bits are unchanged
pub record Marks (width first count : ℕ) (test : ℕ → Bool) (old new : List ℕ) : Type 0 where
  pub inside : (k : ℕ) → k < count → bit_in width new (first + k)
      ≡ max (bit_in width old (first + k)) (cond (test k) 1 0)
  pub outside : (n : ℕ) → (n < first) ⊎ (first + count ≤ n) → bit_in width new n ≡ bit_in width old n
