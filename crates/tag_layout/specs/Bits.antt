-- Places of a word, of which each is a bit: 1 is taken.
use Rattle.std.specs.Prelude.{◌≡◌, ℕ, ◌<◌, ◌≤◌}
use Rattle.std.specs.Int.{bit_at}

-- each place from the first up to the limit is taken
abbrev pub AllSet : ℕ → ℕ → ℕ → Type 0
AllSet word from limit = (place : ℕ) → from ≤ place → place < limit → bit_at word place ≡ 1

-- the place is the least in the range that is not taken
pub record IsFirstClear (word from limit place : ℕ) : Type 0 where
  pub behind : from ≤ place
  pub within : place < limit
  pub clear : bit_at word place ≡ 0
  pub first : AllSet word from place
