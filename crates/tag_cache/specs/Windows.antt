-- Sets of tags by a window: its first tag and a mask.
use Rattle.std.specs.Prelude.{◌-◌, ◌≡◌, ◌≤◌}
use Rattle.tag_cache.specs.Uses.{Hand, ℕ}
use Rattle.std.specs.Int.{bit_at}
use Rattle.tag_pool.specs.Hands as hands

-- the tag is in the window that begins with this number, and its bit there is 1
abbrev pub IsIn : ℕ → ℕ → ℕ → Type 0
IsIn first mask tag = (first ≤ tag) × (bit_at mask (tag - first) ≡ 1)

-- the hand holds each of these tags, and they are ordinary
abbrev pub AreOwn : {R : Type 0} → Hand R → ℕ → ℕ → Type 0
AreOwn hand first mask = (tag : ℕ) → IsIn first mask tag → hands.Holds hand tag × (hands.split_of hand ≤ tag)
