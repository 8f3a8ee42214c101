-- Reports whose loads are in no list of steps: nothing links what they tell to the words as they were.
use Rattle.std.specs.Prelude.{◌*◌, ◌+◌, ◌<◌, ◌≡◌, ◌≤◌}
use Rattle.sums.specs.Below.{count_below}
use Rattle.tag_layout.specs.Layout.{Layout, word_bits, words}
use Rattle.std.specs.Prelude.{List, length, nat_eq, ℕ}
use Rattle.tag_pool.specs.declared.shown.Shown.{Shown}
use Rattle.tag_pool.specs.Bits.{bit_in, Marks}
use Rattle.tag_pool.specs.Looks.{is_busy_in}

-- the bits of the tags of one set that are busy in some words are set, where the first tag of the set has bit `first`
pub record PeeksSet (l : Layout) (first : ℕ) (before after : List ℕ) (count : ℕ) : Type 0 where
  pub found : List (ℕ × ℕ)
  pub marks : Marks 64 first l.depth (is_busy_in l found) before after
  pub count_is : count ≡ count_below (is_busy_in l found) l.depth

-- no bit past the last tag is set, and the count is the number of bits that are
pub record PeeksBusy (total : ℕ) (bits : List ℕ) (count : ℕ) : Type 0 where
  pub past : (tag : ℕ) → total ≤ tag → tag < 64 * length bits → bit_in 64 bits tag ≡ 0
  pub count_is : count ≡ count_below (λ tag. nat_eq (bit_in 64 bits tag) 1) total

-- the sizes are those of the set, and no tag is both busy and set aside
pub record PeeksShow (l : Layout) (shown : Shown) : Type 0 where
  pub depth : shown.depth ≡ l.depth
  pub bits_per_word : shown.bits_per_word ≡ word_bits l
  pub map_nr : shown.map_nr ≡ words l
  pub within : shown.busy + shown.cleared ≤ l.depth
