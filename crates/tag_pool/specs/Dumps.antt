-- Dumps: the busy tags of a set as bytes.
use Rattle.std.specs.Prelude.{◌&&◌, ◌++◌, ◌≡◌}
use Rattle.std.specs.Prelude.{List, cond, drop, length, nat_lt, ℕ}
use Rattle.std.specs.Int.{div_ceil}
use Rattle.tag_layout.specs.Layout.{Layout}
use Rattle.tag_pool.specs.declared.hand.Hand.{Hand}
use Rattle.tag_pool.specs.declared.kind.Kind.{Kind}
use Rattle.tag_pool.specs.Bits.{bit_in}
use Rattle.tag_pool.specs.Looks.{is_busy_in}
use Rattle.tag_pool.specs.Shows.{LooksAround}

-- exactly the bits of the tags that the call found busy are set in the bytes, eight tags a byte, low bit first
pub record Packs {R : Type 0} (l : Layout) (kind : Kind) (bytes : List ℕ) (old new : Hand R) : Type 0 where
  pub found : List (ℕ × ℕ)
  pub around : LooksAround l kind found old new
  pub bits_are : (tag : ℕ) → bit_in 8 bytes tag ≡ cond (nat_lt tag l.depth && is_busy_in l found tag) 1 0

-- the first `count` bytes are those of the set, and the bytes after them are unchanged
pub record Dumps {R : Type 0} (l : Layout) (kind : Kind) (before after : List ℕ) (count : ℕ) (old new : Hand R) : Type 0
  where
    pub bytes : List ℕ
    pub packed : Packs l kind bytes old new
    pub count_is : count ≡ div_ceil l.depth 8
    pub long : length bytes ≡ count
    pub after_is : after ≡ bytes ++ drop count before
