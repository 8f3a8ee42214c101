-- Shows: sizes, and sums over the words that the call found.
use Rattle.std.specs.Prelude.{◌≡◌}
use Rattle.sums.specs.Below.{count_below}
use Rattle.tag_layout.specs.Layout.{Layout, word_bits, words}
use Rattle.std.specs.Prelude.{List, length, ℕ}
use Rattle.tag_pool.specs.declared.hand.Hand.{Hand}
use Rattle.tag_pool.specs.declared.kind.Kind.{Kind}
use Rattle.tag_pool.specs.declared.shown.Shown.{Shown}
use Rattle.tag_pool.specs.declared.pool.Pool.{Pool}
use Rattle.tag_pool.specs.Hands.{layout_of, Changes}
use Rattle.tag_pool.specs.Holding.{HoldsSame}
use Rattle.tag_pool.specs.Looks.{MakesLooks, looks_from, is_busy_in, is_aside_in}

-- the show of these words
abbrev pub shown_of : Layout → List (ℕ × ℕ) → Shown
shown_of l found = record {
  depth = l.depth;
  busy = count_below (is_busy_in l found) l.depth;
  cleared = count_below (is_aside_in l found) l.depth;
  bits_per_word = word_bits l;
  map_nr = words l;
}

-- the hand looked once at each word of the set, in order, and found these; it holds the same tags as before
pub record LooksAround {R : Type 0} (l : Layout) (kind : Kind) (found : List (ℕ × ℕ)) (old new : Hand R) : Type 0 where
  pub each : length found ≡ words l
  pub looks : Changes kind (MakesLooks (looks_from 0 found)) old new
  pub same : HoldsSame old new

-- the show is the one of the words that this call found
pub record Shows {R : Type 0} (pool : Pool R) (kind : Kind) (shown : Shown) (old new : Hand R) : Type 0 where
  pub found : List (ℕ × ℕ)
  pub around : LooksAround (layout_of pool kind) kind found old new
  pub shown_is : shown ≡ shown_of (layout_of pool kind) found
