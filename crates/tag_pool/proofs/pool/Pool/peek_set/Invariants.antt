-- The busy tags of the words so far are marked and counted.
use Rattle.std.specs.Prelude.{◌*◌, ◌≡◌}
use Rattle.sums.specs.Below.{count_below}
use Rattle.tag_pool.specs.Looks.{is_busy_in}
use Rattle.std.proofs.Common.{List, length, min, ℕ}
use Rattle.tag_pool.specs.Bits.{Marks}
use Rattle.tag_layout.specs.Layout.{word_bits}
use Rattle.tag_pool.proofs.pool.Pool.peek_set.Given as goal

abbrev pub invariant-loop-word : goal.invariant-loop-word
invariant-loop-word g l = let sizes = l.layout in record {
  room : length l.into ≡ length l.fn.into;
  found : (found : List (ℕ × ℕ)) × (length found ≡ l.word)
      × (l.count ≡ count_below (is_busy_in sizes found) (min (l.word * word_bits sizes) sizes.depth))
      × Marks 64 l.first (min (l.word * word_bits sizes) sizes.depth) (is_busy_in sizes found) l.fn.into l.into;
}
