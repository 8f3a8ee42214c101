-- The busy tags of the words so far are marked and counted, among them each tag of these words that the hand holds.
use Rattle.std.specs.Prelude.{◌*◌, ◌<◌, ◌≡◌}
use Rattle.tag_pool.specs.Lending.{side_of}
use Rattle.sums.specs.Below.{count_below}
use Rattle.tag_pool.specs.Looks.{is_busy_in}
use Rattle.tag_pool.specs.Hands.{IsStillOf}
use Rattle.std.proofs.Common.{List, length, min, true, ℕ}
use Rattle.tag_pool.specs.Bits.{Marks}
use Rattle.tag_layout.specs.Layout.{word_bits, word_of}
use Rattle.tag_pool.specs.Sides.{Holds}
use Rattle.tag_pool.proofs.Around.{SoFar}
use Rattle.tag_pool.proofs.pool.Pool.list_set.Given as goal

abbrev pub invariant-loop-word : goal.invariant-loop-word
invariant-loop-word g l = let sizes = l.layout in record {
  own : IsStillOf l.self l.fn.hand l.hand;
  room : length l.into ≡ length l.fn.into;
  found : (found : List (ℕ × ℕ)) × SoFar l.kind l.word found l.fn.hand l.hand
      × (l.count ≡ count_below (is_busy_in sizes found) (min (l.word * word_bits sizes) sizes.depth))
      × Marks 64 l.first (min (l.word * word_bits sizes) sizes.depth) (is_busy_in sizes found) l.fn.into l.into
      × ((tag : ℕ) → Holds (side_of l.fn.hand l.kind) tag → word_of sizes tag < l.word
      → is_busy_in sizes found tag ≡ true);
}
