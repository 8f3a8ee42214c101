-- The sums are those of the words looked at so far.
use Rattle.std.specs.Prelude.{◌*◌, ◌≡◌}
use Rattle.sums.specs.Below.{count_below}
use Rattle.tag_pool.specs.Looks.{is_aside_in, is_busy_in}
use Rattle.tag_pool.specs.Hands.{IsStillOf, layout_of}
use Rattle.std.proofs.Common.{List, min, ℕ}
use Rattle.tag_layout.specs.Layout.{word_bits}
use Rattle.tag_pool.proofs.Around.{SoFar}
use Rattle.tag_pool.proofs.pool.Pool.show.Given as goal

abbrev pub invariant-loop-word : goal.invariant-loop-word
invariant-loop-word g l = let sizes = layout_of l.self l.kind in record {
  own : IsStillOf l.self l.fn.hand l.hand;
  found : (found : List (ℕ × ℕ)) × SoFar l.kind l.word found l.fn.hand l.hand
      × (l.busy ≡ count_below (is_busy_in sizes found) (min (l.word * word_bits sizes) sizes.depth))
      × (l.cleared ≡ count_below (is_aside_in sizes found) (min (l.word * word_bits sizes) sizes.depth));
}
