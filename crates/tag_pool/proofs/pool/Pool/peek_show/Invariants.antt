-- The sums are those of the words loaded so far.
use Rattle.std.specs.Prelude.{◌*◌, ◌≡◌}
use Rattle.sums.specs.Below.{count_below}
use Rattle.tag_pool.specs.Looks.{is_aside_in, is_busy_in}
use Rattle.tag_pool.specs.Hands.{layout_of}
use Rattle.std.proofs.Common.{List, length, min, ℕ}
use Rattle.tag_layout.specs.Layout.{word_bits}
use Rattle.tag_pool.proofs.pool.Pool.peek_show.Given as goal

abbrev pub invariant-loop-word : goal.invariant-loop-word
invariant-loop-word g l = let sizes = layout_of l.self l.kind in
    (found : List (ℕ × ℕ)) × (length found ≡ l.word)
    × (l.busy ≡ count_below (is_busy_in sizes found) (min (l.word * word_bits sizes) sizes.depth))
    × (l.cleared ≡ count_below (is_aside_in sizes found) (min (l.word * word_bits sizes) sizes.depth))
