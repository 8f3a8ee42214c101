-- The busy tags of the words so far are marked, and no other bit is.
use Rattle.std.specs.Prelude.{◌*◌, ◌≡◌}
use Rattle.tag_pool.specs.Looks.{is_busy_in}
use Rattle.tag_pool.specs.Hands.{IsStillOf}
use Rattle.std.proofs.Common.{List, length, min, ℕ}
use Rattle.tag_pool.specs.Bits.{Marks}
use Rattle.tag_layout.specs.Layout.{word_bits}
use Rattle.tag_pool.proofs.Around.{SoFar}
use Rattle.tag_pool.proofs.pool.Pool.pack.Given as goal

abbrev pub invariant-loop-word : goal.invariant-loop-word
invariant-loop-word g l = let sizes = l.layout in record {
  own : IsStillOf l.self l.fn.hand l.hand;
  room : length l.bytes ≡ length l.fn.bytes;
  found : (found : List (ℕ × ℕ)) × SoFar l.kind l.word found l.fn.hand l.hand
      × Marks 8 0 (min (l.word * word_bits sizes) sizes.depth) (is_busy_in sizes found) l.initial.bytes l.bytes;
}
