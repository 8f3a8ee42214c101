-- The tags in the words so far are held.
use Rattle.std.specs.Prelude.{◌*◌, ◌<◌, ◌≡◌}
use Rattle.tag_pool.proofs.Uses.{word_bits, ℕ}
use Rattle.tag_core.specs.Callers.{Holds}
use Rattle.tag_pool.specs.Masks.{mask_bit}
use Rattle.tag_pool.proofs.clears.masks.words.are_held_across.Given as goal

abbrev pub invariant-loop-word : goal.invariant-loop-word
invariant-loop-word g l = (t : ℕ) → mask_bit l.first l.mask t ≡ 1 → t < l.word * word_bits l.map.shape.layout → Holds l.caller t
