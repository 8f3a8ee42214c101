-- The tags so far are held.
use Rattle.tag_script.proofs.Uses.{get_or, is_busy, plain_words, pool_of, true, word_of, ℕ}
use Rattle.std.proofs.Common.{◌≡◌, ◌<◌}
use Rattle.tag_layout.specs.Layout.{place_of}
use Rattle.tag_script.proofs.clearing.are_held_once.Given as goal

abbrev pub invariant-loop-tag : goal.invariant-loop-tag
invariant-loop-tag l = (k : ℕ) → k < l.tag-index → is_busy (pool_of (plain_words l.port))
    (word_of l.port.layout (get_or l.tags k 0)) (place_of l.port.layout (get_or l.tags k 0)) ≡ true
