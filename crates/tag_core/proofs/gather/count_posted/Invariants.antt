-- The states of the tags so far that are not 0 are counted.
use Rattle.std.specs.Prelude.{◌≡◌, ◌≤◌}
use Rattle.tag_core.proofs.Uses.{posted_by_word, slice_index, slots_items, sum_below}
use Rattle.tag_core.specs.Spacing.{state_at}
use Rattle.tag_core.proofs.gather.count_posted.Given as goal

abbrev pub invariant-loop-tag : goal.invariant-loop-tag
invariant-loop-tag g l =
    (l.posted ≡ sum_below (λ t. posted_by_word (slice_index (slots_items l.ended.words) (state_at l.layout t)))
    l.tag) ×
    (l.posted ≤ l.tag)
