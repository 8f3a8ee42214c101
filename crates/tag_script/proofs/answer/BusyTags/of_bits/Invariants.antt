-- The list has the tags whose bits are 1 in the words so far and, in the inner loop, in the places so far of this word.
use Rattle.tag_script.proofs.Uses.{filter, is_marked, range}
use Rattle.std.proofs.Common.{◌≡◌, ◌+◌, ◌*◌}
use Rattle.tag_script.proofs.answer.BusyTags.of_bits.Given as goal

abbrev pub invariant-loop-index : goal.invariant-loop-index
invariant-loop-index l = l.tags.items ≡ filter (is_marked l.bits) (range (64 * l.index))

abbrev pub invariant-loop-place : goal.invariant-loop-place
invariant-loop-place l = l.tags.items ≡ filter (is_marked l.bits) (range (64 * l.index + l.place))
