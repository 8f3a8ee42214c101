-- The hands left, followed by those taken out in reverse, are all hands; there is room for the rest.
use Rattle.std.specs.Prelude.{◌++◌, ◌+◌, ◌≡◌, ◌≤◌}
use Rattle.std.proofs.Common.{map, reverse, vec_capacity, vec_len}
use Rattle.posted_queue.specs.Hands.{in_tokens}
use Rattle.posted_queue.proofs.gather.part.Given as goal

abbrev pub invariant-loop-hand : goal.invariant-loop-hand
invariant-loop-hand l = record {
  inners : map in_tokens l.hands.items ++ reverse l.room.items ≡ map in_tokens l.fn.hands.items;
  fit : vec_len l.room + vec_len l.hands ≤ vec_capacity l.room;
}

abbrev pub decreases-loop-hand : goal.decreases-loop-hand
decreases-loop-hand l = vec_len l.hands
