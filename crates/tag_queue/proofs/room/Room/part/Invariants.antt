-- The parts of the hands left, followed by those taken out in reverse, are all parts; there is room for the rest.
use Rattle.std.specs.Prelude.{◌++◌, ◌+◌, ◌≡◌, ◌≤◌}
use Rattle.std.proofs.Common.{map, reverse, vec_capacity, vec_len}
use Rattle.tag_queue.specs.Hands.{all_in_pool}
use Rattle.tag_queue.specs.Parts.{shell_of}
use Rattle.tag_queue.proofs.room.Room.part.Given as goal

abbrev pub invariant-loop-hand : goal.invariant-loop-hand
invariant-loop-hand g l = record {
  inners : all_in_pool l.hands.items ++ reverse l.inners.items ≡ all_in_pool l.initial.hands.items;
  shells : map shell_of l.hands.items ++ reverse l.shells.items ≡ map shell_of l.initial.hands.items;
  inners_fit : vec_len l.inners + vec_len l.hands ≤ vec_capacity l.inners;
  shells_fit : vec_len l.shells + vec_len l.hands ≤ vec_capacity l.shells;
  room : vec_capacity l.hands ≡ vec_capacity l.initial.hands;
}

abbrev pub decreases-loop-hand : goal.decreases-loop-hand
decreases-loop-hand g l = vec_len l.hands
