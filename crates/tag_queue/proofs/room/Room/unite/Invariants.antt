-- The parts that are left, followed by those of the hands made in reverse, are all parts; there is room for the rest.
use Rattle.std.specs.Prelude.{◌++◌, ◌+◌, ◌≡◌, ◌≤◌}
use Rattle.std.proofs.Common.{map, reverse, vec_capacity, vec_len}
use Rattle.tag_queue.specs.Hands.{in_pool}
use Rattle.tag_queue.specs.Parts.{shell_of}
use Rattle.tag_queue.proofs.room.Room.unite.Given as goal

abbrev pub invariant-loop-inner : goal.invariant-loop-inner
invariant-loop-inner g l = record {
  inners : l.inners.items ++ map in_pool (reverse l.hands.items) ≡ l.fn.inners.items;
  shells : l.shells.items ++ map shell_of (reverse l.hands.items) ≡ l.fn.shells.items;
  left : vec_len l.inners ≡ vec_len l.shells;
  fit : vec_len l.hands + vec_len l.inners ≤ vec_capacity l.hands;
  inners_room : vec_capacity l.inners ≡ vec_capacity l.fn.inners;
  shells_room : vec_capacity l.shells ≡ vec_capacity l.fn.shells;
}

abbrev pub decreases-loop-inner : goal.decreases-loop-inner
decreases-loop-inner g l = vec_len l.inners
