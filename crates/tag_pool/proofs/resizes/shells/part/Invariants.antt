-- Each hand is either taken apart or still in the iterator, in the same order, and there is room for the rest.
use Rattle.std.specs.Prelude.{◌++◌, ◌+◌, ◌≡◌, ◌≤◌}
use Rattle.tag_pool.specs.Opening.{ordinary_part}
use Rattle.std.specs.Vec.Iter.{into_iter_items, into_iter_len}
use Rattle.std.proofs.Common.{map, vec_capacity, vec_len}
use Rattle.tag_pool.specs.Shells.{shell_of}
use Rattle.tag_pool.proofs.resizes.shells.part.Given as goal

abbrev pub invariant-loop-hand : goal.invariant-loop-hand
invariant-loop-hand g l = record {
  callers : l.callers.items ++ map ordinary_part (into_iter_items l.hands) ≡ map ordinary_part l.fn.hands.items;
  shells : l.shells.items ++ map shell_of (into_iter_items l.hands) ≡ map shell_of l.fn.hands.items;
  callers_fit : vec_len l.callers + into_iter_len l.hands ≤ vec_capacity l.callers;
  shells_fit : vec_len l.shells + into_iter_len l.hands ≤ vec_capacity l.shells;
}

abbrev pub decreases-loop-hand : goal.decreases-loop-hand
decreases-loop-hand g l = into_iter_len l.hands
