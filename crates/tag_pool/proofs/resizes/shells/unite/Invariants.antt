-- Each caller and shell is either in an hand or still in its iterator, and those that are left fit together.
use Rattle.std.specs.Prelude.{◌++◌, ◌+◌, ◌≡◌, ◌≤◌}
use Rattle.tag_pool.specs.Opening.{ordinary_part}
use Rattle.tag_pool.specs.Shells.{FitShells, shell_of}
use Rattle.std.specs.Vec.Iter.{into_iter_items, into_iter_len}
use Rattle.std.proofs.Common.{map, vec_capacity, vec_len}
use Rattle.tag_pool.proofs.resizes.shells.unite.Given as goal

abbrev pub invariant-loop-caller : goal.invariant-loop-caller
invariant-loop-caller g l = record {
  callers : map ordinary_part l.hands.items ++ into_iter_items l.callers ≡ l.fn.callers.items;
  shells : map shell_of l.hands.items ++ into_iter_items l.shells ≡ l.fn.shells.items;
  fit : FitShells (into_iter_items l.callers) (into_iter_items l.shells);
  room : vec_len l.hands + into_iter_len l.callers ≤ vec_capacity l.hands;
}

abbrev pub decreases-loop-caller : goal.decreases-loop-caller
decreases-loop-caller g l = into_iter_len l.callers
