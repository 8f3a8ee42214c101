-- The callers of the hands so far, followed by those still to come, are the callers passed in.
use Rattle.std.specs.Prelude.{◌++◌, ◌≡◌}
use Rattle.tag_pool.proofs.Uses.{All, map}
use Rattle.std.specs.Vec.Iter.{into_iter_items, into_iter_len}
use Rattle.tag_pool.specs.Opening.{HasHints, IsSplitAt, ordinary_part, reserved_part}
use Rattle.tag_pool.proofs.opens.join.Given as goal

abbrev pub invariant-loop-reserved : goal.invariant-loop-reserved
invariant-loop-reserved g l = record {
  reserved : map reserved_part l.hands.items ++ into_iter_items l.callers ≡ l.fn.reserved.items;
  ordinary : map ordinary_part l.hands.items ++ into_iter_items l.others ≡ l.fn.ordinary.items;
  left : into_iter_len l.callers ≡ into_iter_len l.others;
  split : All (IsSplitAt l.reserved_count) l.hands.items;
  hints : All (HasHints l.hint) l.hands.items;
}

abbrev pub decreases-loop-reserved : goal.decreases-loop-reserved
decreases-loop-reserved g l = into_iter_len l.callers
