-- Each hand of the tokens is in a hand made so far or still to come, in the same order.
use Rattle.std.specs.Prelude.{◌++◌, ◌≡◌}
use Rattle.std.proofs.Common.{All, map}
use Rattle.std.specs.Vec.Iter.{into_iter_items, into_iter_len}
use Rattle.tag_pool.specs.Hands.{IsHandOf, number_of}
use Rattle.tag_pool.specs.Opening.{HoldsNone}
use Rattle.posted_queue.specs.Hands.{numbers_of, tokens_of}
use Rattle.posted_queue.specs.Opening.{IsNewHand}
use Rattle.posted_queue.proofs.queue.PostedQueue.join.Given as goal

abbrev pub invariant-loop-tokens : goal.invariant-loop-tokens
invariant-loop-tokens l = record {
  numbers : numbers_of l.joined.items ++ map number_of (into_iter_items l.coming) ≡ map number_of l.fn.hands.items;
  new : All (IsNewHand l.self) l.joined.items;
  own : All (IsHandOf (tokens_of l.self)) (into_iter_items l.coming);
  none : All HoldsNone (into_iter_items l.coming);
}

abbrev pub decreases-loop-tokens : goal.decreases-loop-tokens
decreases-loop-tokens l = into_iter_len l.coming
