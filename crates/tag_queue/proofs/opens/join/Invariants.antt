-- Each part passed in is either in a hand made so far or still in its iterator, in the same order.
use Rattle.std.specs.Prelude.{◌++◌, ◌≡◌}
use Rattle.std.proofs.Common.{map}
use Rattle.std.specs.Vec.Iter.{into_iter_items, into_iter_len}
use Rattle.tag_queue.specs.Hands.{in_pool, teller_of, waiter_of}
use Rattle.tag_queue.proofs.opens.join.Given as goal

abbrev pub invariant-loop-inner : goal.invariant-loop-inner
invariant-loop-inner g l = record {
  inners : map in_pool l.hands.items ++ into_iter_items l.inners ≡ l.fn.inners.items;
  tellers : map teller_of l.hands.items ++ into_iter_items l.tellers ≡ l.fn.tellers.items;
  waiters : map waiter_of l.hands.items ++ into_iter_items l.waiters ≡ l.fn.waiters.items;
  tellers_left : into_iter_len l.inners ≡ into_iter_len l.tellers;
  waiters_left : into_iter_len l.inners ≡ into_iter_len l.waiters;
}

abbrev pub decreases-loop-inner : goal.decreases-loop-inner
decreases-loop-inner g l = into_iter_len l.inners
