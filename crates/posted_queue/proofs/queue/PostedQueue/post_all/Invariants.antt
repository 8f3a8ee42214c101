-- Between two searches the hand holds no token.
use Rattle.tag_pool.specs.Hands.{IsStillOf}
use Rattle.tag_pool.specs.Opening.{HoldsNone}
use Rattle.posted_queue.specs.Hands.{tokens_of}
use Rattle.posted_queue.proofs.queue.PostedQueue.post_all.Given as goal

abbrev pub invariant-loop : goal.invariant-loop
invariant-loop l = record {
  own : IsStillOf (tokens_of l.self) l.initial.hand l.hand;
  none : HoldsNone l.hand;
}
