-- Each hand stays one of the pool, and of the queue.
use Rattle.tag_pool.specs.Hands.{IsHandOf}
use Rattle.posted_queue.specs.Hands.{IsOwnOf}
use Rattle.posted_queue.proofs.tests.expect.Given as goal

abbrev pub invariant-loop-second : goal.invariant-loop-second
invariant-loop-second g l = record {
  hand : IsHandOf l.pool l.hand;
  own : IsOwnOf l.queue l.own;
  other : IsHandOf l.pool l.other;
  its : IsOwnOf l.queue l.its;
}
