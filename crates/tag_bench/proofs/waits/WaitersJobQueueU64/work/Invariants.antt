-- The hand stays one of the queue.
use Rattle.tag_queue.specs.Hands.{IsHandOf}
use Rattle.tag_bench.proofs.waits.WaitersJobQueueU64.work.Given as goal

abbrev pub invariant-loop-round : goal.invariant-loop-round
invariant-loop-round g l = IsHandOf l.queue l.hand
