-- The hand remains one of the pool's.
use Rattle.tag_pool.specs.Hands.{IsHandOf}
use Rattle.request_pool.proofs.pool.serve.Given as goal

abbrev pub invariant-loop-number : goal.invariant-loop-number
invariant-loop-number g l = IsHandOf l.pool l.hand
