-- The hand is among those of the rule.
use Rattle.posted_queue.proofs.LineMoves.{seen}
use Rattle.posted_queue.proofs.queue.PostedQueue.queued.Goals as goal

pub len_as-requires-clause-rule : goal.len_as-requires-clause-rule
len_as-requires-clause-rule g c = seen _ _
