-- A push keeps the rule.
use Rattle.posted_queue.proofs.LineMoves.{pushes}
use Rattle.posted_queue.proofs.line.push_number.Goals as goal

pub push_as-requires-clause-rule : goal.push_as-requires-clause-rule
push_as-requires-clause-rule g c = (pushes _ _ _ _, λ items tracks h at. tt)
