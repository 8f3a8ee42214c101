-- A pop keeps the rule.
use Rattle.posted_queue.proofs.LineMoves.{pops}
use Rattle.posted_queue.proofs.line.pop_number.Goals as goal

pub pop_as-requires-clause-rule : goal.pop_as-requires-clause-rule
pop_as-requires-clause-rule g c = (pops _ _, λ items tracks h at. tt)
