-- An input that was read whole is within the size limit, so no later fault is `TooLong`.
use Rattle.std.proofs.Common.{rules}
use Rattle.tag_runs.proofs.InputFacts.{stops_short}
use Rattle.tag_runs.proofs.run.run_play.Goals as goal

pub returns-in_default-clause-stopped : goal.returns-in_default-clause-stopped
returns-in_default-clause-stopped g c = search (rules, stops_short)

pub returns-clause-stopped : goal.returns-clause-stopped
returns-clause-stopped g c = search (rules, stops_short)
