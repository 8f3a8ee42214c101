-- Runs of two lists.
use Rattle.tag_model.proofs.RunFacts.{joins}
use Rattle.tag_model.proofs.laws.runs_join.Goals as goal

pub returns : goal.returns
returns c l callers w first second = joins l callers w first second
