-- The hand gets up, and then sees to all tags.
use Rattle.tag_c.proofs.Uses.{◌∙◌}
use Rattle.tag_model.proofs.HoldingFacts.{same_then_same}
use Rattle.tag_c.proofs.rounds.bare.end_wait.Goals as goal

pub returns-clause-ends : goal.returns-clause-ends
returns-clause-ends c = let rises = c.get_up.ensures in let sees = c.see_to_all.ensures in record {
  was_told = c.get_up.result;
  risen = c.get_up.new.hand;
  gets_up = rises.gets_up;
  sees = record { set = sees.sees_to; saw = sees.saw };
  up = sees.sees_to.changed.waits ∙ rises.gets_up.changed.up;
  same = same_then_same rises.same sees.same;
}
