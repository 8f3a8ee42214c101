-- The hand gets up, and then sees to all tags: it keeps its own.
use Rattle.tag_cache.proofs.Uses.{rules, ◌∙◌}
use Rattle.tag_model.proofs.HoldingFacts.{same_then_same}
use Rattle.tag_cache.proofs.Ringing.{gets_up_rests, sees_rests}
use Rattle.tag_cache.proofs.Steady.{rests_then, same_tags}
use Rattle.tag_cache.proofs.cache.Cache.end_wait.Goals as goal

pub returns-clause-ends : goal.returns-clause-ends
returns-clause-ends g c = let rises = c.get_up.ensures in let sees = c.see_to_all.ensures in record {
  hand = record {
    was_told = c.get_up.result;
    risen = c.get_up.new.hand;
    gets_up = rises.gets_up;
    sees = record { set = sees.sees_to; saw = sees.saw };
    up = sees.sees_to.changed.waits ∙ rises.gets_up.changed.up;
    same = same_then_same rises.same sees.same;
  };
  same = same_tags c.args.self.now _ (search rules) (search rules) (rests_then _ c.get_up.new.hand _
      (gets_up_rests c.args.kind c.get_up.result _ _ rises.same rises.gets_up)
      (sees_rests c.args.kind 1 _ c.see_to_all.result _ _ sees.same sees.sees_to));
}
