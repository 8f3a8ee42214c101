-- The hands are unchanged, and so is what is kept.
use Rattle.std.proofs.Common.{rules}
use Rattle.tag_cache.proofs.Meetings.{meets_rests}
use Rattle.tag_cache.proofs.Steady.{owns_rests, same_tags}
use Rattle.tag_cache.proofs.cache.Cache.meet_hand.Goals as goal

pub invariant_of-self : goal.invariant_of-self
invariant_of-self g c = owns_rests c.args.pool.now c.args.self.now c.meet.new.first c.requires.cache
    c.meet.ensures.hands.0.0 (meets_rests _ _ c.meet.ensures.unchanged.0)

pub returns-clause-same : goal.returns-clause-same
returns-clause-same g c = same_tags c.args.self.now _ (search rules) (search rules)
    (meets_rests _ _ c.meet.ensures.unchanged.0)
