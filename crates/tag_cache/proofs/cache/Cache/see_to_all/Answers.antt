-- The hand keeps its tags.
use Rattle.std.proofs.Common.{rules}
use Rattle.tag_cache.proofs.Ringing.{sees_rests}
use Rattle.tag_cache.proofs.Steady.{owns_rests, same_tags}
use Rattle.tag_cache.proofs.cache.Cache.see_to_all.Goals as goal

pub invariant_of-self : goal.invariant_of-self
invariant_of-self g c = owns_rests c.args.pool.now c.args.self.now c.see_to_all.new.hand c.requires
    c.see_to_all.ensures.hand.0 (sees_rests c.args.kind 1 _ c.see_to_all.result _ _ c.see_to_all.ensures.same c.see_to_all.ensures.sees_to)

pub returns-clause-same : goal.returns-clause-same
returns-clause-same g c = same_tags c.args.self.now _ (search rules) (search rules)
    (sees_rests c.args.kind 1 _ c.see_to_all.result _ _ c.see_to_all.ensures.same c.see_to_all.ensures.sees_to)
