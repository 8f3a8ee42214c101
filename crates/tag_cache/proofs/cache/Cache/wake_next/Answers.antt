-- The hand keeps its tags.
use Rattle.tag_cache.proofs.Uses.{rules, told_by}
use Rattle.tag_cache.proofs.Ringing.{sees_rests}
use Rattle.tag_cache.proofs.Steady.{owns_rests, same_tags}
use Rattle.tag_cache.proofs.cache.Cache.wake_next.Goals as goal

pub invariant_of-self : goal.invariant_of-self
invariant_of-self g c = let wakes = c.wake_next.ensures in
    owns_rests c.args.pool.now c.args.self.now c.wake_next.new.hand c.requires wakes.hand.0
    (sees_rests c.args.kind 1 _ (told_by c.wake_next.result) _ _ wakes.same wakes.wakes)

pub returns-clause-same : goal.returns-clause-same
returns-clause-same g c = same_tags c.args.self.now _ (search rules) (search rules)
    (sees_rests c.args.kind 1 _ (told_by c.wake_next.result) _ _ c.wake_next.ensures.same c.wake_next.ensures.wakes)
