-- The hand keeps its tags.
use Rattle.std.proofs.Common.{rules}
use Rattle.tag_cache.proofs.Ringing.{sleeps_rests}
use Rattle.tag_cache.proofs.Steady.{owns_rests, same_tags}
use Rattle.tag_cache.proofs.cache.Cache.sleep.Goals as goal

pub invariant_of-self : goal.invariant_of-self
invariant_of-self g c = owns_rests c.args.pool.now c.args.self.now c.sleep.new.hand c.requires.cache
    c.sleep.ensures.hand.0 (sleeps_rests c.args.kind _ _ c.sleep.ensures.same c.sleep.ensures.sleeps)

pub returns-clause-same : goal.returns-clause-same
returns-clause-same g c = same_tags c.args.self.now _ (search rules) (search rules)
    (sleeps_rests c.args.kind _ _ c.sleep.ensures.same c.sleep.ensures.sleeps)
