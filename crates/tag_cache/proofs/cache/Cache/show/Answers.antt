-- The hand keeps its tags.
use Rattle.std.proofs.Common.{rules}
use Rattle.tag_cache.proofs.Reporting.{around_rests}
use Rattle.tag_cache.proofs.Steady.{owns_rests, same_tags}
use Rattle.tag_cache.proofs.cache.Cache.show.Goals as goal

pub invariant_of-self : goal.invariant_of-self
invariant_of-self g c = owns_rests c.args.pool.now c.args.self.now c.show.new.hand c.requires c.show.ensures.hand.0
    (around_rests _ _ _ _ _ c.show.ensures.shows.around)

pub returns-clause-same : goal.returns-clause-same
returns-clause-same g c = same_tags c.args.self.now _ (search rules) (search rules)
    (around_rests _ _ _ _ _ c.show.ensures.shows.around)
