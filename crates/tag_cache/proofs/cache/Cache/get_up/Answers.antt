-- The hand keeps its tags.
use Rattle.std.proofs.Common.{rules}
use Rattle.tag_cache.proofs.Ringing.{gets_up_rests}
use Rattle.tag_cache.proofs.Steady.{owns_rests, same_tags}
use Rattle.tag_cache.proofs.cache.Cache.get_up.Goals as goal

pub invariant_of-self : goal.invariant_of-self
invariant_of-self g c = let e = c.get_up.ensures in
    owns_rests c.args.pool.now c.args.self.now c.get_up.new.hand c.requires e.hand.0
    (gets_up_rests c.args.kind c.get_up.result _ _ e.same e.gets_up)

pub returns-clause-same : goal.returns-clause-same
returns-clause-same g c = same_tags c.args.self.now _ (search rules) (search rules)
    (gets_up_rests c.args.kind c.get_up.result _ _ c.get_up.ensures.same c.get_up.ensures.gets_up)
