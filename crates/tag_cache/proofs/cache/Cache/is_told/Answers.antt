-- The hand keeps its tags.
use Rattle.std.proofs.Common.{rules}
use Rattle.tag_cache.proofs.Ringing.{asks_rests}
use Rattle.tag_cache.proofs.Steady.{owns_rests, same_tags}
use Rattle.tag_cache.proofs.cache.Cache.is_told.Goals as goal

pub invariant_of-self : goal.invariant_of-self
invariant_of-self g c = let e = c.is_told.ensures in
    owns_rests c.args.pool.now c.args.self.now c.is_told.new.hand c.requires e.hand.0
    (asks_rests c.args.kind c.is_told.result _ _ e.same e.looks)

pub returns-clause-same : goal.returns-clause-same
returns-clause-same g c = same_tags c.args.self.now _ (search rules) (search rules)
    (asks_rests c.args.kind c.is_told.result _ _ c.is_told.ensures.same c.is_told.ensures.looks)
