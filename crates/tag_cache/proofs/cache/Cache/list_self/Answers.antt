-- The hand keeps its tags.
use Rattle.std.proofs.Common.{rules}
use Rattle.tag_cache.proofs.Ringing.{lists_rests}
use Rattle.tag_cache.proofs.Steady.{owns_rests, same_tags}
use Rattle.tag_cache.proofs.cache.Cache.list_self.Goals as goal

pub invariant_of-self : goal.invariant_of-self
invariant_of-self g c = let e = c.list_self.ensures in
    owns_rests c.args.pool.now c.args.self.now c.list_self.new.hand c.requires e.hand.0
    (lists_rests c.args.kind c.args.waiter c.args.turn _ _ e.same e.lists)

pub returns-clause-same : goal.returns-clause-same
returns-clause-same g c = same_tags c.args.self.now _ (search rules) (search rules)
    (lists_rests c.args.kind c.args.waiter c.args.turn _ _ c.list_self.ensures.same c.list_self.ensures.lists)
