-- The hand keeps its tags.
use Rattle.std.proofs.Common.{rules}
use Rattle.tag_cache.proofs.Ringing.{looks_rests}
use Rattle.tag_cache.proofs.Steady.{owns_rests, same_tags}
use Rattle.tag_cache.proofs.cache.Cache.finds_waiters.Goals as goal

pub invariant_of-self : goal.invariant_of-self
invariant_of-self g c = let e = c.finds_waiters.ensures in
    owns_rests c.args.pool.now c.args.self.now c.finds_waiters.new.hand c.requires e.hand.0
    (looks_rests c.args.kind c.finds_waiters.result _ _ e.same e.looks)

pub returns-clause-same : goal.returns-clause-same
returns-clause-same g c = let e = c.finds_waiters.ensures in same_tags c.args.self.now _ (search rules) (search rules)
    (looks_rests c.args.kind c.finds_waiters.result _ _ e.same e.looks)
