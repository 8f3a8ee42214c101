-- No reserved tag is kept, so the hand alone sees to those.
use Rattle.tag_cache.proofs.Uses.{Reserved, rules}
use Rattle.tag_pool.specs.Sides as side
use Rattle.tag_cache.proofs.Rested.{sees_past}
use Rattle.tag_cache.proofs.Ringing.{sees_rests}
use Rattle.tag_cache.proofs.Steady.{owns_rests}
use Rattle.tag_cache.proofs.cache.Cache.see_to.Goals as goal

pub invariant_of-self : goal.invariant_of-self
invariant_of-self g c = owns_rests c.args.pool.now c.args.self.now c.see_to.new.hand c.requires c.see_to.ensures.hand.0
    (sees_rests Reserved _ side.see_to_steps c.see_to.result _ _ c.see_to.ensures.same c.see_to.ensures.sees_to)

pub returns-in-Reserved-clause-does : goal.returns-in-Reserved-clause-does
returns-in-Reserved-clause-does g c = sees_past c.args.kind c.in-Reserved.is c.args.pool.now c.args.freed c.see_to.result
    c.args.self.now _ (search rules) (search rules) c.see_to.ensures.same c.see_to.ensures.sees_to
