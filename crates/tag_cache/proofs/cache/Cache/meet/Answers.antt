-- The hands are unchanged, and so is what is kept.
use Rattle.std.proofs.Common.{rules}
use Rattle.tag_cache.proofs.Meetings.{meets_rests}
use Rattle.tag_cache.proofs.Steady.{owns_rests, same_tags}
use Rattle.tag_cache.proofs.cache.Cache.meet.Goals as goal

pub invariant_of-self : goal.invariant_of-self
invariant_of-self g c = owns_rests c.args.pool.now c.args.self.now c.meet.new.first c.requires.caches.0
    c.meet.ensures.hands.0.0 (meets_rests _ _ c.meet.ensures.unchanged.0)

pub invariant_of-other : goal.invariant_of-other
invariant_of-other g c = owns_rests c.args.pool.now c.args.other.now c.meet.new.second c.requires.caches.1
    c.meet.ensures.hands.1.0 (meets_rests _ _ c.meet.ensures.unchanged.1)

pub returns-clause-same : goal.returns-clause-same
returns-clause-same g c = (
  same_tags c.args.self.now _ (search rules) (search rules) (meets_rests _ _ c.meet.ensures.unchanged.0),
  same_tags c.args.other.now _ (search rules) (search rules) (meets_rests _ _ c.meet.ensures.unchanged.1),
)

pub returns-clause-users : goal.returns-clause-users
returns-clause-users g c = λ tag held other. c.meet.ensures.apart tag held.0 other.0
