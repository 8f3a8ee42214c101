-- Neither hand is changed.
use Rattle.tag_cache.proofs.Carrying.{owns_unchanged}
use Rattle.tag_cache.proofs.cache.Cache.apart.Goals as goal

pub invariant_of-self : goal.invariant_of-self
invariant_of-self g c = owns_unchanged c.args.self.now c.apart.new.first c.apart.ensures.same.0

pub invariant_of-other : goal.invariant_of-other
invariant_of-other g c = owns_unchanged c.args.other.now c.apart.new.second c.apart.ensures.same.1
