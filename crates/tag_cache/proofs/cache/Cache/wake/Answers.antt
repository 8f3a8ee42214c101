-- Those woken are those told.
use Rattle.tag_cache.proofs.Uses.{SeesTo, subst, sym, Told}
use Rattle.tag_cache.proofs.cache.Cache.wake.Goals as goal

pub returns-clause-wakes : goal.returns-clause-wakes
returns-clause-wakes g c = subst
    (λ (told : Told). SeesTo c.args.kind c.args.freed c.args.pool.now told c.args.self.now c.see_to-told.new.self)
    (sym c.wake_told.ensures) c.see_to-told.ensures.does
