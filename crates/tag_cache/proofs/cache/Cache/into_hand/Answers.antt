-- After the flush nothing is kept.
use Rattle.std.proofs.Common.{refl}
use Rattle.tag_cache.proofs.Carrying.{left_with}
use Rattle.tag_cache.proofs.cache.Cache.into_hand.Goals as goal

pub returns-clause-left : goal.returns-clause-left
returns-clause-left g c = let f = c.flush-woken.ensures.flushes in left_with c.args.self c.flush-woken.new.self f.same f.none

pub returns-clause-ends : goal.returns-clause-ends
returns-clause-ends g c = record { last = c.flush-woken.new.self; flushes = c.flush-woken.ensures.flushes; left_is = refl }
