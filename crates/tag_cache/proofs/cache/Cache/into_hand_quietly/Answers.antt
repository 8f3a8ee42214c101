-- After the flush nothing is kept.
use Rattle.tag_cache.proofs.Carrying.{left_with}
use Rattle.tag_cache.proofs.cache.Cache.into_hand_quietly.Goals as goal

pub returns-clause-left : goal.returns-clause-left
returns-clause-left g c = left_with c.args.self c.flush_quietly-freed.new.self c.flush_quietly-freed.ensures.does.same
    c.flush_quietly-freed.ensures.does.none
