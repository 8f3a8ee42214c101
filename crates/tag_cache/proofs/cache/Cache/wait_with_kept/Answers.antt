-- A kept tag is the user's, and the hand ends its wait.
use Rattle.tag_cache.proofs.Winning.{wins_kept}
use Rattle.tag_cache.proofs.cache.Cache.wait_with_kept.Goals as goal

pub returns-clause-goes : goal.returns-clause-goes
returns-clause-goes g c = wins_kept c.args.pool.now c.args.waiter c.args.turn c.end_wait-2.result c.reuse-tag.result
    c.args.self.now c.reuse-tag.new.self c.end_wait-2.new.self c.requires.cache c.reuse-tag.ensures c.end_wait-2.ensures.ends
