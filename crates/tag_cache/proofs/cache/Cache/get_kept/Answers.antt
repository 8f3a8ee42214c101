-- The kept tag is the hand's already.
use Rattle.std.proofs.Common.{rules}
use Rattle.std.specs.Prelude.{Some}
use Rattle.tag_cache.proofs.Uses.{Ordinary}
use Rattle.tag_pool.specs.Gets as hand_gets
use Rattle.tag_cache.proofs.HandGets.{gets_kept}
use Rattle.tag_cache.proofs.cache.Cache.get_kept.Goals as goal

pub returns-clause-does : goal.returns-clause-does
returns-clause-does g c = let cache = c.args.self.now in let reuse = c.reuse in
    let gets = gets_kept (hand_gets.Gets c.args.pool.now Ordinary (Some reuse.result)) c.args.pool.now cache
    reuse.new.self reuse.result c.requires.cache reuse.ensures in
    search rules
