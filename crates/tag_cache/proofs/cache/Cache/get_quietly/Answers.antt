-- A tag that the hand gains; a kept one is got as `get_kept` does.
use Rattle.std.proofs.Common.{rules}
use Rattle.tag_cache.proofs.HandGets.{gets_quietly_after}
use Rattle.tag_cache.proofs.cache.Cache.get_quietly.Goals as goal

pub returns-then-keeps_none-clause-does : goal.returns-then-keeps_none-clause-does
returns-then-keeps_none-clause-does g c = let won = c.win_quietly in
    let none = c.keeps_none.ensures.0 c.if-keeps_none.true in
    let after = gets_quietly_after c.args.pool.now c.args.self.now won.new.self won.ensures.kept none won.result
    won.ensures.gets in
    search rules
