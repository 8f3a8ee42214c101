-- The hand makes the round, and what is kept stays.
use Rattle.tag_cache.proofs.Uses.{Reserved, rules}
use Rattle.tag_cache.proofs.Carrying.{owns}
use Rattle.tag_cache.proofs.Winning.{goes_past, round_gains}
use Rattle.tag_cache.proofs.cache.Cache.wait_past_kept.Goals as goal

pub invariant_of-self : goal.invariant_of-self
invariant_of-self g c = let cache = c.args.self.now in let round = c.wait_on in let new = round.new.hand in
    let gains = round_gains c.args.pool.now c.args.waiter c.args.turn round.result.1 Reserved round.result.0 cache.hand new
    round.ensures.goes in
    owns c.args.pool.now cache new c.requires.cache round.ensures.hand.0 (λ tag h. (gains.more.kept tag h).0)

pub returns-clause-goes : goal.returns-clause-goes
returns-clause-goes g c = goes_past c.args.pool.now c.args.waiter c.args.turn c.wait_on.result.1 c.wait_on.result.0
    c.args.self.now _ (search rules) (search rules) c.wait_on.ensures.goes
