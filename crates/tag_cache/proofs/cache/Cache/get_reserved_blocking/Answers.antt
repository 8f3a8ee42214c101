-- The hand keeps its tags and gains one, past what is kept.
use Rattle.tag_cache.proofs.Uses.{Reserved, rules}
use Rattle.tag_pool.specs.Waits.{GetsBlocking}
use Rattle.tag_cache.proofs.Carrying.{owns, still_on}
use Rattle.tag_cache.proofs.Sleeping.{waited_past}
use Rattle.tag_cache.proofs.cache.Cache.get_reserved_blocking.Goals as goal

pub invariant_of-self : goal.invariant_of-self
invariant_of-self g c = let cache = c.args.self.now in let call = c.get_reserved_blocking in
    owns c.args.pool.now cache call.new.hand c.requires call.ensures.hand.0
    (still_on cache.hand call.new.hand call.result
    (λ got. GetsBlocking c.args.pool.now Reserved got.answer got.woken cache.hand call.new.hand) call.ensures.gets
    call.ensures.refusals.same (λ got gets other h. (gets.comes.more.kept other h).0))

pub returns-clause-gets : goal.returns-clause-gets
returns-clause-gets g c = let call = c.get_reserved_blocking in
    waited_past c.args.pool.now c.args.self.now _ (search rules) (search rules) call.result call.ensures.gets
