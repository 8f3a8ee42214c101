-- The hand keeps its tags and gains one, which is not kept, as none is.
use Rattle.std.proofs.Common.{arith, refl}
use Rattle.tag_cache.proofs.Uses.{Ordinary}
use Rattle.tag_pool.specs.Waits.{GetsBlocking}
use Rattle.tag_cache.proofs.Carrying.{owns, still_on}
use Rattle.tag_cache.proofs.cache.Cache.wait_for.Goals as goal

pub invariant_of-self : goal.invariant_of-self
invariant_of-self g c = let cache = c.args.self.now in let call = c.get_blocking in
    owns c.args.pool.now cache call.new.hand c.requires.cache call.ensures.hand.0
    (still_on cache.hand call.new.hand call.result
    (λ got. GetsBlocking c.args.pool.now Ordinary got.answer got.woken cache.hand call.new.hand) call.ensures.gets
    call.ensures.refusals.same (λ got gets other h. (gets.comes.more.kept other h).0))

pub learn-requires-clause-low : goal.learn-requires-clause-low
learn-requires-clause-low g c = let got = c.in_ok-got.got in
    let below = (c.in_ok-got.ensures.gets.comes.tag got.answer refl).0 in let fits = c.args.pool.now.fits in omega arith

pub learn-requires-clause-held : goal.learn-requires-clause-held
learn-requires-clause-held g c = let got = c.in_ok-got.got in
    (c.in_ok-got.ensures.gets.comes.more.joined got.answer refl, c.requires.none got.answer)
