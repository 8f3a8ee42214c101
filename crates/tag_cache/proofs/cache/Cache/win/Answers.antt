-- The call of the hand leaves the window as it is, and the tag that the hand won is the user's.
use Rattle.tag_cache.proofs.Uses.{IsAnswer, answered, Ordinary}
use Rattle.tag_pool.specs.Gets as hand_gets
use Rattle.tag_cache.proofs.Carrying.{owns}
use Rattle.tag_cache.proofs.Gaining.{get_call, gained_still, looked_gains, plain_gains, won}
use Rattle.tag_cache.proofs.cache.Cache.win.Goals as goal

pub invariant_of-self : goal.invariant_of-self
invariant_of-self g c = let cache = c.args.self.now in let call = c.get in
    owns c.args.pool.now cache call.new.hand c.requires.cache call.ensures.hand.0
    (gained_still (get_call c.args.pool.now cache.hand call.new.hand Ordinary call.result call.ensures.gets
    call.ensures.refusals.same))

pub learn-requires : goal.learn-requires
learn-requires g c = let pool = c.args.pool.now in let cache = c.args.self.now in let new = c.get.new.hand in
    let got = c.in_ok-answer.field-0 in let gets = c.in_ok-answer.ensures.gets in
    let gains = looked_gains Ordinary (IsAnswer got.answer) (answered got.answer) got.woken
    (hand_gets.Gets pool Ordinary got.answer) cache.hand new (λ x. plain_gains pool Ordinary got.answer cache.hand x) gets in
    won pool cache new c.in-Some.tag _ c.in-Some.is c.get.ensures.hand.0 c.requires.none gains.more gets.gets.tag
