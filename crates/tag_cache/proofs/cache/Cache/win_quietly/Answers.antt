-- The call of the hand leaves the window as it is, and the tag that the hand won is the user's.
use Rattle.tag_cache.proofs.Carrying.{owns}
use Rattle.tag_cache.proofs.Gaining.{quiet_call, gained_still, won}
use Rattle.tag_cache.proofs.cache.Cache.win_quietly.Goals as goal

pub invariant_of-self : goal.invariant_of-self
invariant_of-self g c = let cache = c.args.self.now in let call = c.get_quietly in
    owns c.args.pool.now cache call.new.hand c.requires.cache call.ensures.hand.0
    (gained_still (quiet_call c.args.pool.now cache.hand call.new.hand call.result call.ensures.does))

pub learn-requires : goal.learn-requires
learn-requires g c = let gets = c.in_ok-answer.ensures.does.gets in
    won c.args.pool.now c.args.self.now c.get_quietly.new.hand c.in-Some.tag _ c.in-Some.is
    c.get_quietly.ensures.hand.0 c.requires.none gets.more gets.tag
