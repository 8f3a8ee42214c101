-- A first try that won a tag is the get, and one that won none changes nothing but the hand's steps.
use Rattle.tag_pool.proofs.Uses.{ap, arith, Err, rules}
use Rattle.tag_pool.proofs.FirstTry.{begin_same, begins, does_get_own, same_side, won_gets, won_low}
use Rattle.tag_pool.proofs.pool.Pool.begin_get.Goals as goal

pub invariant_of-side : goal.invariant_of-side
invariant_of-side g c = let side = c.args.hand.now.ordinary in
    let same = begin_same c.args.self.now.ordinary side.caller c.begin.new.caller side.hint c.begin.result c.requires.hand.1
    c.begin.ensures.won c.begin.ensures.begun in search rules

pub overflow_add-result : goal.overflow_add-result
overflow_add-result g c = let pool = c.args.self.now in let side = c.args.hand.now.ordinary in
    let low = won_low pool.ordinary side.caller c.begin.new.caller side.hint c.in-Ok.number c.requires.hand.1
    c.begin.ensures.caller c.in-Ok.ensures.won in
    let total = pool.total_is in let fits = pool.fits in let split = c.requires.hand.2 in omega arith

pub returns-in-Ok-clause-won : goal.returns-in-Ok-clause-won
returns-in-Ok-clause-won g c = let pool = c.args.self.now in let hand = c.args.hand.now in
    does_get_own pool hand c.requires.hand _ c.begin.ensures.caller c.in-Ok.number
    (won_gets pool.ordinary hand.ordinary _ c.in-Ok.number c.requires.hand.1 (c.room.ensures.0 (search rules))
    c.in-Ok.ensures.won c.in-Ok.ensures.hint)

pub returns-in-Err-clause-begins : goal.returns-in-Err-clause-begins
returns-in-Err-clause-begins g c = let try = c.in-Err.ensures in
    begins c.args.self.now c.args.hand.now c.requires.hand _ c.begin.ensures.caller c.in-Err.rest
    (c.room.ensures.0 (search rules)) try.room try.rest try.begun try.unmoved
    (λ none. same_side c.args.hand.now.ordinary _ _ _ (try.unchanged (ap Err none)) try.unmoved)
