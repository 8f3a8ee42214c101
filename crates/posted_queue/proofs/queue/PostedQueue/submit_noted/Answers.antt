-- The token that was taken is held until it is freed.
use Rattle.std.proofs.Common.{refl, rules}
use Rattle.tag_pool.specs.Hands.{Holds}
use Rattle.tag_pool.specs.Opening.{HoldsNone}
use Rattle.posted_queue.proofs.NoneHeld.{none_after}
use Rattle.posted_queue.proofs.queue.PostedQueue.submit_noted.Goals as goal

pub unreachable-requires-in_default-clear : goal.unreachable-requires-in_default-clear
unreachable-requires-in_default-clear g c = let token = c.in-Some.token in
    let held : Holds c.take_token.new.own.tokens token = c.in-Some.ensures.takes.more.joined token refl in
    search rules

pub returns-clause-own : goal.returns-clause-own
returns-clause-own g c = let token = c.in-Some.token in let new = c.clear.new.hand in
    let none : HoldsNone new = none_after token c.args.own.now.tokens c.take_token.new.own.tokens new c.requires.own.3
    c.in-Some.ensures.takes.more c.in-Ok-clear.ensures.wakes.less in
    search rules
