-- The token that was won is posted.
use Rattle.std.proofs.Common.{rules}
use Rattle.tag_pool.specs.Opening.{HoldsNone}
use Rattle.posted_queue.proofs.NoneHeld.{none_after}
use Rattle.posted_queue.proofs.queue.PostedQueue.next_blocking.Goals as goal

pub returns-clause-own : goal.returns-clause-own
returns-clause-own g c = let token = c.in_ok-answer.field-0.answer in
    let none : HoldsNone c.serve-answer.new.own.tokens = none_after token c.args.own.now.tokens
    c.get_blocking.new.hand c.serve-answer.new.own.tokens c.requires.own.3 c.in_ok-answer.ensures.gets.comes.more
    c.serve-answer.ensures.serves.posts.less in
    search rules
