-- The tag's number in its set is unique, so the take there is the take of this tag alone.
use Rattle.tag_pool.proofs.Uses.{Ordinary, Reserved, reserved_of}
use Rattle.tag_pool.proofs.Passing.{at_ordinary, at_reserved, takes_at, misses_at}
use Rattle.tag_pool.proofs.pool.Pool.take_posted.Goals as goal

pub returns-then-tag-self-clause-takes : goal.returns-then-tag-self-clause-takes
returns-then-tag-self-clause-takes g c = λ found. let pool = c.args.self.now in let hand = c.args.hand.now in
    takes_at hand Reserved c.take.new.self c.args.tag c.args.tag
    (at_reserved hand (reserved_of pool) c.args.tag c.requires.hand.2 c.if-tag-self.true) (c.take.ensures.takes found)

pub returns-else-tag-self-clause-takes : goal.returns-else-tag-self-clause-takes
returns-else-tag-self-clause-takes g c = λ found. let pool = c.args.self.now in let hand = c.args.hand.now in
    takes_at hand Ordinary c.take-else-tag-self.new.self _ c.args.tag
    (at_ordinary hand (reserved_of pool) c.args.tag c.requires.hand.2 c.if-tag-self.false) (c.take-else-tag-self.ensures.takes found)

pub returns-then-tag-self-clause-misses : goal.returns-then-tag-self-clause-misses
returns-then-tag-self-clause-misses g c = λ none. let pool = c.args.self.now in let hand = c.args.hand.now in
    misses_at hand Reserved c.take.new.self c.args.tag c.args.tag
    (at_reserved hand (reserved_of pool) c.args.tag c.requires.hand.2 c.if-tag-self.true) (c.take.ensures.misses none)

pub returns-else-tag-self-clause-misses : goal.returns-else-tag-self-clause-misses
returns-else-tag-self-clause-misses g c = λ none. let pool = c.args.self.now in let hand = c.args.hand.now in
    misses_at hand Ordinary c.take-else-tag-self.new.self _ c.args.tag
    (at_ordinary hand (reserved_of pool) c.args.tag c.requires.hand.2 c.if-tag-self.false) (c.take-else-tag-self.ensures.misses none)
