-- The tag's number in its set is unique, so the put there is the clear of this tag alone.
use Rattle.tag_pool.proofs.Uses.{Ordinary, Reserved, reserved_of}
use Rattle.tag_pool.proofs.Passing.{at_ordinary, at_reserved, clears_at}
use Rattle.tag_pool.proofs.pool.Pool.clear_held_quietly.Goals as goal

pub returns-then-tag-self-clause-clears : goal.returns-then-tag-self-clause-clears
returns-then-tag-self-clause-clears g c = let pool = c.args.self.now in let hand = c.args.hand.now in
    clears_at hand Reserved c.put.new.self c.args.tag c.args.tag
    (at_reserved hand (reserved_of pool) c.args.tag c.requires.hand.2 c.if-tag-self.true) pool c.put.ensures.puts

pub returns-else-tag-self-clause-clears : goal.returns-else-tag-self-clause-clears
returns-else-tag-self-clause-clears g c = let pool = c.args.self.now in let hand = c.args.hand.now in
    clears_at hand Ordinary c.put-else-tag-self.new.self _ c.args.tag
    (at_ordinary hand (reserved_of pool) c.args.tag c.requires.hand.2 c.if-tag-self.false) pool c.put-else-tag-self.ensures.puts
