-- The tag's number in its set is unique, so the post there is the post of this tag alone.
use Rattle.tag_pool.proofs.Uses.{Ordinary, Reserved, reserved_of}
use Rattle.tag_pool.proofs.Passing.{at_ordinary, at_reserved, posts_at}
use Rattle.tag_pool.proofs.pool.Pool.post_held.Goals as goal

pub returns-then-tag-self-clause-posts : goal.returns-then-tag-self-clause-posts
returns-then-tag-self-clause-posts g c = let pool = c.args.self.now in let hand = c.args.hand.now in
    posts_at hand Reserved c.post.new.self c.args.tag c.args.tag
    (at_reserved hand (reserved_of pool) c.args.tag c.requires.hand.2 c.if-tag-self.true) c.args.note
    c.post.ensures.posts

pub returns-else-tag-self-clause-posts : goal.returns-else-tag-self-clause-posts
returns-else-tag-self-clause-posts g c = let pool = c.args.self.now in let hand = c.args.hand.now in
    posts_at hand Ordinary c.post-else-tag-self.new.self _ c.args.tag
    (at_ordinary hand (reserved_of pool) c.args.tag c.requires.hand.2 c.if-tag-self.false) c.args.note
    c.post-else-tag-self.ensures.posts
