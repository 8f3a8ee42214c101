-- The tag's number in its set is unique, so the look there is the look at this tag alone.
use Rattle.tag_pool.proofs.Uses.{Ordinary, Reserved, reserved_of}
use Rattle.tag_pool.proofs.Passing.{at_ordinary, at_reserved, reads_note_at}
use Rattle.tag_pool.proofs.pool.Pool.look_at_note.Goals as goal

pub returns-then-tag-self-clause-reads : goal.returns-then-tag-self-clause-reads
returns-then-tag-self-clause-reads g c = let pool = c.args.self.now in let hand = c.args.hand.now in
    reads_note_at hand Reserved c.read_note.new.self c.args.tag c.args.tag
    (at_reserved hand (reserved_of pool) c.args.tag c.requires.hand.2 c.if-tag-self.true) c.read_note.result
    c.read_note.ensures.reads

pub returns-else-tag-self-clause-reads : goal.returns-else-tag-self-clause-reads
returns-else-tag-self-clause-reads g c = let pool = c.args.self.now in let hand = c.args.hand.now in
    reads_note_at hand Ordinary c.read_note-else-tag-self.new.self _ c.args.tag
    (at_ordinary hand (reserved_of pool) c.args.tag c.requires.hand.2 c.if-tag-self.false)
    c.read_note-else-tag-self.result c.read_note-else-tag-self.ensures.reads
