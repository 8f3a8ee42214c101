-- The law of the bell, of the tokens of a queue.
use Rattle.tag_bell.proofs.Safe.{nobody_forgotten}
use Rattle.posted_queue.proofs.laws.nobody_sleeps_beside_a_queued_tag.Goals as goal

pub returns : goal.returns
returns c k h lawful kinds sleeper asleep token queued =
    nobody_forgotten k h lawful kinds sleeper asleep.1 token queued.0 queued.1
