-- The law is the lemma.
use Rattle.posted_queue.proofs.Turns.{serves}
use Rattle.posted_queue.proofs.laws.first_come_first_served.Goals as goal

pub returns : goal.returns
returns c = serves
