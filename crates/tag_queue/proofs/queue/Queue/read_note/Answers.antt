-- A refusal by the pool leaves the hand as it was.
use Rattle.tag_queue.proofs.SameParts.{same_on_err}
use Rattle.tag_queue.proofs.StillUp.{notes_up}
use Rattle.tag_queue.proofs.queue.Queue.read_note.Goals as goal

pub invariant_of-hand-clause-up : goal.invariant_of-hand-clause-up
invariant_of-hand-clause-up g c = let hand = c.args.hand.now in let call = c.read_note in
    notes_up c.args.self.now.pool hand.inner call.new.hand c.args.tag call.result call.ensures.does hand.up

pub returns-clause-err : goal.returns-clause-err
returns-clause-err g c = let call = c.read_note in
    same_on_err c.args.hand.now call.result call.new.hand call.ensures.does.refusals.same _ _ _ _
