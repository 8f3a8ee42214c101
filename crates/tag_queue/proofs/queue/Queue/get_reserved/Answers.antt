-- A refusal by the pool leaves the hand as it was.
use Rattle.tag_queue.proofs.SameParts.{same_on_err}
use Rattle.tag_queue.proofs.StillUp.{reserved_up}
use Rattle.tag_queue.proofs.Uses.{rules}
use Rattle.tag_queue.proofs.queue.Queue.get_reserved.Goals as goal

pub invariant_of-hand-clause-up : goal.invariant_of-hand-clause-up
invariant_of-hand-clause-up g c = let hand = c.args.hand.now in let call = c.get_reserved_quietly in
    reserved_up c.args.self.now.pool hand.inner call.new.hand call.result call.ensures.does hand.up

pub returns-in_err-answer-clause-refusals : goal.returns-in_err-answer-clause-refusals
returns-in_err-answer-clause-refusals g c = let call = c.get_reserved_quietly in record {
  first = search rules;
  passes = search rules;
  same = same_on_err c.args.hand.now c.from_residual.result call.new.hand (search rules) _ _ _ _;
}
