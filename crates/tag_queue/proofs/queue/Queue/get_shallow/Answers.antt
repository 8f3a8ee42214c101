-- What the get left free is what the look is for.
use Rattle.tag_queue.proofs.Uses.{LooksAfter, rules, subst, ℕ}
use Rattle.tag_queue.proofs.queue.Queue.get_shallow.Goals as goal

pub returns-in_err-answer-clause-refusals : goal.returns-in_err-answer-clause-refusals
returns-in_err-answer-clause-refusals g c = record {
  first = search rules;
  passes = search rules;
  same = search rules;
}

pub returns-clause-gets : goal.returns-clause-gets
returns-clause-gets g c = let quiet = c.in_ok-answer.ensures in record {
  searched = c.get_shallow_quietly.new.hand;
  gets = quiet.does.gets;
  counts = quiet.counts;
  looks = subst (λ (n : ℕ). LooksAfter n c.get_shallow_quietly.new.hand c.look_after.new.hand) quiet.does.left
      c.look_after.ensures.looks;
}
