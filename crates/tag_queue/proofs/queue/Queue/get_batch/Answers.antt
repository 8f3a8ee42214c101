-- The look that follows is for as many tags as the batch left free, and under round robin it left none.
use Rattle.std.specs.Prelude.{◌≡◌}
use Rattle.tag_queue.proofs.Uses.{arith, in_pool, LooksAfter, Ok, Ordinary, QueueHand, rules, subst, sym, ℕ, ◌∙◌}
use Rattle.tag_pool.specs.Gets.{left_free}
use Rattle.tag_queue.proofs.queue.Queue.get_batch.Goals as goal

pub returns-in_err-answer-clause-refusals : goal.returns-in_err-answer-clause-refusals
returns-in_err-answer-clause-refusals g c = record {
  first = search rules;
  passes = search rules;
  same = search rules;
}

pub returns-clause-gets : goal.returns-clause-gets
returns-clause-gets g c = λ plain. let quiet = c.in_ok-answer.ensures in record {
  searched = c.get_batch_quietly.new.hand;
  gets = quiet.does.gets plain;
  counts = quiet.counts;
  looks = subst (λ (n : ℕ). LooksAfter n c.get_batch_quietly.new.hand c.look_after.new.hand) quiet.does.left
      c.look_after.ensures.looks;
}

pub returns-clause-round_robin : goal.returns-clause-round_robin
returns-clause-round_robin g c = λ counts robin. let hand = c.args.hand.now in
    let quiet = c.in_ok-answer.ensures in let same = quiet.round_robin counts robin in
    let none : left_free Ordinary (in_pool hand) (in_pool hand) ≡ 0 = omega arith in
    let left = quiet.does.left
    ∙ subst (λ (h : QueueHand g.row.R.Denot). left_free Ordinary (in_pool hand) (in_pool h) ≡ 0) (sym same) none in
    ((λ j. Ok ((quiet.does.round_robin counts robin).0 j)), c.look_after.ensures.looks.none left ∙ same)
