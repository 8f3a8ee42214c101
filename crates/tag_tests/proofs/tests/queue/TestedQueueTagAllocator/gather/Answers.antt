-- The hands of all callers belong to the queue, and a failed gather hands both back.
use Rattle.tag_tests.proofs.Uses.{All, ap, List, subst, sym, ℕ}
use Rattle.tag_queue.specs.Hands.{IsHandOf}
use Rattle.tag_queue.specs.declared.hand.QueueHand.{QueueHand}
use Rattle.tag_queue.specs.declared.queue.Queue.{Queue}
use Rattle.tag_tests.proofs.tests.queue.TestedQueueTagAllocator.gather.Goals as goal

pub returns-in-Err-clause-own : goal.returns-in-Err-clause-own
returns-in-Err-clause-own c = let back = c.in-Err.ensures.err in
    subst (λ (queue : Queue ℕ). All (IsHandOf queue) c.in-Err.fault.hands.items) (sym back.0)
    (subst (λ (hands : List (QueueHand ℕ)). All (IsHandOf c.args.self.queue) hands) (sym (ap (λ v. v.items) back.1))
    c.requires)
