-- Who is missing is told of the hands that were passed in.
use Rattle.std.proofs.Common.{List, rules, subst, ℕ, ◌≡◌}
use Rattle.step_ledger.specs.Gather.{HasAll, IsLeastMissing}
use Rattle.posted_queue.specs.Hands.{hands_of, numbers_of}
use Rattle.posted_queue.specs.declared.queue.PostedHand.{PostedHand}
use Rattle.posted_queue.proofs.queue.PostedQueue.gather.Goals as goal

pub returns-in-Some-clause-cause : goal.returns-in-Some-clause-cause
returns-in-Some-clause-cause c = let seen = c.as_slice.result.now in
    let is : seen ≡ c.args.hands.items = search rules in
    subst (λ (l : List PostedHand). IsLeastMissing (numbers_of l) (hands_of c.args.queue) c.in-Some.number) is
    (subst (λ (n : ℕ). IsLeastMissing (numbers_of seen) n c.in-Some.number) c.hand_count.ensures c.in-Some.ensures)

pub returns-in_default-with_capacity-clause-cause : goal.returns-in_default-with_capacity-clause-cause
returns-in_default-with_capacity-clause-cause c = let seen = c.as_slice.result.now in
    let is : seen ≡ c.args.hands.items = search rules in
    subst (λ (l : List PostedHand). HasAll (numbers_of l) (hands_of c.args.queue)) is
    (subst (λ (n : ℕ). HasAll (numbers_of seen) n) c.hand_count.ensures c.in_default.ensures)

pub close-requires-clause-all : goal.close-requires-clause-all
close-requires-clause-all c = let seen = c.as_slice.result.now in
    let is : seen ≡ c.args.hands.items = search rules in
    subst (λ (l : List PostedHand). HasAll (numbers_of l) (hands_of c.args.queue)) is
    (subst (λ (n : ℕ). HasAll (numbers_of seen) n) c.hand_count.ensures c.in_default.ensures)

pub returns-clause-succeeds : goal.returns-clause-succeeds
returns-clause-succeeds c = let seen = c.as_slice.result.now in
    let is : seen ≡ c.args.hands.items = search rules in
    subst (λ (l : List PostedHand). HasAll (numbers_of l) (hands_of c.args.queue)) is
    (subst (λ (n : ℕ). HasAll (numbers_of seen) n) c.hand_count.ensures c.in_default.ensures)
