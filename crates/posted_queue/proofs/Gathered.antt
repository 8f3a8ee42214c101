-- The hands of a queue as hands of its tokens.
use Rattle.std.proofs.Common.{[], All, arith, List, map, refl, suc, zero, ◌∷◌, ◌≡◌}
use Rattle.tag_pool.specs.Gathering as pool
use Rattle.tag_pool.specs.Hands.{IsHandOf}
use Rattle.posted_queue.specs.Hands.{in_tokens, IsOwnOf, numbers_of, tokens_of}
use Rattle.posted_queue.specs.declared.queue.PostedHand.{PostedHand}
use Rattle.posted_queue.specs.declared.queue.PostedQueue.{PostedQueue}

pub all_in_tokens : (queue : PostedQueue) (hands : List PostedHand) → All (IsOwnOf queue) hands
    → All (IsHandOf (tokens_of queue)) (map in_tokens hands)
all_in_tokens queue [] own k d low = absurd (omega arith)
all_in_tokens queue (hand ∷ hands) own zero d low = (own 0 hand (omega arith)).0
all_in_tokens queue (hand ∷ hands) own (suc k) d low =
    all_in_tokens queue hands (λ i e l. own (suc i) e (omega arith)) k d (omega arith)

pub same_numbers : (hands : List PostedHand) → pool.numbers_of (map in_tokens hands) ≡ numbers_of hands
same_numbers [] = refl
same_numbers (hand ∷ hands) = let rest = same_numbers hands in cc
