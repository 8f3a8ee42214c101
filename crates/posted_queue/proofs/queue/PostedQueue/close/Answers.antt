-- The hands of the tokens are all there, with the same numbers.
use Rattle.std.proofs.Common.{All, List, map, subst, sym, ℕ}
use Rattle.std.specs.Bool.{⊤}
use Rattle.step_ledger.specs.Gather.{HasAll}
use Rattle.tag_pool.specs.Gathering as pool
use Rattle.tag_pool.specs.Hands.{hands_of, IsHandOf}
use Rattle.tag_pool.specs.declared.hand.Hand.{Hand}
use Rattle.tag_pool.specs.declared.pool.Pool.{Pool}
use Rattle.posted_queue.specs.Hands.{in_tokens}
use Rattle.posted_queue.proofs.Gathered.{all_in_tokens, same_numbers}
use Rattle.posted_queue.proofs.queue.PostedQueue.close.Goals as goal

pub gather-requires : goal.gather-requires
gather-requires c = let hands = c.args.hands.items in
    subst (λ (l : List (Hand ⊤)). All (IsHandOf c.into_tokens.result) l) (sym c.part.ensures)
    (subst (λ (p : Pool ⊤). All (IsHandOf p) (map in_tokens hands)) (sym c.into_tokens.ensures)
    (all_in_tokens c.args.self hands c.requires.own))

pub unreachable-requires : goal.unreachable-requires
unreachable-requires c = let hands = c.args.hands.items in
    let named = subst (λ (l : List ℕ). HasAll l (hands_of c.args.self.tokens)) (sym (same_numbers hands)) c.requires.all in
    let all = subst (λ (l : List (Hand ⊤)). HasAll (pool.numbers_of l) (hands_of c.into_tokens.result)) (sym c.part.ensures)
    (subst (λ (p : Pool ⊤). HasAll (pool.numbers_of (map in_tokens hands)) (hands_of p)) (sym c.into_tokens.ensures) named) in
    let wrong = c.in_default.ensures.succeeds.1 all in cc

pub returns : goal.returns
returns c = let hands = c.args.hands.items in
    subst (λ (p : Pool ⊤). pool.IsGathered p (map in_tokens hands) c.in-Ok.totals) c.into_tokens.ensures
    (subst (λ (l : List (Hand ⊤)). pool.IsGathered c.into_tokens.result l c.in-Ok.totals) c.part.ensures c.in-Ok.ensures.ok)
