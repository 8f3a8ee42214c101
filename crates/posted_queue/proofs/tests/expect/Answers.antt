-- The hands that were opened are those of the pool and of the queue, and so are those that are gathered.
use Rattle.std.proofs.Common.{All, subst, sym}
use Rattle.std.proofs.lemmas.List.Elements.{All-push}
use Rattle.tag_pool.specs.Hands.{IsHandOf}
use Rattle.posted_queue.specs.Hands.{IsOwnOf}
use Rattle.posted_queue.specs.Opening.{IsNewHand}
use Rattle.posted_queue.proofs.LastOnes.{last_one}
use Rattle.posted_queue.proofs.tests.expect.Goals as goal

pub loop-second-init : goal.loop-second-init
loop-second-init g c = let first = c.in-Some-Some in let second = c.in-Some-Some-2 in
    let hands = last_one (IsHandOf c.in_ok-pool.pool) _ _ first.hand first.ensures.items c.in_ok-pool.ensures.ok.own in
    let owns = last_one (IsNewHand c.in_ok-queue.queue) _ _ first.own first.ensures'.items c.in_ok-queue.ensures.ok.new in
    record {
      hand = hands.0;
      own = owns.0.own;
      other = (last_one (IsHandOf c.in_ok-pool.pool) _ _ second.other second.ensures.items hands.1).0;
      its = (last_one (IsNewHand c.in_ok-queue.queue) _ _ second.its second.ensures'.items owns.1).0.own;
    }

pub gather-requires : goal.gather-requires
gather-requires g c = let first = c.in-Some-Some in let second = c.in-Some-Some-2 in
    let queue = c.in_ok-queue.queue in let inv = c.loop-second.invariant in
    let owns = last_one (IsNewHand queue) _ _ first.own first.ensures'.items c.in_ok-queue.ensures.ok.new in
    let rest = (last_one (IsNewHand queue) _ _ second.its second.ensures'.items owns.1).1 in
    subst (All (IsOwnOf queue)) (sym c.in_ok-push-2.ensures.items) (All-push (IsOwnOf queue) _ c.loop-second.its
    (subst (All (IsOwnOf queue)) (sym c.in_ok-push.ensures.items) (All-push (IsOwnOf queue) _ c.loop-second.own
    (λ k d low. (rest k d low).own) inv.own)) inv.its)
