-- The three lists are consumed in step, so hands made and parts left are all that was passed in, and each hand's parts
-- fit.
use Rattle.std.specs.Prelude.{◌++◌, ◌∷◌, ◌≡◌}
use Rattle.tag_queue.proofs.Uses.{[], arith, in_pool, length, refl, teller_of, waiter_of}
use Rattle.tag_queue.proofs.Uniting.{at_next, goes_on}
use Rattle.tag_queue.proofs.opens.join.Goals as goal

pub new_hand-requires-clause-fit : goal.new_hand-requires-clause-fit
new_hand-requires-clause-fit g c = let inv = c.loop-inner.invariant in let made = c.loop-inner.hands.items in
    (c.requires.fit (length made) _ _ _
    (at_next in_pool made c.in-Some.inner _ _ _ _ inv.inners c.in-Some.ensures.items refl)
    (at_next teller_of made c.in-Some-next.teller _ _ _ _ inv.tellers c.in-Some-next.ensures.items refl)
    (at_next waiter_of made c.in-Some-next-2.waiter _ _ _ _ inv.waiters c.in-Some-next-2.ensures.items refl)).0

pub new_hand-requires-clause-new : goal.new_hand-requires-clause-new
new_hand-requires-clause-new g c = let inv = c.loop-inner.invariant in let made = c.loop-inner.hands.items in
    (c.requires.fit (length made) _ _ _
    (at_next in_pool made c.in-Some.inner _ _ _ _ inv.inners c.in-Some.ensures.items refl)
    (at_next teller_of made c.in-Some-next.teller _ _ _ _ inv.tellers c.in-Some-next.ensures.items refl)
    (at_next waiter_of made c.in-Some-next-2.waiter _ _ _ _ inv.waiters c.in-Some-next-2.ensures.items refl)).1

pub loop-inner-preserved : goal.loop-inner-preserved
loop-inner-preserved g c = let inv = c.loop-inner.invariant in let made = c.loop-inner.hands.items in
    let hand = c.new_hand.result in let of = c.new_hand.ensures in
    let pushed : c.push.new.self.items ≡ made ++ hand ∷ [] = c.in_ok-push.ensures.items in record {
      inners = goes_on in_pool made _ hand c.in-Some.inner _ _ _ inv.inners
          c.in-Some.ensures.items pushed of.parts.0;
      tellers = goes_on teller_of made _ hand c.in-Some-next.teller _ _ _ inv.tellers
          c.in-Some-next.ensures.items pushed of.parts.1;
      waiters = goes_on waiter_of made _ hand c.in-Some-next-2.waiter _ _ _ inv.waiters
          c.in-Some-next-2.ensures.items pushed of.parts.2;
      tellers_left = (let a = c.in-Some.ensures.len in let b = c.in-Some-next.ensures.len in
          let d = inv.tellers_left in omega arith);
      waiters_left = (let a = c.in-Some.ensures.len in let b = c.in-Some-next-2.ensures.len in
          let d = inv.waiters_left in omega arith);
    }
