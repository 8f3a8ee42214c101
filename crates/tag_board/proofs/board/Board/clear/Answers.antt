-- The hand loses the tag and counts it.
use Rattle.std.proofs.Common.{ℕ, nat_eq, length, arith}
use Rattle.tag_board.proofs.Uses.{state_of, Changes, cleared, GrantsForTag, ChangesTag, put_back}
use Rattle.tag_board.proofs.Commands.{effect_on, replies, seated, clear_does, both_ok, own_here, sits, tag_means, same_held}
use Rattle.tag_board.proofs.board.Board.clear.Goals as goal

pub invariant_of-self : goal.invariant_of-self
invariant_of-self c =
    let b = c.args.self.now in let at = sits (omega arith) c.index_mut.ensures.value in
    seated b at c.clear.new.hand c.clear.ensures.hand

pub returns : goal.returns
returns c =
    let b = c.args.self.now in let at = sits c.requires c.index_mut.ensures.value in let old = c.index_mut.result.now in
    let new = c.clear.new.hand in let e = c.clear.ensures in let r = c.clear.result in let i : ℕ = c.args.caller in
    let tag : ℕ = c.args.tag in let s = state_of b in
    replies b at new (tag_means s i tag (same_held b.queue at tag)) (λ (woken : ℕ).
    Changes i (cleared (nat_eq tag) 1) (GrantsForTag s.terms tag woken) (ChangesTag put_back tag) s) r e.refusals
    (both_ok r e.clears e.counts (λ woken p q. effect_on b at new e.hand.0
    (clear_does b.queue old new (own_here b.queue at b.own) (length b.hands.items) tag woken p q)))
