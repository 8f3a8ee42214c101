-- The hand is then in no group.
use Rattle.std.proofs.Common.{ℕ, false, arith}
use Rattle.tag_board.proofs.Uses.{AsBefore, Left, state_of, Changes, standing, Leaves}
use Rattle.tag_board.proofs.Commands.{effect_on, replies, seated, leave_does, ok_map, sits, leave_means, standing_here}
use Rattle.tag_board.proofs.board.Board.leave.Goals as goal

pub invariant_of-self : goal.invariant_of-self
invariant_of-self g c =
    let b = c.args.self.now in let at = sits (omega arith) c.index_mut.ensures.value in
    seated b at c.finish_wait.new.hand c.finish_wait.ensures.hand

pub returns : goal.returns
returns g c =
    let b = c.args.self.now in let at = sits c.requires c.index_mut.ensures.value in let old = c.index_mut.result.now in
    let new = c.finish_wait.new.hand in let e = c.finish_wait.ensures in let r = c.finish_wait.result in
    let i : ℕ = c.args.caller in let s = state_of b in
    replies b at new (leave_means s i (standing_here b.queue at))
    (λ (left : Left). Changes i (standing false) (Leaves left) AsBefore s) r e.refusals
    (ok_map r e.leaves (λ left l. effect_on b at new e.hand.0 (leave_does b.queue old new left l e.out e.next e.same)))
