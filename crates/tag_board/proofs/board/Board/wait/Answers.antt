-- The hand is then in a group.
use Rattle.std.proofs.Common.{ℕ, true, arith}
use Rattle.tag_board.proofs.Uses.{AsBefore, state_of, Changes, standing, Enters}
use Rattle.tag_board.proofs.Commands.{effect_on, replies, seated, enter_does, ok_map, sits, wait_means, out_here}
use Rattle.tag_board.proofs.board.Board.wait.Goals as goal

pub invariant_of-self : goal.invariant_of-self
invariant_of-self c =
    let b = c.args.self.now in let at = sits (omega arith) c.index_mut.ensures.value in
    seated b at c.prepare_wait.new.hand c.prepare_wait.ensures.hand

pub returns : goal.returns
returns c =
    let b = c.args.self.now in let at = sits c.requires c.index_mut.ensures.value in let old = c.index_mut.result.now in
    let new = c.prepare_wait.new.hand in let e = c.prepare_wait.ensures in let r = c.prepare_wait.result in
    let i : ℕ = c.args.caller in let s = state_of b in
    replies b at new (wait_means s i (out_here b.queue at))
    (λ (group : ℕ). Changes i (standing true) (Enters group) AsBefore s) r e.refusals
    (ok_map r e.enters (λ group entered. effect_on b at new e.hand.0 (enter_does b.queue old new group entered)))
