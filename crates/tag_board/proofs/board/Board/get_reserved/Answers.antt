-- The hand did not hold the tag before, and no other caller holds it now, so no caller held it.
use Rattle.std.proofs.Common.{ℕ, Ok, Option, subst, sym, arith}
use Rattle.tag_board.proofs.Uses.{Board, Gets, is_answer, Reserved, state_of}
use Rattle.tag_board.proofs.Commands.{holds_gained, seated, wins, get_gains, own_here, sits, room_here}
use Rattle.tag_board.proofs.board.Board.get_reserved.Goals as goal

pub invariant_of-self : goal.invariant_of-self
invariant_of-self c =
    let b = c.args.self.now in let at = sits (omega arith) c.index_mut.ensures.value in
    seated b at c.get_reserved.new.hand c.get_reserved.ensures.hand

pub tell_free-requires-clause-held : goal.tell_free-requires-clause-held
tell_free-requires-clause-held c =
    let b = c.args.self.now in let at = sits c.requires c.index_mut.ensures.value in let old = c.index_mut.result.now in
    let new = c.get_reserved.new.hand in let a : Option ℕ = c.in_ok-answer.answer in
    let e = c.in_ok-answer.ensures in
    let g = get_gains b.queue old new b.hands.items Reserved a e.gets e.counts in
    holds_gained b at new (is_answer a) _ g.names g.more

pub returns : goal.returns
returns c =
    let b = c.args.self.now in let at = sits c.requires c.index_mut.ensures.value in let old = c.index_mut.result.now in
    let new = c.get_reserved.new.hand in let a : Option ℕ = c.in_ok-answer.answer in
    let e = c.in_ok-answer.ensures in let i : ℕ = c.args.caller in let may = e.refusals.passes in
    subst (λ (x : Board). Gets Reserved i (state_of b) (Ok a) (state_of x)) (sym c.tell_free.ensures.same) (
      (may.0, (room_here b.queue at (own_here b.queue at b.own) Reserved 1 may.1.0, tt)),
      wins b at new e.hand.0 (get_gains b.queue old new b.hands.items Reserved a e.gets e.counts)
          c.tell_free.ensures.alone,
    )
