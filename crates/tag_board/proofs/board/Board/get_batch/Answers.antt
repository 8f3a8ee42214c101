-- The hand did not hold the tags before, and no other caller holds one now, so no caller held one.
use Rattle.std.proofs.Common.{ℕ, Ok, Option, subst, sym, ◌∙◌, arith}
use Rattle.tag_board.proofs.Uses.{Board, GetsBatch, is_in_run, Ordinary, state_of}
use Rattle.tag_board.proofs.Commands.{holds_gained, seated, wins, batch_gains, own_here, round_here, sits, room_here}
use Rattle.tag_board.proofs.board.Board.get_batch.Goals as goal

pub invariant_of-self : goal.invariant_of-self
invariant_of-self c =
    let b = c.args.self.now in let at = sits (omega arith) c.index_mut.ensures.value in
    seated b at c.get_batch_quietly.new.hand c.get_batch_quietly.ensures.hand

pub tell_run_free-requires-clause-held : goal.tell_run_free-requires-clause-held
tell_run_free-requires-clause-held c =
    let b = c.args.self.now in let at = sits c.requires c.index_mut.ensures.value in let old = c.index_mut.result.now in
    let new = c.get_batch_quietly.new.hand in let a : Option (ℕ × ℕ) = c.in_ok-answer.field-0.answer in
    let e = c.in_ok-answer.ensures in
    let g = batch_gains b.queue old new b.hands.items _ a (e.does.round_robin e.does.refusals.passes.0) e.does.gets
    e.counts in
    holds_gained b at new (is_in_run a) _ g.names g.more

pub returns : goal.returns
returns c =
    let b = c.args.self.now in let at = sits c.requires c.index_mut.ensures.value in let old = c.index_mut.result.now in
    let new = c.get_batch_quietly.new.hand in let a : Option (ℕ × ℕ) = c.in_ok-answer.field-0.answer in
    let e = c.in_ok-answer.ensures in let i : ℕ = c.args.caller in let n : ℕ = c.args.n in
    let own = own_here b.queue at b.own in let round = round_here b.queue at own in let may = e.does.refusals.passes in
    let around = e.does.round_robin may.0 in
    subst (λ (x : Board). GetsBatch n i (state_of b) (Ok a) (state_of x)) (sym c.tell_run_free.ensures.same) (
      (may.0, ((λ straight. room_here b.queue at own Ordinary n (may.1.0 (sym round ∙ straight))), tt)),
      (
        (λ t. (around (sym round ∙ t)).0),
        wins b at new e.hand.0 (batch_gains b.queue old new b.hands.items n a around e.does.gets e.counts)
            c.tell_run_free.ensures.alone,
      ),
    )
