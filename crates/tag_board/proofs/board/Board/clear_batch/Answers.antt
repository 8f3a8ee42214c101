-- The hand loses the listed tags and counts them.
use Rattle.std.proofs.Common.{ℕ, length, arith}
use Rattle.tag_board.proofs.Uses.{AloneClearsList, state_of, Changes, cleared, is_in_list, GrantsFor}
use Rattle.tag_board.proofs.Commands.{effect_on, replies, seated, list_does, both_ok, both_on, held_here, here_held, own_here, sits, list_means}
use Rattle.tag_board.proofs.board.Board.clear_batch.Goals as goal

pub invariant_of-self : goal.invariant_of-self
invariant_of-self c =
    let b = c.args.self.now in let at = sits (omega arith) c.index_mut.ensures.value in
    seated b at c.clear_batch.new.hand c.clear_batch.ensures.hand

pub returns : goal.returns
returns c =
    let b = c.args.self.now in let at = sits c.requires c.index_mut.ensures.value in let old = c.index_mut.result.now in
    let new = c.clear_batch.new.hand in let e = c.clear_batch.ensures in let r = c.clear_batch.result in
    let i : ℕ = c.args.caller in let tags = c.args.tags.now in let s = state_of b in
    replies b at new (list_means s i tags (
      (λ h. (λ k d l. here_held b.queue at _ (h.0 k d l), h.1)),
      (λ h. (λ k d l. held_here b.queue at _ (h.0 k d l), h.1)),
    )) (λ (woken : ℕ). Changes i (cleared (is_in_list tags) (length tags)) (GrantsFor s.terms.cap (length tags) woken)
    (AloneClearsList tags) s) r e.refusals
    (both_ok r (both_on _ _ r e.gives e.back) e.counts (λ woken p q. effect_on b at new e.hand.0
    (list_does b.queue old new (own_here b.queue at b.own) tags woken p.0 p.1 q)))
