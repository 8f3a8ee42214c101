-- The hand loses the tag and counts nothing.
use Rattle.std.proofs.Common.{ℕ, nat_eq, arith}
use Rattle.tag_board.proofs.Uses.{AsBefore, state_of, Changes, left, ChangesTag, post_in}
use Rattle.tag_board.proofs.Commands.{effect_on, replies, seated, post_does, on_map, own_here, refused_whole, sits, tag_means, same_held}
use Rattle.tag_board.proofs.board.Board.post.Goals as goal

pub invariant_of-self : goal.invariant_of-self
invariant_of-self c =
    let b = c.args.self.now in let at = sits (omega arith) c.index_mut.ensures.value in
    seated b at c.post.new.hand c.post.ensures.hand

pub returns : goal.returns
returns c =
    let b = c.args.self.now in let at = sits c.requires c.index_mut.ensures.value in let old = c.index_mut.result.now in
    let new = c.post.new.hand in let e = c.post.ensures in let r = c.post.result in let i : ℕ = c.args.caller in
    let tag : ℕ = c.args.tag in let s = state_of b in
    replies b at new (tag_means s i tag (same_held b.queue at tag))
    (λ done. Changes i (left (nat_eq tag)) AsBefore (ChangesTag post_in tag) s) r
    (refused_whole r e.does.refusals e.err)
    (on_map _ r e.does.posts (λ p. effect_on b at new e.hand.0
    (post_does b.queue old new (own_here b.queue at b.own) tag p e.counts)))
