-- The new list is filled whole, so its bytes are those of the dump; the loads change no part.
use Rattle.std.proofs.Common.{ℕ, List, ◌++◌, drop, ap, sym, ◌∙◌, subst, arith, set}
use Rattle.tag_board.proofs.Uses.{div_ceil, in_pool, State, state_of, state_of_all, Dumps}
use Rattle.tag_board.proofs.Lookings.{past_dump, depth_is, filled}
use Rattle.tag_board.proofs.Commands.{effect_on, seated, dump_does, sits}
use Rattle.tag_board.proofs.board.Board.dump.Goals as goal

pub invariant_of-self : goal.invariant_of-self
invariant_of-self c =
    let b = c.args.self.now in let at = sits (omega arith) c.index_mut.ensures.value in
    seated b at c.dump.new.hand c.dump.ensures.hand

pub returns : goal.returns
returns c =
    let b = c.args.self.now in let at = sits c.requires c.index_mut.ensures.value in let old = c.index_mut.result.now in
    let new = c.dump.new.hand in let d = c.dump.ensures.dumps in let i : ℕ = c.args.caller in let kind = c.args.kind in
    let bytes = c.in_ok-bytes.bytes in let now : State = state_of_all b.queue (set b.hands.items i new) in
    let change = effect_on b at new c.dump.ensures.hand.0
    (dump_does b.queue old new kind d.bytes d.packed c.dump.ensures.counts) in
    let few = c.in_ok-bytes.ensures.len in let count = c.div_ceil.ensures in
    let depth = ap (λ (n : ℕ). div_ceil n 8) c.depth-depth.ensures in
    let is = ap (λ (n : ℕ). div_ceil n 8) (depth_is b.queue b.hands.items kind) in
    let after = d.after_is ∙ ap (λ (l : List ℕ). d.bytes ++ drop c.dump.result l) c.deref_mut.ensures.value in
    let whole = filled bytes.items c.dump.new.into d.bytes bytes.len c.dump.result (sym bytes.ok.0) after d.long
    (d.count_is ∙ is ∙ omega arith) in
    subst (λ (x : List ℕ). Dumps kind i (state_of b) x now) whole record {
      long = d.long ∙ d.count_is ∙ is;
      there = λ tag high. past_dump b.queue b.hands.items (in_pool old) (in_pool new) kind d.bytes tag d.packed high;
      change = change;
    }
