-- The new list is filled whole, so its bits are those of the call; the loads change no part.
use Rattle.std.proofs.Common.{◌≡◌, ℕ, List, length, ap, sym, subst, arith, set}
use Rattle.tag_board.proofs.Uses.{div_ceil, in_pool, State, state_of, state_of_all, ListsBusy}
use Rattle.tag_board.proofs.Lookings.{past_busy, whole_list}
use Rattle.tag_board.proofs.Commands.{effect_on, seated, busy_does, held_here, sits}
use Rattle.tag_board.proofs.board.Board.busy.Goals as goal

pub invariant_of-self : goal.invariant_of-self
invariant_of-self c =
    let b = c.args.self.now in let at = sits (omega arith) c.index_mut.ensures.value in
    seated b at c.busy.new.hand c.busy.ensures.hand

pub returns : goal.returns
returns c =
    let b = c.args.self.now in let at = sits c.requires c.index_mut.ensures.value in let old = c.index_mut.result.now in
    let new = c.busy.new.hand in let e = c.busy.ensures in let i : ℕ = c.args.caller in let into = c.busy.new.into in
    let bits = c.in_ok-bits.bits in let now : State = state_of_all b.queue (set b.hands.items i new) in
    let change = effect_on b at new e.hand.0 (busy_does b.queue old new into c.busy.result e.lists e.counts) in
    let long : length into ≡ bits.len = let room = e.room in let f = ap length c.deref_mut.ensures.value in
    let g = bits.ok in omega arith in
    subst (λ (x : List ℕ). ListsBusy i (state_of b) x now) (sym (whole_list bits.items into bits.len long)) record {
      long = let few = c.in_ok-bits.ensures.len in let d = c.div_ceil.ensures in
          let z = ap (λ (n : ℕ). div_ceil n 64) b.sizes.0 in omega arith;
      held = λ tag h. e.held tag (held_here b.queue at tag h);
      there = λ tag high low. past_busy b.queue b.hands.items (in_pool old) (in_pool new) into c.busy.result tag e.lists
          high low;
      change = change;
    }
