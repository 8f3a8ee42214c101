-- The call adds loads to the lists of its caller, and nothing else.
use Rattle.std.proofs.Common.{arith}
use Rattle.tag_board.proofs.Uses.{Finds}
use Rattle.tag_board.proofs.Commands.{effect_on, seated, stay_does, sits, standing_here}
use Rattle.tag_board.proofs.board.Board.wakes.Goals as goal

pub invariant_of-self : goal.invariant_of-self
invariant_of-self c =
    let b = c.args.self.now in let at = sits (omega arith) c.index_mut.ensures.value in
    seated b at c.wakes.new.hand c.wakes.ensures.hand

pub returns : goal.returns
returns c =
    let b = c.args.self.now in let at = sits c.requires c.index_mut.ensures.value in let old = c.index_mut.result.now in
    let new = c.wakes.new.hand in let e = c.wakes.ensures in let stands = e.same.1 in
    let k = effect_on b at new e.hand.0 (stay_does b.queue old new (Finds c.wakes.result) e.same.0 stands.1 record {
      counts = e.counts;
      looks = e.looks;
      within = e.within;
      stays = (stands.1, stands.2);
    }) in record {
      ordered = e.ordered;
      active = λ t. e.active ((standing_here b.queue at).1 t);
      change = k;
    }
