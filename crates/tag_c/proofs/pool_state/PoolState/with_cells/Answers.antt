-- Each cell is made beside a hand of the tags.
use Rattle.tag_c.proofs.Uses.{All, All-get_or, All-push, arith, IsHandOf, subst, sym}
use Rattle.tag_c.proofs.pool_state.PoolState.with_cells.Goals as goal

pub loop-hand-preserved : goal.loop-hand-preserved
loop-hand-preserved c = let was = c.loop-hand.invariant in let own = IsHandOf c.args.tags in
    let push = c.push_reserved.ensures in
    let hand = subst own (sym c.hand-item.is)
    (All-get_or own c.args.hands.now c.loop-hand.hand-index c.hand-item.result c.loop-hand-test.true c.requires.own) in
    record {
      own = subst (All own) (sym push.items)
          (All-push own c.loop-hand.cells.items c.empty_cell.result was.own (subst own (sym c.empty_cell.ensures) hand));
      count = omega (arith, was.count, push.len);
      room = omega (arith, was.room, push.capacity);
    }
