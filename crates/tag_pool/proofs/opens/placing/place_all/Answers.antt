-- Each turn places the next hand, which is still as it was passed in.
use Rattle.tag_pool.proofs.Uses.{arith, Hand, IsHandOf, subst, sym}
use Rattle.tag_pool.specs.Placing.{IsPlaced}
use Rattle.tag_pool.proofs.OneByOne.{changed_more, left_more, next_is}
use Rattle.tag_pool.proofs.opens.placing.place_all.Goals as goal

pub place-requires : goal.place-requires
place-requires g c = let now = c.loop-hand in subst (IsHandOf c.args.pool.now)
    (sym (next_is c.args.hands.now now.hands now.hand-index c.hand-item.result now.invariant.left))
    (c.requires now.hand-index c.hand-item.result c.loop-hand-test.true)

pub loop-hand-preserved : goal.loop-hand-preserved
loop-hand-preserved g c = let now = c.loop-hand in let hand = c.place.new.hand in let pool = c.args.pool.now in record {
  placed = changed_more (IsPlaced pool) c.args.hands.now now.hands now.hand-index c.hand-item.result hand
      c.loop-hand-test.true (let e = now.auto.hands in let l = c.loop-hand-test.true in omega arith)
      now.invariant.left c.hand-item.is now.invariant.placed
      (subst (λ (x : Hand g.row.R.Denot). IsPlaced pool x hand) (sym c.hand-item.is) c.place.ensures.placed);
  left = left_more c.args.hands.now now.hands now.hand-index hand now.invariant.left;
}
