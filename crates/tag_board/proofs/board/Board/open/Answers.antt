-- The new hands are in the order of their numbers and have done nothing, so each part is idle and no set was touched.
use Rattle.tag_board.proofs.Newcomers.{every, in_order, opens, sizes}
use Rattle.tag_board.proofs.board.Board.open.Goals as goal

pub invariant_of-result : goal.invariant_of-result
invariant_of-result c = let o = c.in_ok-queue in let is = o.ensures.ok in record {
  own = is.counts.own;
  ordered = in_order c.args.options c.args.cap o.queue o.hands.items is;
  every = every c.args.options c.args.cap o.queue o.hands.items is;
  sizes = sizes c.args.options c.args.cap o.queue o.hands.items is;
}

pub returns-clause-ok : goal.returns-clause-ok
returns-clause-ok c = let o = c.in_ok-queue in
    opens c.args.options c.args.cap o.queue o.hands.items o.ensures.ok
