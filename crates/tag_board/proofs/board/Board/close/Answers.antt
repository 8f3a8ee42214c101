-- A board has all its hands, so `gather` succeeds, and its sums over both sets are those over all callers.
use Rattle.tag_board.proofs.Uses.{false≢true}
use Rattle.tag_board.proofs.Endings.{all_there, totals_are}
use Rattle.tag_board.proofs.board.Board.close.Goals as goal

pub unreachable-requires : goal.unreachable-requires
unreachable-requires c = let b = c.args.self in
    false≢true (c.in_default.ensures.succeeds.1 (all_there b.queue b.hands.items b.ordered b.every))

pub returns : goal.returns
returns c = let b = c.args.self in let is = c.in-Ok.ensures.ok in
    record { totals = totals_are b.queue b.hands.items c.in-Ok.totals b.own is; balance = is.tags.balance }
