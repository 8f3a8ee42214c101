-- The grants of the charge are all that were made since the moment before, at which the answer looks.
use Rattle.tag_queue.specs.Hands.{waiter_of}
use Rattle.tag_queue.proofs.Granted.{charges_told, granted_since}
use Rattle.tag_queue.proofs.queue.Queue.charge_and_tell.Goals as goal

pub returns-clause-tells : goal.returns-clause-tells
returns-clause-tells g c = λ before none. c.tell.ensures.tells before (granted_since c.charge-grants.result
    (waiter_of before) (waiter_of c.args.hand.now) (waiter_of c.charge-grants.new.hand) none
    c.charge-grants.ensures.grants)

pub returns-clause-charges : goal.returns-clause-charges
returns-clause-charges g c = let tell = c.tell.ensures in charges_told c.args.self.now c.args.n c.args.hand.now
    c.charge-grants.new.hand c.tell.new.hand _ _ tell.woken c.charge-grants.ensures.charges tell.steps tell.stands
    tell.others.1
