-- A charge that was won is followed by a walk for one batch, and any other charge by no step at all.
use Rattle.tag_queue.proofs.Uses.{batch_of, book_steps, cap_of, Charge, group_steps, IsCharge, IsWalk, rules, subst, sym, Won, ℕ}
use Rattle.wake_book.specs.Book as book
use Rattle.wake_book.specs.Groups as groups
use Rattle.tag_queue.proofs.WokenByCharges.{follows_none}
use Rattle.tag_queue.proofs.queue.Queue.charge.Goals as goal

pub returns-in-Won-clause-charges : goal.returns-in-Won-clause-charges
returns-in-Won-clause-charges g c = record {
  charge = Won c.in-Won.field-0;
  lawful = subst (λ (z : Charge). IsCharge (cap_of c.args.self.now) (batch_of c.args.self.now) c.args.n
      (book_steps c.args.hand.now) (book.steps_of c.count.new.teller) z) c.in-Won.is c.count.ensures.lawful;
  follows = subst (λ (z : ℕ). IsWalk z (group_steps c.args.hand.now) (groups.steps_of c.walk.new.waiter)
      c.walk.result.woken) (sym c.args.self.now.batch_is) c.walk.ensures.lawful;
  stands = search rules;
}

pub returns-in_default-clause-charges : goal.returns-in_default-clause-charges
returns-in_default-clause-charges g c = record {
  charge = c.count.result;
  lawful = c.count.ensures.lawful;
  follows = follows_none (batch_of c.args.self.now) c.count.result (group_steps c.args.hand.now)
      c.in_default.not-Won;
  stands = search rules;
}
