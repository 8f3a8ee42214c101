-- No step in the pool follows the look. If it found waiters, the completion is counted; a charge that was won is followed
-- by a walk for one batch, any other charge by no step. The look itself grants nobody a wakeup.
use Rattle.tag_queue.proofs.Uses.{ap, arith, batch_of, Follows, group_steps, GroupStep, inr, List, rules, sighted_beside, sighted_steps, subst, sym, ◌∙◌}
use Rattle.tag_queue.proofs.Granted.{look_grants_none}
use Rattle.tag_queue.proofs.queue.Queue.complete.Goals as goal

pub returns-then-found-eq0-clause-tells : goal.returns-then-found-eq0-clause-tells
returns-then-found-eq0-clause-tells g c = c.nobody.ensures.tells c.args.hand.now.waiter c.sight-found.new.waiter
    (look_grants_none c.sight-found.result.0 c.args.hand.now.waiter c.sight-found.new.waiter c.sight-found.ensures.step
    c.sight-found.ensures.groups.1.3)

pub returns-clause-tells : goal.returns-clause-tells
returns-clause-tells g c = c.charge_and_tell.ensures.tells c.args.hand.now (look_grants_none c.sight-found.result.0
    c.args.hand.now.waiter c.sight-found.new.waiter c.sight-found.ensures.step c.sight-found.ensures.groups.1.3)

pub returns-clause-counts : goal.returns-clause-counts
returns-clause-counts g c = let charges = c.charge_and_tell.ensures.charges in
    let look = c.sight-found.ensures in let told = c.charge_and_tell.ensures in record {
      counts = inr (record {
        active = c.sight-found.result.0;
        some = omega (arith, c.if-found-eq0.false);
        sights = record {
          after_pool = ap sighted_beside told.sighted ∙ look.beside ∙ sym told.others;
          first_step = ap sighted_steps told.sighted ∙ look.steps ∙ look.step;
        };
        charge = charges.charge;
        lawful = charges.lawful;
        follows = subst (λ (z : List GroupStep). Follows (batch_of c.args.self.now) charges.charge z
            (group_steps c.charge_and_tell.new.hand) (g.W.Waking.woken c.charge_and_tell.result)) c.sight-found.ensures.step
            charges.follows;
      });
      stands = search rules;
    }
