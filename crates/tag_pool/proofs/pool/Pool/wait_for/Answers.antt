-- The hand wins a tag at once, or sleeps after a get that found none.
use Rattle.tag_pool.proofs.Uses.{Some}
use Rattle.tag_pool.specs.Waits.{Beside}
use Rattle.tag_pool.proofs.WaitsKeep.{asleep, at_once, beside_keeps, found_none}
use Rattle.tag_pool.proofs.pool.Pool.wait_for.Goals as goal

pub returns-in-Some-clause-gets : goal.returns-in-Some-clause-gets
returns-in-Some-clause-gets g c = at_once c.args.self.now c.args.kind Beside _ (Some c.in-Some.tag) c.see_to_all.result c.args.hand.now
    c.see_to_all.new.hand (record {
      won = c.try_get.new.hand;
      wins = c.in-Some.ensures.gets;
      some = λ e. (let none = e in cc);
      sees = record { set = c.see_to_all.ensures.sees_to; saw = c.see_to_all.ensures.saw };
    })

pub sleep_until-requires-clause-can : goal.sleep_until-requires-clause-can
sleep_until-requires-clause-can g c =
    (found_none c.args.self.now c.args.kind c.args.hand.now c.try_get.new.hand c.in_default.ensures.gets).again
    c.in_ok-check_blocking.ensures.refusals.passes.1.0

pub returns-clause-gets : goal.returns-clause-gets
returns-clause-gets g c = let end = c.sleep_until in asleep c.args.self.now c.args.kind Beside
    (beside_keeps c.args.self.now c.args.kind) _
    end.result.0 end.result.1 c.args.hand.now end.new.hand (record {
      tried = c.try_get.new.hand;
      none = c.in_default.ensures.gets;
      sleeps = end.ensures.sleeps;
    })
