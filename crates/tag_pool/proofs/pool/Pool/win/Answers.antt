-- The hand wins a tag at once, or sleeps after a get that found none.
use Rattle.tag_pool.proofs.Uses.{Some}
use Rattle.tag_pool.specs.Waits.{UntilTold}
use Rattle.tag_pool.proofs.WaitsKeep.{asleep, at_once, found_none, told_keeps}
use Rattle.tag_pool.proofs.pool.Pool.win.Goals as goal

pub returns-in-Some-clause-gets : goal.returns-in-Some-clause-gets
returns-in-Some-clause-gets g c = at_once c.args.self.now c.args.kind (UntilTold c.args.kind) ⊥ (Some c.in-Some.tag) c.see_to_all.result c.args.hand.now
    c.see_to_all.new.hand (record {
      won = c.try_get.new.hand;
      wins = c.in-Some.ensures.gets;
      some = λ e. (let none = e in cc);
      sees = record { set = c.see_to_all.ensures.sees_to; saw = c.see_to_all.ensures.saw };
    })

pub sleep_for_tag-requires-clause-can : goal.sleep_for_tag-requires-clause-can
sleep_for_tag-requires-clause-can g c =
    (found_none c.args.self.now c.args.kind c.args.hand.now c.try_get.new.hand c.in_default.ensures.gets).again
    c.requires.room

pub returns-clause-gets : goal.returns-clause-gets
returns-clause-gets g c = let end = c.sleep_for_tag in asleep c.args.self.now c.args.kind
    (UntilTold c.args.kind) (told_keeps c.args.self.now c.args.kind) ⊥
    (Some end.result.0) end.result.1 c.args.hand.now end.new.hand (record {
      tried = c.try_get.new.hand;
      none = c.in_default.ensures.gets;
      sleeps = end.ensures.sleeps;
    })
