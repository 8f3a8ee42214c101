-- The hand is listed and has tried each tag in vain; or it won one, and ended its wait.
use Rattle.tag_pool.proofs.Uses.{None, ◌∙◌}
use Rattle.tag_model.proofs.HoldingFacts.{more_then_same, same_then_more, same_then_same}
use Rattle.tag_pool.proofs.WaitsKeep.{found_none, listed_can, waits_there}
use Rattle.tag_pool.proofs.pool.Pool.try_listed.Goals as goal

pub returns-in_default-clause-tries : goal.returns-in_default-clause-tries
returns-in_default-clause-tries g c =
    let pool = c.args.self.now in let listed = c.list_self.new.hand in
    let lists = c.list_self.ensures.lists in let tried = c.try_get.new.hand in let gets = c.in_default.ensures.gets in
    let none = found_none pool c.args.kind listed tried gets in
    let can = listed_can pool c.args.kind c.args.waiter c.args.turn c.args.hand.now listed lists c.requires.can in (
      (λ j. record { sleepers = c.none.ensures.0 j; listeners = c.none.ensures.1 j }),
      record {
        listed = listed;
        lists = lists;
        none = gets;
        waiting = waits_there pool c.args.kind None listed tried gets ∙ lists.changed.waiting;
        may = none.may can;
        same = same_then_same c.list_self.ensures.same none.same;
        again = none.again can.room;
      },
    )

pub returns-clause-tries : goal.returns-clause-tries
returns-clause-tries g c = let wins = c.in-Some.ensures.gets in let ends = c.give_up.ensures.ends in record {
  listed = c.list_self.new.hand;
  lists = c.list_self.ensures.lists;
  won = c.try_get.new.hand;
  wins = wins;
  ends = ends;
  more = same_then_more c.list_self.ensures.same (more_then_same wins.more ends.same);
}

pub try_get-requires-clause-room : goal.try_get-requires-clause-room
try_get-requires-clause-room g c =
    (listed_can c.args.self.now c.args.kind c.args.waiter c.args.turn c.args.hand.now c.list_self.new.hand
    c.list_self.ensures.lists c.requires.can).room
