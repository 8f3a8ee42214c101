-- The hand is the last of those that came with the pool.
use Rattle.tag_tests.proofs.Uses.{All-pop, IsHandOf, Some}
use Rattle.tag_tests.proofs.tests.pool.example.the_first_example.Goals as goal

pub get-requires : goal.get-requires
get-requires g c = record {
  hand = (All-pop (IsHandOf c.in_ok-pool.pool) c.in_ok-pool.hands.items c.pop.new.self.items (Some c.in-Some.hand)
      c.in-Some.ensures.items c.in_ok-pool.ensures.ok.own).1;
}
