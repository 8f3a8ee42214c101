-- The hand has slept as many times as the loop has run, and can wait again, with the turn that it had; its wait is over if
-- the sleeper ended it.
use Rattle.std.specs.Prelude.{◌≡◌}
use Rattle.tag_pool.proofs.Uses.{IsStillOf, IsTrue, ℕ}
use Rattle.tag_pool.specs.Waits.{AreSleeps, Beside, CanWait, turn_after}
use Rattle.tag_pool.proofs.pool.Pool.sleep_until.Given as goal

abbrev pub invariant-loop : goal.invariant-loop
invariant-loop g l = record {
  hand : IsStillOf l.self l.fn.hand l.hand;
  can : CanWait l.kind l.hand;
  over : IsTrue l.is_over → g.S.Sleeper.has_ended l.sleeper;
  sleeps : ℕ;
  turn : l.turn ≡ turn_after sleeps;
  count : sleeps ≡ l.counter;
  slept : AreSleeps sleeps l.self l.kind Beside l.fn.hand l.hand;
}
