-- The hand has slept some times, and can wait again, with the turn that it had.
use Rattle.std.specs.Prelude.{◌≡◌}
use Rattle.tag_pool.proofs.Uses.{IsStillOf, ℕ}
use Rattle.tag_pool.specs.Waits.{AreSleeps, CanWait, turn_after, UntilTold}
use Rattle.tag_pool.proofs.pool.Pool.sleep_for_tag.Given as goal

abbrev pub invariant-loop : goal.invariant-loop
invariant-loop g l = record {
  turns : (goal.iterator-loop g).can_next l.iterator' × (goal.iterator-loop g).is_finite l.iterator';
  hand : IsStillOf l.self l.fn.hand l.hand;
  can : CanWait l.kind l.hand;
  sleeps : ℕ;
  turn : l.turn ≡ turn_after sleeps;
  slept : AreSleeps sleeps l.self l.kind (UntilTold l.kind) l.fn.hand l.hand;
}
