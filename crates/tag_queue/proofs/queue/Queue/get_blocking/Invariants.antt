-- The hand made rounds that found no tag, and is in no wait group; only the first of its gets may be refused; and nothing
-- that is checked before refused the call.
use Rattle.std.specs.Prelude.{◌≡◌, ◌≤◌}
use Rattle.tag_queue.proofs.Uses.{AreRounds, IsStillOf, layout_of, None, Ordinary, pool_of, standing_of, ℕ}
use Rattle.tag_queue.proofs.FirstGet.{IsFirstOrRoomy}
use Rattle.tag_queue.proofs.queue.Queue.get_blocking.Given as goal

abbrev pub invariant-loop : goal.invariant-loop
invariant-loop g l = record {
  turns : (goal.iterator-loop g).can_next l.iterator' × (goal.iterator-loop g).is_finite l.iterator';
  hand : IsStillOf l.self l.fn.hand l.hand;
  room : IsFirstOrRoomy l.fn.hand l.hand;
  out : standing_of l.hand ≡ None;
  some : 1 ≤ (layout_of (pool_of l.self) Ordinary).depth;
  free : standing_of l.fn.hand ≡ None;
  rounds : (rounds : ℕ) × AreRounds rounds (pool_of l.self) l.fn.hand l.hand;
}
