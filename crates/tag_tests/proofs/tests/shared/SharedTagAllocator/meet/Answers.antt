-- In each arm both callers stay the pool's own, by the call that it makes.
use Rattle.tag_tests.proofs.Uses.{IsOwn, subst, sym}
use Rattle.tag_tests.proofs.tests.shared.SharedTagAllocator.meet.Goals as goal
use Rattle.tag_tests.proofs.tests.shared.SharedTagAllocator.meet.Goals.{in-Bare-Bare, in-Bare-Cached, in-Cached-Cached, in-Cached-Bare}

pub returns-clause-first : goal.returns-clause-first
returns-clause-first c = let own = IsOwn c.args.self.now.pool in elim c.match-first.branch [
  | in-Bare-Bare w ↦ subst own (sym w.first-is) w.meet.ensures.hands.0.0
  | in-Bare-Cached w ↦ subst own (sym w.first-is) w.meet_hand.ensures.hand
  | in-Cached-Cached w ↦ subst own (sym w.first-is) w.meet-in-Cached-Cached.ensures.caches.0
  | in-Cached-Bare w ↦ subst own (sym w.first-is) w.meet_hand-in-Cached-Bare.ensures.cache
]

pub returns-clause-second : goal.returns-clause-second
returns-clause-second c = let own = IsOwn c.args.self.now.pool in elim c.match-first.branch [
  | in-Bare-Bare w ↦ subst own (sym w.second-is) w.meet.ensures.hands.1.0
  | in-Bare-Cached w ↦ subst own (sym w.second-is) w.meet_hand.ensures.cache
  | in-Cached-Cached w ↦ subst own (sym w.second-is) w.meet-in-Cached-Cached.ensures.caches.1
  | in-Cached-Bare w ↦ subst own (sym w.second-is) w.meet_hand-in-Cached-Bare.ensures.hand
]
