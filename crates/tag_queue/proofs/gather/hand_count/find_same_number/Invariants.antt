-- The numbers before `second` all differ, and the one at `second` differs from those before `first`.
use Rattle.std.specs.Prelude.{◌<◌, ◌≢◌, ℕ}
use Rattle.std.proofs.Common.{get_or}
use Rattle.tag_queue.specs.Hands.{numbers_of}
use Rattle.tag_queue.proofs.gather.hand_count.find_same_number.Given as goal

abbrev pub invariant-loop-second : goal.invariant-loop-second
invariant-loop-second g l = record {
  differ : (j k : ℕ) → j < k → k < l.second → get_or (numbers_of l.hands) j 0 ≢ get_or (numbers_of l.hands) k 0;
}

abbrev pub invariant-loop-first : goal.invariant-loop-first
invariant-loop-first g l = record {
  next : (j : ℕ) → j < l.first → get_or (numbers_of l.hands) j 0 ≢ get_or (numbers_of l.hands) l.second 0;
}
