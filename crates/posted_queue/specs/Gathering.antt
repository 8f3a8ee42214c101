-- How a queue is closed, and what the totals of its tokens say.
use Rattle.std.specs.Prelude.{List, map, ℕ}
use Rattle.step_ledger.specs.Gather.{HasAll, IsLeastMissing}
use Rattle.tag_model.specs.declared.totals.Totals.{Totals}
use Rattle.tag_pool.specs.Gathering as pool
use Rattle.posted_queue.specs.declared.gather.PostedGatherCause.{PostedGatherCause}
use Rattle.posted_queue.specs.declared.gather.PostedGatherCause.TheVariants.{Memory, Missing}
use Rattle.posted_queue.specs.declared.queue.PostedHand.{PostedHand}
use Rattle.posted_queue.specs.declared.queue.PostedQueue.{PostedQueue}
use Rattle.posted_queue.specs.Hands.{in_tokens, tokens_of}

-- the hands of the tokens are gathered with these totals
abbrev pub IsGathered : PostedQueue → List PostedHand → Totals → Type 0
IsGathered queue hands totals = pool.IsGathered (tokens_of queue) (map in_tokens hands) totals

-- why a queue with these hands is not closed: the least number that is missing, or memory where none is missing
abbrev pub IsCauseOf : List ℕ → ℕ → PostedGatherCause → Type 0
IsCauseOf numbers count (Missing number) = IsLeastMissing numbers count number
IsCauseOf numbers count Memory = HasAll numbers count
