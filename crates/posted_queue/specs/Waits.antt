-- What a round of a wait in a queue does.
use Rattle.std.specs.Prelude.{◌≡◌}
use Rattle.tag_core.specs.declared.berth.Waiter.{Waiter}
use Rattle.tag_bell.specs.Calls.{nobody}
use Rattle.tag_bell.specs.declared.told.Told.{Told}
use Rattle.tag_bell.specs.declared.waiting.Turn.{Turn}
use Rattle.tag_pool.specs.Waits.{EndsWait, MaySleepNow, WinsRound}
use Rattle.tag_pool.specs.declared.hand.Hand.{Hand}
use Rattle.tag_pool.specs.declared.kind.Kind.TheVariants.{Ordinary}
use Rattle.tag_pool.specs.declared.pool.Pool.{Pool}
use Rattle.posted_queue.specs.declared.queue.PostedHand.{PostedHand}
use Rattle.posted_queue.specs.declared.queue.PostedQueue.{PostedQueue}
use Rattle.posted_queue.specs.declared.waits.Round.{Round}
use Rattle.posted_queue.specs.declared.waits.Round.TheVariants.{Came, Over, Sleep}
use Rattle.posted_queue.specs.Hands.{tokens_of}
use Rattle.posted_queue.specs.Serving.{DoesNoMore, WinsAndServes}

-- what one round did, by its answer: one after which the hand may sleep told nobody
abbrev pub Goes : {R : Type 0}
    → PostedQueue → Pool R → Waiter → Turn → Round → Told → Hand R → Hand R → PostedHand → PostedHand → Type 0
Goes queue pool waiter turn (Came popped) told =
    WinsAndServes queue pool (λ token. WinsRound (tokens_of queue) Ordinary waiter turn token told) popped
Goes queue pool waiter turn Over told = DoesNoMore (EndsWait (tokens_of queue) Ordinary told)
Goes queue pool waiter turn Sleep told =
    DoesNoMore (λ old new. (told ≡ nobody) × MaySleepNow (tokens_of queue) Ordinary waiter turn old new)
