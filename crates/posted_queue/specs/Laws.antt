-- The law of a queue: nobody sleeps in it beside a queued tag unless somebody is on the way to it.
use Rattle.std.specs.Prelude.{◌<◌, ⊤, Bool, ℕ}
use Rattle.tag_bell.specs.Safety.{IsAsleep, IsFree, SomebodyAwakeComes}
use Rattle.tag_core.specs.Histories.{History, IsLawful}
use Rattle.tag_core.specs.declared.berth.Waiter.{Waiter}
use Rattle.tag_core.specs.declared.shape.Shape.{Shape}

-- after this history of a queue's tokens, a tag is queued for this token: it is free
abbrev pub IsQueued : Shape → History ⊤ → ℕ → Type 0
IsQueued k h token = (token < k.layout.depth) × IsFree k.layout h token

-- the hand is asleep in the queue, as one of these waiters
abbrev pub IsAsleepIn : Shape → (Waiter → Bool) → History ⊤ → ℕ → Type 0
IsAsleepIn k kinds h hand = (hand < k.callers) × IsAsleep k.layout kinds h hand

-- after every lawful history of a queue's tokens, so between any two steps of any schedule, and for any kinds of waiter:
-- if a hand is asleep in the queue and a tag is queued, some hand that is not asleep is on the way to it for its sake
abbrev pub NobodySleepsBesideAQueuedTag : Type 0
NobodySleepsBesideAQueuedTag = (k : Shape) (h : History ⊤) → IsLawful k h → (kinds : Waiter → Bool)
    → (sleeper : ℕ) → IsAsleepIn k kinds h sleeper → (token : ℕ) → IsQueued k h token
    → SomebodyAwakeComes k kinds h token sleeper
