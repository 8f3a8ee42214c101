-- What completing one request does to the hand that completes it.
use Rattle.std.specs.Prelude.{◌≡◌, ◌≤◌, ◌<◌, ◌⊎◌, ℕ, List, Contains}
use mathlib.Core.Option.{some}
use Rattle.tag_pool.specs.Clears.{Clears}
use Rattle.tag_pool.specs.Hands.{reserved_of, slot_of, total_of}
use Rattle.tag_pool.specs.Sets.{kind_of}
use Rattle.tag_pool.specs.Slots.{Reads, Takes, Misses}
use Rattle.wake_book.specs.Groups.{RingsGranted}
use Rattle.tag_queue.specs.declared.hand.QueueHand.{QueueHand}
use Rattle.tag_queue.specs.declared.queue.Queue.{Queue}
use Rattle.tag_queue.specs.Clears.{Counts}
use Rattle.tag_queue.specs.Hands.{in_pool, pool_of, SameCounts, waiter_of}
use Rattle.loop_device.specs.declared.io.Io.{Io}
use Rattle.loop_device.specs.declared.fault.PlayFault.{PlayFault}
use Rattle.loop_device.specs.declared.fault.PlayFault.TheVariants.{Memory, Setup, Lost, Twice, Spurious, Totals}

-- some I/O line of the log has this number
abbrev pub IsLineOf : List Io → ℕ → Type 0
IsLineOf ios line = (io : Io) × Contains ios io × (io.line ≡ line)

-- the tag, held with this line in its slot, was read and cleared, and counted if it is an ordinary one; whom the clear
-- granted a wakeup was rung for
pub record EndsRequest (tags : Queue ℕ) (tag line : ℕ) (old new : QueueHand ℕ) : Type 0 where
  pub read : QueueHand ℕ
  pub slot : slot_of (in_pool old) tag ≡ some line
  pub reads : Reads tag line (in_pool old) (in_pool read)
  pub same : SameCounts old read
  pub clears : Clears (pool_of tags) tag (in_pool read) (in_pool new)
  pub woken : ℕ
  pub counts : Counts tags (kind_of (reserved_of (pool_of tags)) tag) 1 read new woken
  pub rings : RingsGranted (waiter_of read) (waiter_of new)

-- the tag was found posted with this line in its slot, and was taken, read and cleared
pub record Completes (tags : Queue ℕ) (tag line : ℕ) (old new : QueueHand ℕ) : Type 0 where
  pub taken : QueueHand ℕ
  pub takes : Takes tag (in_pool old) (in_pool taken)
  pub same : SameCounts old taken
  pub ends : EndsRequest tags tag line taken new

-- what the fault says of the line in the slot: the log does not have it, or the store had no memory for it
abbrev pub IsCarryFault : List Io → ℕ → PlayFault → Type 0
IsCarryFault ios line Memory = IsLineOf ios line
IsCarryFault ios line Setup = ⊥
IsCarryFault ios line (Lost other) = ⊥
IsCarryFault ios line (Twice other) = ⊥
IsCarryFault ios line Spurious = ¬ (IsLineOf ios line)
IsCarryFault ios line Totals = ⊥

-- the line in the slot was not carried out, and the tag was read and cleared all the same
pub record EndsWithout (tags : Queue ℕ) (ios : List Io) (tag : ℕ) (fault : PlayFault) (old new : QueueHand ℕ) : Type 0 where
  pub line : ℕ
  pub tells : IsCarryFault ios line fault
  pub ends : EndsRequest tags tag line old new

-- the line in the slot was not carried out, and the tag was taken, read and cleared all the same
pub record CompletesWithout (tags : Queue ℕ) (ios : List Io) (tag : ℕ) (fault : PlayFault)
    (old new : QueueHand ℕ) : Type 0 where
  pub line : ℕ
  pub tells : IsCarryFault ios line fault
  pub completes : Completes tags tag line old new

-- there is no such tag, and nothing changed, or it was found not posted, by a step that moves no tag
pub record IsNotPosted (tags : Queue ℕ) (tag : ℕ) (old new : QueueHand ℕ) : Type 0 where
  pub cause : ((total_of (pool_of tags) ≤ tag) × (new ≡ old))
      ⊎ ((tag < total_of (pool_of tags)) × Misses tag (in_pool old) (in_pool new))
  pub same : SameCounts old new

-- what a fault of `complete` means, and what it leaves behind
abbrev pub IsRequestFault : Queue ℕ → List Io → ℕ → PlayFault → QueueHand ℕ → QueueHand ℕ → Type 0
IsRequestFault tags ios tag fault old new =
    ((fault ≡ Spurious) × IsNotPosted tags tag old new) ⊎ CompletesWithout tags ios tag fault old new
