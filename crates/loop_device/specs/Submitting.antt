-- What a submitter does with its lines.
use Rattle.std.specs.Prelude.{◌≡◌, ◌==◌, ◌%◌, ◌⊎◌, ℕ, false, List, map, filter, Result, Ok, Err}
use Rattle.std.specs.List.{enumerate_from}
use Rattle.refusals.specs.Refusals.{FailsFirst}
use Rattle.tag_pool.specs.Hands.{total_of}
use Rattle.tag_pool.specs.Slots.{Writes, Posts}
use Rattle.tag_queue.specs.declared.fault.WaitFault.{WaitFault}
use Rattle.tag_queue.specs.declared.hand.QueueHand.{QueueHand}
use Rattle.tag_queue.specs.declared.queue.Queue.{Queue}
use Rattle.tag_queue.specs.Blocking.{BlockingGets}
use Rattle.tag_queue.specs.Hands.{in_pool, pool_of, SameCounts}
use Rattle.tag_queue.specs.Refusals.{blocking_checks}
use Rattle.loop_device.specs.declared.device_queue.Worker.{Worker}
use Rattle.loop_device.specs.declared.fault.PlayFault.{PlayFault}
use Rattle.loop_device.specs.declared.fault.PlayFault.TheVariants.{Lost}
use Rattle.loop_device.specs.declared.io.Io.{Io}
use Rattle.loop_device.specs.Completing.{Ends}
use Rattle.loop_device.specs.DeviceQueue.{WasFull, after_push}
use Rattle.loop_device.specs.Working.{State, noted, TakesTurns}

-- the lines of one of so many submitters, counted from 0: those whose index leaves its number as the remainder
abbrev pub share_of : ℕ → ℕ → List Io → List ℕ
share_of number submitters ios =
    map (λ entry. entry.1.line) (filter (λ entry. entry.0 % submitters == number) (enumerate_from 0 ios))

-- the hand took a free ordinary tag, wrote the line into its slot, and posted it
pub record PostsLine (tags : Queue ℕ) (line tag : ℕ) (old new : QueueHand ℕ) : Type 0 where
  pub won : QueueHand ℕ
  pub gets : BlockingGets (pool_of tags) tag old won
  pub written : QueueHand ℕ
  pub writes : Writes tag line (in_pool won) (in_pool written)
  pub posts : Posts tag 0 (in_pool written) (in_pool new)
  pub same : SameCounts won written × SameCounts written new

-- the line was posted, and its tag pushed
pub record PassesOn (tags : Queue ℕ) (line : ℕ) (done : Result ℕ PlayFault) (before after : Worker)
    (old new : QueueHand ℕ) : Type 0 where
  pub tag : ℕ
  pub posts : PostsLine tags line tag old new
  pub pushes : after ≡ after_push before tag
  pub is_done : done ≡ Ok line

-- the line was posted, the queue had no room for its tag, and so its submitter ended the request itself
pub record EndsItself (tags : Queue ℕ) (room : ℕ) (ios : List Io) (line : ℕ) (done : Result ℕ PlayFault)
    (before after : Worker) (old new : QueueHand ℕ) : Type 0 where
  pub tag : ℕ
  pub posted : QueueHand ℕ
  pub posts : PostsLine tags line tag old posted
  pub full : WasFull (total_of (pool_of tags)) room before
  pub ends : Ends tags ios tag done posted new
  pub same : after ≡ before

-- no tag could be taken for the line, since a blocking get is refused, and its fault is that of the first check that fails
pub record TakesNone (tags : Queue ℕ) (line : ℕ) (done : Result ℕ PlayFault) (before after : Worker)
    (old new : QueueHand ℕ) : Type 0 where
  pub fault : WaitFault
  pub refused : FailsFirst (blocking_checks tags old) fault
  pub same : after ≡ before
  pub same_hand : new ≡ old
  pub is_lost : done ≡ Err (Lost line)

-- the ways in which a line may be submitted
abbrev pub SubmitsAs : Queue ℕ → ℕ → List Io → ℕ → Result ℕ PlayFault → Worker → Worker → QueueHand ℕ → QueueHand ℕ → Type 0
SubmitsAs tags room ios line done before after old new = PassesOn tags line done before after old new
    ⊎ EndsItself tags room ios line done before after old new
    ⊎ TakesNone tags line done before after old new

-- the thread submitted the line, and took note of what became of it
pub record Submits (tags : Queue ℕ) (room : ℕ) (ios : List Io) (line : ℕ) (old new : State) : Type 0 where
  pub done : Result ℕ PlayFault
  pub way : SubmitsAs tags room ios line done old.view new.view old.hand new.hand
  pub notes : new.faults ≡ noted old.faults done

-- unless it noted a want of memory, the thread submitted each line of its share in order, and did nothing else
abbrev pub SubmitsShare : Queue ℕ → ℕ → List Io → ℕ → ℕ → State → State → Type 0
SubmitsShare tags room ios number submitters old new = new.faults.memory ≡ false
    → TakesTurns (Submits tags room ios) (share_of number submitters ios) old new
