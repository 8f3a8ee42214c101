-- What a completer does with the numbers that it pops.
use Rattle.std.specs.Prelude.{◌≡◌, ℕ, List, Result, Ok, Err}
use Rattle.tag_queue.specs.declared.hand.QueueHand.{QueueHand}
use Rattle.tag_queue.specs.declared.queue.Queue.{Queue}
use Rattle.loop_device.specs.declared.fault.PlayFault.{PlayFault}
use Rattle.loop_device.specs.declared.io.Io.{Io}
use Rattle.loop_device.specs.DeviceQueue.{after_pop}
use Rattle.loop_device.specs.Requests.{Completes, IsRequestFault}
use Rattle.loop_device.specs.Working.{State, noted, TakesTurns}

-- the request of the tag was completed, or ended with this fault
abbrev pub Ends : Queue ℕ → List Io → ℕ → Result ℕ PlayFault → QueueHand ℕ → QueueHand ℕ → Type 0
Ends tags ios tag (Ok line) old new = Completes tags tag line old new
Ends tags ios tag (Err fault) old new = IsRequestFault tags ios tag fault old new

-- the thread popped the number and ended its request, and took note of what became of it
pub record Serves (tags : Queue ℕ) (ios : List Io) (tag : ℕ) (old new : State) : Type 0 where
  pub done : Result ℕ PlayFault
  pub pops : new.view ≡ after_pop old.view tag
  pub ends : Ends tags ios tag done old.hand new.hand
  pub notes : new.faults ≡ noted old.faults done

-- the thread served the numbers that it popped, one after another, and did nothing else
abbrev pub ServesPopped : Queue ℕ → List Io → State → State → Type 0
ServesPopped tags ios old new = (popped : List ℕ) × TakesTurns (Serves tags ios) popped old new
