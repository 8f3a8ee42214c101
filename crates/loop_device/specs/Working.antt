-- What a thread of a play has, and how it goes through its work.
use Rattle.std.specs.Prelude.{◌≡◌, ◌||◌, ℕ, true, false, List, [], ◌∷◌, Result, Ok, Err}
use Rattle.tag_queue.specs.declared.hand.QueueHand.{QueueHand}
use Rattle.loop_device.specs.declared.device_queue.Worker.{Worker}
use Rattle.loop_device.specs.declared.fault.PlayFault.{PlayFault}
use Rattle.loop_device.specs.declared.fault.PlayFault.TheVariants.{Memory, Setup, Lost, Twice, Spurious, Totals}
use Rattle.loop_device.specs.declared.workers.Faults.{Faults}
use Rattle.loop_device.specs.declared.workers.Worked.{Worked}

-- no faults
abbrev pub clean : Faults
clean = record { memory = false; spurious = false }

-- the faults of two threads together
abbrev pub added : Faults → Faults → Faults
added faults other = record {
  memory = faults.memory || other.memory;
  spurious = faults.spurious || other.spurious;
}

-- what a thread has: its hand, what the rule of the queue knows of it, and the faults that it noted
pub record State : Type 0 where
  pub hand : QueueHand ℕ
  pub view : Worker
  pub faults : Faults

-- a thread that begins has noted no fault
abbrev pub begins : QueueHand ℕ → Worker → State
begins hand view = record { hand = hand; view = view; faults = clean }

-- what a thread returns, and what the rule of the queue knows of it then
abbrev pub ends : Worked → Worker → State
ends worked view = record { hand = worked.hand; view = view; faults = worked.faults }

-- the faults, and what became of one line more: of memory and of a spurious completion a thread takes note
abbrev pub noted : Faults → Result ℕ PlayFault → Faults
noted faults (Ok line) = faults
noted faults (Err Memory) = record faults { memory = true }
noted faults (Err Setup) = faults
noted faults (Err (Lost line)) = faults
noted faults (Err (Twice line)) = faults
noted faults (Err Spurious) = record faults { spurious = true }
noted faults (Err Totals) = faults

-- one turn for each of these, one after another, and nothing else
abbrev pub TakesTurns : {A : Type 0} → (A → State → State → Type 0) → List A → State → State → Type 0
TakesTurns Turn [] old new = new ≡ old
TakesTurns Turn (x ∷ later) old new = (between : State) × Turn x old between × TakesTurns Turn later between new
