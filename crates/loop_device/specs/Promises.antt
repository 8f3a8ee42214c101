-- What the threads of a play promise, and what they returned when they were joined.
use Rattle.std.specs.Prelude.{◌≡◌, ℕ, List, [], ◌∷◌, ◌++◌, length, map, fold}
use Rattle.std.specs.declared.thread.PromisedHandle.{PromisedHandle}
use Rattle.tag_queue.specs.declared.hand.QueueHand.{QueueHand}
use Rattle.tag_queue.specs.declared.queue.Queue.{Queue}
use Rattle.loop_device.specs.declared.io.Io.{Io}
use Rattle.loop_device.specs.declared.setup.Setup.{Setup as Asked}
use Rattle.loop_device.specs.declared.threads.Part.{Part}
use Rattle.loop_device.specs.declared.workers.Faults.{Faults}
use Rattle.loop_device.specs.declared.workers.Worked.{Worked}
use Rattle.loop_device.specs.Runs.{Returns, submitter_at}
use Rattle.loop_device.specs.Working.{added}

-- the thread returned what it promised
abbrev pub Keeps : Part → Worked → Type 0
Keeps part worked = Returns part.tags.now part.setup part.log.now.ios.items part.number worked

-- this thread of the play promised its part
pub record IsPart (tags : Queue ℕ) (setup : Asked) (ios : List Io) (thread : ℕ) (part : Part) : Type 0 where
  pub tags_are : part.tags.now ≡ tags
  pub setup_is : part.setup ≡ setup
  pub ios_are : part.log.now.ios.items ≡ ios
  pub number_is : part.number ≡ submitter_at setup.completers thread

-- each of these threads promised its part, from the first thread of the play on
abbrev pub HavePromised : Queue ℕ → Asked → List Io → List (PromisedHandle Worked Part) → Type 0
HavePromised tags setup ios handles = (before : List (PromisedHandle Worked Part)) (handle : PromisedHandle Worked Part)
    (after : List (PromisedHandle Worked Part)) → handles ≡ before ++ handle ∷ after
    → IsPart tags setup ios (length before) handle.promise

-- threads were joined from the last on, and each kept its promise
abbrev pub KeepInTurn : List (PromisedHandle Worked Part) → List (PromisedHandle Worked Part) → List Worked → Type 0
KeepInTurn old new [] = new ≡ old
KeepInTurn old new (worked ∷ later) = (rest : List (PromisedHandle Worked Part))
    × (last : PromisedHandle Worked Part) × (old ≡ rest ++ last ∷ []) × Keeps last.promise worked × KeepInTurn rest new later

-- the threads that were joined added their hands and their faults
pub record AreJoined (old new : List (PromisedHandle Worked Part)) (hands back : List (QueueHand ℕ))
    (faults all : Faults) : Type 0 where
  pub works : List Worked
  pub kept : KeepInTurn old new works
  pub back_is : back ≡ hands ++ map (λ worked. worked.hand) works
  pub all_are : all ≡ fold (λ faults worked. added faults worked.faults) faults works
