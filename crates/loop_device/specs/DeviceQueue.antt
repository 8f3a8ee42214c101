-- The rule of the device queue, through which submitters pass tags to completers.
use Rattle.std.specs.Prelude.{◌≡◌, ℕ, ◌+◌, ◌<◌, ◌==◌, Bool, true, cond, List, ◌∷◌}
use Rattle.std.specs.List.{Contains, count_by, sum_by}
use Rattle.crossbeam_queue.specs.Fifo.{Held}
use Rattle.loop_device.specs.declared.device_queue.Worker.{Worker}
use Rattle.loop_device.specs.declared.device_queue.Closing.{Closing}
use Rattle.loop_device.specs.declared.device_queue.Popped.{Popped}
use Rattle.loop_device.specs.declared.device_queue.Popped.TheVariants.{Tag, Empty, Last}

-- what the rule knows of a thread: whether it submits, and what it has pushed and popped, newest first
abbrev pub worker : Bool → List ℕ → List ℕ → Worker
worker submits pushed popped = record { submits = submits; pushed = pushed; popped = popped }

-- the thread has pushed the number besides
abbrev pub after_push : Worker → ℕ → Worker
after_push v number = worker v.submits (number ∷ v.pushed) v.popped

-- the thread has popped the number besides
abbrev pub after_pop : Worker → ℕ → Worker
after_pop v number = worker v.submits v.pushed (number ∷ v.popped)

-- how often the number stands in the list
abbrev pub times_in : List ℕ → ℕ → ℕ
times_in numbers number = count_by (λ other. other == number) numbers

-- how often submitters have pushed the number
abbrev pub times_pushed : List Worker → ℕ → ℕ
times_pushed workers number = sum_by (λ v. cond v.submits (times_in v.pushed number) 0) workers

-- how often threads have popped the number
abbrev pub times_popped : List Worker → ℕ → ℕ
times_popped workers number = sum_by (λ v. times_in v.popped number) workers

-- submitters pushed each number as often as it was popped and stands in the queue; what stands there is below the total
pub record AreHandedOn (total : ℕ) (numbers : List ℕ) (workers : List Worker) : Type 0 where
  pub below : (number : ℕ) → Contains numbers number → number < total
  pub balanced : (number : ℕ) → times_pushed workers number ≡ times_popped workers number + times_in numbers number

-- this was in the queue, handed on by workers of which the thread was one
pub record IsSeenBy (total : ℕ) (v : Worker) (numbers : List ℕ) : Type 0 where
  pub workers : List Worker
  pub lawful : AreHandedOn total numbers workers
  pub among : Contains workers v

-- at one moment the queue held as many numbers as it has room for
abbrev pub WasFull : ℕ → ℕ → Worker → Type 0
WasFull total room v = Held room (IsSeenBy total v)

-- what a pop tells: the number that it took, or that it found none, and then whether the flag was read set before it
abbrev pub Tells : Closing → ℕ → Worker → Worker → Popped → Type 0
Tells closing total old new (Tag tag) = (tag < total) × (new ≡ after_pop old tag)
Tells closing total old new Empty = new ≡ old
Tells closing total old new (Last drained) = (drained.closing ≡ closing) × (drained.closing.seen ≡ true) × (new ≡ old)
