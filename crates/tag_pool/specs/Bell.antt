-- How a hand waits for a tag of a set by the bell, and what it has to see to then.
use Rattle.std.specs.Prelude.{◌↔◌, ◌≡◌}
use Rattle.tag_pool.specs.Uses.{Bool, false, IsTrue, record_of}
use Rattle.std.specs.Prelude.{true}
use Rattle.tag_core.specs.Berths.{IsListed}
use Rattle.tag_core.specs.declared.bell_step.BellStep.TheVariants.{LookAt}
use Rattle.tag_core.specs.declared.berth.Berth.{Berth}
use Rattle.tag_core.specs.declared.berth.Waiter.{Waiter}
use Rattle.tag_bell.specs.Callers.{IsUp, IsWaiting, OwesNothing, WaitsAsBefore}
use Rattle.tag_bell.specs.Calls.{FindsWaiters, HasTriedNoLess, OwesNoMore, Rings}
use Rattle.tag_bell.specs.Entering as entering
use Rattle.tag_bell.specs.Sleeping as callers
use Rattle.tag_bell.specs.declared.waiting.Turn.{Turn}
use Rattle.tag_pool.specs.declared.side.Side.{Side}
use Rattle.tag_pool.specs.Sides.{caller_of, hint_of, HoldsSame}

-- its steps listed it: it waits as this waiter, and there is no more to see to, if it did not wait before
pub record ListsSelf {R : Type 0} (waiter : Waiter) (turn : Turn) (old new : Side R) : Type 0 where
  pub waiting : IsWaiting waiter (caller_of new)
  pub owes : IsUp (caller_of old) → (kind : Waiter) → OwesNoMore kind (caller_of old) (caller_of new)
  pub lists : entering.ListsSelf waiter turn (caller_of old) (caller_of new)
  pub holds : HoldsSame old new
  pub hint : hint_of new ≡ hint_of old

-- its two steps ended its wait; if nobody had told it, there is no more to see to
pub record GetsUp {R : Type 0} (was_told : Bool) (old new : Side R) : Type 0 where
  pub up : IsUp (caller_of new)
  pub owes : was_told ≡ false → (kind : Waiter) → OwesNoMore kind (caller_of old) (caller_of new)
  pub leaves : entering.Leaves was_told (caller_of old) (caller_of new)
  pub holds : HoldsSame old new
  pub hint : hint_of new ≡ hint_of old

-- the tags are kept; it waits as it waited, has tried what it had tried, and there is no more to see to
pub record StaysAsItWas {R : Type 0} (old new : Side R) : Type 0 where
  pub waits : WaitsAsBefore (caller_of old) (caller_of new)
  pub tried : HasTriedNoLess (caller_of old) (caller_of new)
  pub owes : (kind : Waiter) → OwesNoMore kind (caller_of old) (caller_of new)
  pub holds : HoldsSame old new
  pub hint : hint_of new ≡ hint_of old

-- the only step was a look at its own berth, and it was told, or did not wait, if it did not find itself listed there
pub record LooksIfTold {R : Type 0} (told : Bool) (old new : Side R) : Type 0 where
  pub step : (found : Berth) × Rings (LookAt (record_of (caller_of old)).number found) (caller_of old) (caller_of new)
      × (IsTrue told ↔ ¬ IsListed (λ waiter. true) found)
  pub stays : StaysAsItWas old new

-- it slept until it found itself told
pub record SleepsUntilTold {R : Type 0} (old new : Side R) : Type 0 where
  pub sleeps : callers.SleepsUntilTold (caller_of old) (caller_of new)
  pub stays : StaysAsItWas old new

-- it looked once at all who wait, and tells whether it found one; if none, there is nothing to see to
pub record LooksForWaiters {R : Type 0} (found : Bool) (old new : Side R) : Type 0 where
  pub finds : FindsWaiters found (caller_of old) (caller_of new)
  pub done : found ≡ false → (waiter : Waiter) → OwesNothing waiter (caller_of new)
  pub waits : WaitsAsBefore (caller_of old) (caller_of new)
  pub holds : HoldsSame old new
  pub hint : hint_of new ≡ hint_of old
