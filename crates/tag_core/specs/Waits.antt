-- Callers that wait: what their steps find, what these leave, and what a caller's own steps show of it.
use Rattle.std.specs.Prelude.{◌%◌, ◌<◌, ◌^◌, ◌∷◌, ◌≡◌, ◌⊎◌, [], bit_or, cond, List, nat_eq, suc, ℕ}
use mathlib.Core.Option.{none, some}
use mathlib.Core.Option as maybe
use Rattle.tag_model.specs.declared.world.TheConstants.{MAX_CALLERS}
use Rattle.tag_core.specs.declared.bell_step.BellStep.{BellStep}
use Rattle.tag_core.specs.declared.bell_step.BellStep.TheVariants.{Enlist, Enter, GetUp, Leave, LookAll, LookAt, TakeTurn, Tell}
use Rattle.tag_core.specs.declared.berth.TheConstants.{TURNS}
use Rattle.tag_core.specs.declared.berth.Waiter.{Waiter}
use Rattle.tag_core.specs.declared.berth.Berth.{Berth}
use Rattle.tag_core.specs.declared.berth.Berth.TheVariants.{Listed, Told, Up}
use Rattle.tag_core.specs.declared.step.Step.{Step}
use Rattle.tag_core.specs.declared.step.Step.TheVariants.{Bell, Post, ReadNote, Take, Word}
use Rattle.tag_core.specs.Berths.{same_waiter, told_as}
use Rattle.tag_core.specs.Steps.{without}

-- the word of all who wait, which has a bit for each caller, the number of turns that were taken, and each caller's berth
pub record Waits : Type 0 where
  pub waiters : ℕ
  pub clock : ℕ
  pub berths : ℕ → Berth

-- a caller's bit
abbrev pub bit_of : ℕ → ℕ
bit_of caller = 2 ^ caller

-- the berths, with another one at one index
abbrev pub with_berth : (ℕ → Berth) → ℕ → Berth → ℕ → Berth
with_berth berths at berth d = cond (nat_eq d at) berth (berths d)

-- the step found what stands there
abbrev pub FindsWaits : BellStep → Waits → Type 0
FindsWaits (Enter caller found) w = found ≡ w.waiters
FindsWaits (Leave caller found) w = found ≡ w.waiters
FindsWaits (LookAll found) w = found ≡ w.waiters
FindsWaits (TakeTurn found) w = found ≡ w.clock % TURNS
FindsWaits (Enlist caller waiter turn found) w = found ≡ w.berths caller
FindsWaits (LookAt whom found) w = found ≡ w.berths whom
FindsWaits (Tell whom waiter turn found) w = found ≡ w.berths whom
FindsWaits (GetUp caller found) w = found ≡ w.berths caller

-- what the step leaves
abbrev pub waits_after : BellStep → Waits → Waits
waits_after (Enter caller found) w = record w { waiters = bit_or w.waiters (bit_of caller) }
waits_after (Leave caller found) w = record w { waiters = without w.waiters (bit_of caller) }
waits_after (LookAll found) w = w
waits_after (TakeTurn found) w = record w { clock = suc w.clock }
waits_after (Enlist caller waiter turn found) w =
    record w { berths = with_berth w.berths caller (Listed waiter turn) }
waits_after (LookAt whom found) w = w
waits_after (Tell whom waiter turn found) w =
    record w { berths = with_berth w.berths whom (told_as waiter turn (w.berths whom)) }
waits_after (GetUp caller found) w = record w { berths = with_berth w.berths caller Up }

-- by its own steps, newest first, the caller has taken this turn
abbrev pub HasTaken : {R : Type 0} → ℕ → List (Step R) → Type 0
HasTaken turn [] = ⊥
HasTaken turn (Bell (TakeTurn found) ∷ older) = (found ≡ turn) ⊎ HasTaken turn older
HasTaken turn (step ∷ older) = HasTaken turn older

-- it has joined all who wait, and not left them since
abbrev pub IsIn : {R : Type 0} → List (Step R) → Type 0
IsIn [] = ⊥
IsIn (Bell (Enter caller found) ∷ older) = Unit {0}
IsIn (Bell (Leave caller found) ∷ older) = ⊥
IsIn (step ∷ older) = IsIn older

-- as what it waits: as it listed itself last, unless it has got up since
abbrev pub waits_as : {R : Type 0} → List (Step R) → maybe.Option Waiter
waits_as [] = none
waits_as (Bell (Enlist caller waiter turn found) ∷ older) = some waiter
waits_as (Bell (GetUp caller found) ∷ older) = none
waits_as (step ∷ older) = waits_as older

-- by steps of its own alone a caller joins and leaves all who wait, lists itself and gets up: it leaves them only after
-- it got up, and lists itself only while it is among them, with a turn that it took
abbrev pub IsOwn : {R : Type 0} → ℕ → BellStep → List (Step R) → Type 0
IsOwn who (Enter caller found) own = caller ≡ who
IsOwn who (Leave caller found) own = (caller ≡ who) × (waits_as own ≡ none)
IsOwn who (LookAll found) own = Unit {0}
IsOwn who (TakeTurn found) own = Unit {0}
IsOwn who (Enlist caller waiter turn found) own = (caller ≡ who) × IsIn own × HasTaken turn own
IsOwn who (LookAt whom found) own = Unit {0}
IsOwn who (Tell whom waiter turn found) own = Unit {0}
IsOwn who (GetUp caller found) own = caller ≡ who

-- the caller may make the step after these of its own: whoever waits has a bit among all who do
abbrev pub IsBy : {R : Type 0} → ℕ → Step R → List (Step R) → Type 0
IsBy who (Word step) own = Unit {0}
IsBy who (Post tag note value) own = Unit {0}
IsBy who (Take tag found value) own = Unit {0}
IsBy who (ReadNote tag found) own = Unit {0}
IsBy who (Bell step) own = (who < MAX_CALLERS) × IsOwn who step own

-- the berth is as a caller's own steps show it: up unless it waits by them, and then as what it waits, with a turn that it
-- took, while it is among all who wait
abbrev pub AgreesWith : {R : Type 0} → List (Step R) → Berth → Type 0
AgreesWith own Up = waits_as own ≡ none
AgreesWith own (Listed waiter turn) = (waits_as own ≡ some waiter) × IsIn own × HasTaken turn own
AgreesWith own (Told waiter turn) = (waits_as own ≡ some waiter) × IsIn own × HasTaken turn own

-- the bit of this caller, if a tell found it listed as it expected, else 0
abbrev pub newly_told : ℕ → Waiter → ℕ → Berth → ℕ
newly_told whom waiter turn Up = 0
newly_told whom waiter turn (Listed own_waiter own_turn) =
    cond (same_waiter own_waiter waiter) (cond (nat_eq own_turn turn) (bit_of whom) 0) 0
newly_told whom waiter turn (Told own_waiter own_turn) = 0
