-- Whom a call tells, in which order, and how many.
use Rattle.std.specs.Prelude.{◌++◌, ◌∷◌, ◌≡◌, ◌≢◌, ◌≤◌, ◌⊎◌, min}
use Rattle.tag_bell.specs.Uses.{[], Bell, bit_at, Bool, Caller, count_ones, IsListed, List, Listener, LookAll, LookAt, record_of, same_waiter, Sleeper, Step, Tell, Waiter, ℕ}
use Rattle.tag_bell.specs.declared.told.Told.{Told}
use Rattle.tag_bell.specs.Calls.{OnlyAdds, told_in}
use Rattle.tag_bell.specs.Coming.{room_of}
use Rattle.tag_bell.specs.Order.{FoundAs, MayPass}
use Rattle.tag_bell.specs.Rounds.{IsRound}

-- the caller's last steps are a look at all who wait, and then looks at berths and tells
abbrev pub IsInRound : {R : Type 0} → List (Step R) → Type 0
IsInRound [] = ⊥
IsInRound (Bell (LookAll found) ∷ older) = Unit {0}
IsInRound (Bell (LookAt whom found) ∷ older) = IsInRound older
IsInRound (Bell (Tell whom waiter turn found) ∷ older) = IsInRound older
IsInRound (step ∷ older) = ⊥

-- its last look at all who wait did not find e, or since then it found that e is not listed as one of these waiters, or
-- tried once to tell e as it found it
abbrev pub IsDoneWith : {R : Type 0} → (Waiter → Bool) → List (Step R) → ℕ → Type 0
IsDoneWith kinds [] e = ⊥
IsDoneWith kinds (Bell (LookAll found) ∷ older) e = bit_at found e ≡ 0
IsDoneWith kinds (Bell (LookAt whom found) ∷ older) e = ((whom ≡ e) × ¬ IsListed kinds found) ⊎ IsDoneWith kinds older e
IsDoneWith kinds (Bell (Tell whom waiter turn found) ∷ older) e =
    ((whom ≡ e) × FoundAs older e waiter turn) ⊎ IsDoneWith kinds older e
IsDoneWith kinds (step ∷ older) e = IsDoneWith kinds older e

-- it is done with each caller outside the mask
abbrev pub IsDoneOutside : {R : Type 0} → Waiter → ℕ → Caller R → Type 0
IsDoneOutside kind mask caller = (e : ℕ) → bit_at mask e ≢ 1 → IsDoneWith (same_waiter kind) (record_of caller).steps e

-- each tell among these steps, which came after those, was in turn: it passed over nobody who waits as the same
abbrev pub AreInTurn : {R : Type 0} → List (Step R) → List (Step R) → Type 0
AreInTurn [] own = Unit {0}
AreInTurn (Bell (Tell whom waiter turn found) ∷ steps) own =
    ((e : ℕ) → MayPass (same_waiter waiter) (steps ++ own) turn e) × AreInTurn steps own
AreInTurn (step ∷ steps) own = AreInTurn steps own

-- of the waiters of this kind it told at most so many, and fewer only if it is done with each
pub record TellsMost {R : Type 0} (most : ℕ) (kind : Waiter) (told : ℕ) (caller : Caller R) : Type 0 where
  pub few : count_ones told ≤ most
  pub enough : (count_ones told ≡ most) ⊎ ((e : ℕ) → IsDoneWith (same_waiter kind) (record_of caller).steps e)

-- the same of the sleepers, but no more than make, with those that come, as many as the map has tags
abbrev pub TellsSleepers : {R : Type 0} → ℕ → ℕ → Caller R → Type 0
TellsSleepers most told caller = TellsMost (min most (room_of caller)) Sleeper told caller

-- by its first steps it told nobody, and then by looks at berths and tells so many of each kind, in turn
pub record TellsInTurn {R : Type 0} (most : ℕ) (told : Told) (old new : Caller R) : Type 0 where
  pub first : List (Step R)
  pub round : List (Step R)
  pub only : OnlyAdds (round ++ first) old new
  pub tells_none : (kind : Waiter) → told_in kind first ≡ 0
  pub are : IsRound round
  pub in_turn : AreInTurn (round ++ first) (record_of old).steps
  pub of_sleepers : TellsSleepers most told.sleepers new
  pub of_listeners : TellsMost most Listener told.listeners new
