-- Who is listed as a call found them, with their turns, and a part of a round.
use Rattle.std.specs.Prelude.{◌<◌, ◌≡◌, ◌≢◌, ◌≤◌, slice_index}
use Rattle.tag_bell.specs.Uses.{Berth, bit_at, Caller, cond, IsListed, IsListedAs, length, List, Listed, Listener, record_of, same_waiter, Sleeper, Step, Waiter, ℕ}
use Rattle.tag_core.specs.declared.berth.TheConstants.{TURNS}
use Rattle.tag_core.specs.Waits.{bit_of}
use Rattle.tag_bell.specs.Calls.{OnlyAdds, told_in}
use Rattle.tag_bell.specs.Order.{FoundAs}
use Rattle.tag_bell.specs.Rounds.{IsRound}
use Rattle.tag_bell.specs.Telling.{AreInTurn, IsDoneWith}

-- since its last look at all who wait the caller found those of the mask listed as this waiter, each with its turn; of
-- those of which this holds it is done with the others
pub record IsLine {R : Type 0} (waiter : Waiter) (here : ℕ → Type 0) (mask : ℕ) (turns : List ℕ) (own : List (Step R))
    : Type 0 where
  pub found : (e : ℕ) → bit_at mask e ≡ 1 → FoundAs own e waiter (slice_index turns e)
  pub fits : (e : ℕ) → bit_at mask e ≡ 1 → slice_index turns e < TURNS
  pub others : (e : ℕ) → bit_at mask e ≢ 1 → here e → IsDoneWith (same_waiter waiter) own e

-- those of the first mask as sleepers, and those of the second as listeners
pub record AreLines {R : Type 0} (here : ℕ → Type 0) (sleepers listeners : ℕ) (turns : List ℕ) (own : List (Step R))
    : Type 0 where
  pub of_sleepers : IsLine Sleeper here sleepers turns own
  pub of_listeners : IsLine Listener here listeners turns own

-- what was found at the berth of this number is noted: its bit is 1 if it is listed as this waiter, and then its turn
-- stands there; all others are as they were
pub record IsNoted (waiter : Waiter) (number : ℕ) (berth : Berth) (old : ℕ) (was : List ℕ) (new : ℕ) (turns : List ℕ)
    : Type 0 where
  pub rest : (e : ℕ) → e ≢ number → (bit_at new e ≡ bit_at old e) × (slice_index turns e ≡ slice_index was e)
  pub listed : bit_at new number ≡ 1 → IsListedAs waiter (slice_index turns number) berth
  pub other : bit_at new number ≢ 1 → ¬ IsListed (same_waiter waiter) berth

-- the bit of this caller if its berth shows it listed as this waiter, else 0
abbrev pub listed_bit : Waiter → ℕ → Berth → ℕ
listed_bit kind whom (Listed waiter turn) = cond (same_waiter kind waiter) (bit_of whom) 0
listed_bit kind whom found = 0

-- these callers, for one kind of waiter, and nobody
abbrev pub those_of : Waiter → ℕ → Waiter → ℕ
those_of waiter callers kind = cond (same_waiter kind waiter) callers 0

abbrev pub nobody_of : Waiter → ℕ
nobody_of kind = 0

-- it made at most so many steps, looks at berths and tells in turn, by which it told these of each kind
pub record GoesOn {R : Type 0} (most : ℕ) (told : Waiter → ℕ) (old new : Caller R) : Type 0 where
  pub steps : List (Step R)
  pub only : OnlyAdds steps old new
  pub are : IsRound steps
  pub few : length steps ≤ most
  pub in_turn : AreInTurn steps (record_of old).steps
  pub told_is : (kind : Waiter) → told_in kind steps ≡ told kind
