-- How a caller sees to all that it has to see to: a look at all who wait, and then looks at berths and tells.
use Rattle.std.specs.Prelude.{◌++◌, ◌∷◌, ◌≡◌, ◌≢◌, ◌⊎◌}
use Rattle.tag_bell.specs.Uses.{[], Bell, bit_at, Bool, IsListed, IsTold, List, LookAll, LookAt, Step, Tell, told_as, Waiter, ℕ}
use Rattle.tag_bell.specs.declared.spot.Spot.{Spot}
use Rattle.tag_bell.specs.Order.{FoundAs}
use Rattle.tag_bell.specs.Waiting.{Owes}

-- looks at berths, and tells
abbrev pub IsRound : {R : Type 0} → List (Step R) → Type 0
IsRound [] = Unit {0}
IsRound (Bell (LookAt whom found) ∷ older) = IsRound older
IsRound (Bell (Tell whom waiter turn found) ∷ older) = IsRound older
IsRound (step ∷ older) = ⊥

-- by one of them the caller told somebody, or found somebody told
abbrev pub MeetsTold : {R : Type 0} → (Waiter → Bool) → List (Step R) → Type 0
MeetsTold kinds [] = ⊥
MeetsTold kinds (Bell (LookAt whom found) ∷ older) = IsTold kinds found ⊎ MeetsTold kinds older
MeetsTold kinds (Bell (Tell whom waiter turn found) ∷ older) =
    IsTold kinds (told_as waiter turn found) ⊎ MeetsTold kinds older
MeetsTold kinds (step ∷ older) = ⊥

-- by them it found that e is not listed, or tried once to tell e as it found it
abbrev pub HasTried : {R : Type 0} → (Waiter → Bool) → List (Step R) → ℕ → Type 0
HasTried kinds [] e = ⊥
HasTried kinds (Bell (LookAt whom found) ∷ older) e = ((whom ≡ e) × ¬ IsListed kinds found) ⊎ HasTried kinds older e
HasTried kinds (Bell (Tell whom waiter turn found) ∷ older) e =
    ((whom ≡ e) × FoundAs older e waiter turn) ⊎ HasTried kinds older e
HasTried kinds (step ∷ older) e = ⊥

-- a look at all who wait, and then a round by which it met one that was told, or has tried each that it found there: it
-- has nothing to see to then, even if each try failed
abbrev pub OneRoundIsEnough : Type 0 → Type 0
OneRoundIsEnough R = (kinds : Waiter → Bool) (own round : List (Step R)) (found : ℕ) → IsRound round
    → MeetsTold kinds round ⊎ ((e : ℕ) → bit_at found e ≢ 0 → HasTried kinds round e)
    → (spot : Spot) (e : ℕ) → ¬ Owes kinds (round ++ (Bell (LookAll found) ∷ own)) spot e
