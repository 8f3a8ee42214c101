-- How a caller begins to wait, and how it ends its wait.
use Rattle.std.specs.Prelude.{◌++◌, ◌↔◌, ◌∷◌, ◌≡◌, None, Option, Some, true}
use Rattle.tag_bell.specs.Uses.{[], Bell, Berth, Bool, Caller, Enlist, Enter, GetUp, IsTold, IsTrue, Leave, List, Listed, LookAt, record_of, Step, TakeTurn, Told, Up, Waiter, ℕ}
use Rattle.tag_bell.specs.declared.waiting.Turn.{Turn}
use Rattle.tag_bell.specs.declared.waiting.Turn.TheVariants.{Next, Same}
use Rattle.tag_core.specs.Waits.{AgreesWith}
use Rattle.tag_bell.specs.Calls.{OnlyAdds}

-- the turn of a berth that is not up
abbrev pub turn_in : Berth → Option ℕ
turn_in Up = None
turn_in (Listed waiter turn) = Some turn
turn_in (Told waiter turn) = Some turn

-- to keep its turn the caller looked at its own berth, and found that turn or none there
abbrev pub FindsTurn : {R : Type 0} → Turn → Option ℕ → Caller R → Caller R → Type 0
FindsTurn Next kept old new = (kept ≡ None) × (new ≡ old)
FindsTurn Same kept old new = (seen : Berth) × OnlyAdds (Bell (LookAt (record_of old).number seen) ∷ []) old new
    × (kept ≡ turn_in seen) × AgreesWith (record_of old).steps seen

-- it looked so, if it was to keep its turn
abbrev pub LooksFirst : {R : Type 0} → Turn → ℕ → Option ℕ → List (Step R) → Type 0
LooksFirst Next who kept steps = (kept ≡ None) × (steps ≡ [])
LooksFirst Same who kept steps = (seen : Berth) × (steps ≡ Bell (LookAt who seen) ∷ []) × (kept ≡ turn_in seen)

-- by these steps it listed itself with the turn that it kept; with none it took the next one, and joined all who wait
abbrev pub IsListing : {R : Type 0} → ℕ → Waiter → Option ℕ → List (Step R) → Type 0
IsListing who waiter (Some turn) steps = (found : Berth) × (steps ≡ Bell (Enlist who waiter turn found) ∷ [])
IsListing who waiter None steps = (turn all : ℕ) × (found : Berth)
    × (steps ≡ Bell (Enlist who waiter turn found) ∷ Bell (Enter who all) ∷ Bell (TakeTurn turn) ∷ [])

-- it listed itself so, after such a look
pub record ListsSelf {R : Type 0} (waiter : Waiter) (turn : Turn) (old new : Caller R) : Type 0 where
  pub kept : Option ℕ
  pub look : List (Step R)
  pub listing : List (Step R)
  pub looks : LooksFirst turn (record_of old).number kept look
  pub lists : IsListing (record_of old).number waiter kept listing
  pub only : OnlyAdds (listing ++ look) old new

-- it got up, which shows whether somebody had told it, and left all who wait
pub record Leaves {R : Type 0} (was_told : Bool) (old new : Caller R) : Type 0 where
  pub found : Berth
  pub all : ℕ
  pub only : let who = (record_of old).number in OnlyAdds (Bell (Leave who all) ∷ Bell (GetUp who found) ∷ []) old new
  pub told : IsTrue was_told ↔ IsTold (λ waiter. true) found
