-- How a caller sleeps, and whom a call told and woke.
use Rattle.std.specs.Prelude.{◌∷◌, true}
use Rattle.std.specs.List.{All}
use Rattle.tag_bell.specs.Uses.{[], Bell, Berth, Caller, IsListed, IsTold, List, LookAt, record_of, Step, ℕ}
use Rattle.tag_bell.specs.declared.sleeping.Woken.{Woken}
use Rattle.tag_bell.specs.declared.told.Told.{Told}
use Rattle.tag_bell.specs.Calls.{OnlyAdds}

-- looks at this caller's berth, each of which found it so
abbrev pub looks_at : {R : Type 0} → ℕ → List Berth → List (Step R)
looks_at who [] = []
looks_at who (found ∷ older) = Bell (LookAt who found) ∷ looks_at who older

-- it only looked at its own berth: it found itself listed by each look but the last, newest first, and told by the last
pub record SleepsUntilTold {R : Type 0} (old new : Caller R) : Type 0 where
  pub seen : List Berth
  pub found : Berth
  pub looks : OnlyAdds (looks_at (record_of old).number (found ∷ seen)) old new
  pub listed : All (IsListed (λ waiter. true)) seen
  pub told : IsTold (λ waiter. true) found

-- those that the call told: it woke the sleepers among them
abbrev pub told_by : Woken → Told
told_by woken = record { sleepers = woken.roused.callers; listeners = woken.listeners }
