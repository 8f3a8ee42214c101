-- The group of a waiter as a number, and how it agrees with the waiter's steps.
use Rattle.std.specs.Prelude.{◌≡◌, ℕ, suc, ◌≤◌, min, List, Option, Some, None}
use Rattle.wake_book.specs.declared.steps.GroupStep.{GroupStep}
use Rattle.wake_book.specs.Waits.{raised, stand}

-- one more than the group, or 0 if there is none
abbrev pub stand_code : Option ℕ → ℕ
stand_code None = 0
stand_code (Some group) = suc group

-- the waiter is in the group that its steps say, one of the eight if any, and active exactly while it is in a group
abbrev pub StandsSo : Option ℕ → List GroupStep → Type 0
StandsSo standing steps = (stand_code standing ≡ stand steps) × (raised steps ≡ min 1 (stand_code standing))
    × (stand_code standing ≤ 8)
