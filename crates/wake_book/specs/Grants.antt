-- How many wakeups the steps of a waiter granted, and in which groups.
use Rattle.std.specs.Prelude.{◌+◌, ◌<◌, ◌≡◌}
use Rattle.wake_book.specs.Uses.{cond, List, nat_eq, slice_index, sum, total, ℕ}
use Rattle.wake_book.specs.declared.grants.Grants.{Grants}
use Rattle.wake_book.specs.declared.steps.GroupStep.{GroupStep}
use Rattle.wake_book.specs.declared.steps.GroupStep.TheVariants.{Grant}
use Rattle.wake_book.specs.Waits.{moved_by}

-- how many waiters of the group the step moved from waiting to granted
abbrev pub granted_in : ℕ → GroupStep → ℕ
granted_in group (Grant g expected count found) = cond (nat_eq g group) (moved_by (Grant g expected count found)) 0
granted_in group _ = 0

-- the grants are those of the steps made since: so many in each of the eight groups, and their sum in all
pub record AreGrantsOf (grants : Grants) (old new : List GroupStep) : Type 0 where
  pub each : (group : ℕ) → group < 8
      → total (granted_in group) new ≡ total (granted_in group) old + slice_index grants.in_group group
  pub all : total moved_by new ≡ total moved_by old + grants.woken
  pub sum_is : grants.woken ≡ sum grants.in_group

-- the steps made since granted this many waiters a wakeup, the sum of their grants in each group
pub record WokenBy (woken : ℕ) (old new : List GroupStep) : Type 0 where
  pub grants : Grants
  pub are : AreGrantsOf grants old new
  pub all : woken ≡ grants.woken
