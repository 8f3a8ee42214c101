-- What commands do to completions and wakeups, as the steps of their callers say.
use Rattle.tag_board.specs.Uses.{Left, None, Some, Wakes, ℕ}
use Rattle.std.specs.Prelude.{◌≡◌, ◌+◌, ◌%◌, ◌<◌, ◌≤◌, ◌⊎◌, ◌∷◌}
use Rattle.step_ledger.specs.History.{total}
use Rattle.wake_book.specs.declared.steps.BookStep.TheVariants.{LookCompletions, LookWakeups}
use Rattle.wake_book.specs.declared.steps.GroupStep.TheVariants.{Look, Enter, Raise}
use Rattle.wake_book.specs.Charges.{added}
use Rattle.wake_book.specs.Waits.{active_at, index_at, moved_by}
use Rattle.wake_book.specs.Walks.{IsLeave}
use Rattle.tag_board.specs.States.{Terms, Waiter}

-- a caller that is in no group, and enters group 0 first
pub record Starts (waiter : Waiter) : Type 0 where
  pub outside : waiter.group ≡ None
  pub first : waiter.next ≡ 0

-- n completions are not counted: nobody was found waiting, or the caller would count more than the cap
abbrev pub CountsNone : ℕ → ℕ → Waiter → Waiter → Type 0
CountsNone cap n old new = (new.book ≡ old.book)
    × ((new.groups ≡ Look active_at 0 ∷ old.groups) ⊎ (cap < total added old.book + n))

-- a clear of n ordinary tags: the number told is that of the waiters to which the caller granted a wakeup, and n
-- completions are counted, or none for a cause
pub record GrantsFor (cap n woken : ℕ) (old new : Waiter) : Type 0 where
  pub granted : total moved_by new.groups ≡ total moved_by old.groups + woken
  pub counted : (total added new.book ≡ total added old.book + n) ⊎ CountsNone cap n old new
  pub stays : (new.group ≡ old.group) × (new.next ≡ old.next)

-- a clear of one tag: a reserved one is not counted, and wakes nobody
abbrev pub GrantsForTag : Terms → ℕ → ℕ → Waiter → Waiter → Type 0
GrantsForTag terms tag woken old new =
    (tag < terms.reserved → (woken ≡ 0) × (new ≡ old))
    × (terms.reserved ≤ tag → GrantsFor terms.cap 1 woken old new)

-- a wait: the group told is the one that was next, the caller is in it, and the next one follows it in the circle of 8
pub record Enters (group : ℕ) (old new : Waiter) : Type 0 where
  pub within : group < 8
  pub group_is : group ≡ old.next
  pub inside : new.group ≡ Some group
  pub next : new.next ≡ (old.next + 1) % 8
  pub steps : (active found : ℕ) × (new.groups ≡ Enter group found ∷ Raise active ∷ old.groups)
  pub book : new.book ≡ old.book

-- the end of a wait: it is told as woken exactly if the caller used a grant of its group
pub record Leaves (left : Left) (old new : Waiter) : Type 0 where
  pub steps : (group : ℕ) × (old.group ≡ Some group) × IsLeave group old.groups new.groups left
  pub outside : new.group ≡ None
  pub next : new.next ≡ old.next
  pub book : new.book ≡ old.book

-- the counts told are what the caller's loads found
pub record Finds (wakes : Wakes) (old new : Waiter) : Type 0 where
  pub counts : new.book ≡ LookCompletions wakes.counted ∷ LookWakeups wakes.charged ∷ old.book
  pub looks : new.groups ≡ Look active_at wakes.active ∷ Look index_at wakes.index ∷ old.groups
  pub within : wakes.index < 8
  pub stays : (new.group ≡ old.group) × (new.next ≡ old.next)
