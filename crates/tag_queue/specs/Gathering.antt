-- How hands are gathered, and what a queue's totals say about all of them.
use Rattle.std.specs.Prelude.{◌≡◌, ◌≢◌, ◌<◌, ◌≤◌}
use Rattle.tag_queue.specs.Uses.{AllPairs, length, List, map, slice_index, Teller, Waiter, ℕ}
use Rattle.tag_pool.specs.Gathering as pool
use Rattle.wake_book.specs.Balance.{IsBalanced}
use Rattle.wake_book.specs.Book as book
use Rattle.wake_book.specs.Booked.{IsBooked}
use Rattle.wake_book.specs.Groups as groups
use Rattle.tag_queue.specs.declared.gather.QueueTotals.{QueueTotals}
use Rattle.tag_queue.specs.declared.hand.QueueHand.{QueueHand}
use Rattle.tag_queue.specs.declared.queue.Queue.{Queue}
use Rattle.tag_queue.specs.declared.room.Shell.{Shell}
use Rattle.tag_queue.specs.Hands.{all_in_pool, pool_of, tellers_of, waiters_of}

-- no number is in the list twice
abbrev pub AreDistinct : List ℕ → Type 0
AreDistinct numbers = AllPairs (λ a b. a ≢ b) numbers

-- the list has the same number at both indexes
abbrev pub HaveSameNumber : List ℕ → ℕ → ℕ → Type 0
HaveSameNumber numbers first second = (first < second) × (second < length numbers)
    × (slice_index numbers first ≡ slice_index numbers second)

-- the tellers and the waiters of several shells
abbrev pub shell_tellers : {R : Type 0} → List (Shell R) → List Teller
shell_tellers {R} shells = map (λ (shell : Shell R). shell.teller) shells

abbrev pub shell_waiters : {R : Type 0} → List (Shell R) → List Waiter
shell_waiters {R} shells = map (λ (shell : Shell R). shell.waiter) shells

-- the totals are those of the pool, of the book and of the groups; at most as many wakeups were issued as completions
-- charged, at most what was counted was charged, and at most what was given back of the ordinary set was counted
pub record IsGathered {R : Type 0} (queue : Queue R) (hands : List (QueueHand R)) (totals : QueueTotals) : Type 0 where
  pub tags : pool.IsGathered (pool_of queue) (all_in_pool hands) totals.tags
  pub book : IsBooked (book.limits_of queue.book) (book.records_of (tellers_of hands)) totals.book
  pub groups : IsBalanced (groups.waiters_of queue.groups) (groups.records_of (waiters_of hands)) totals.groups
  pub issued : totals.groups.issued ≤ totals.book.charged
  pub charged : totals.book.charged ≤ totals.book.counted
  pub counted : totals.book.counted ≤ tags.ordinary.totals.back
