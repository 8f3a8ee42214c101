-- The parts of a hand: a hand of the pool, a teller and a waiter of one number.
use Rattle.std.specs.Prelude.{◌≡◌, ◌≤◌}
use Rattle.tag_queue.specs.Uses.{[], get_elem?, Hand, length, List, Ordinary, some, Teller, Waiter, ℕ}
use Rattle.tag_pool.specs.Hands.{back_of, number_of}
use Rattle.wake_book.specs.Book as book
use Rattle.wake_book.specs.Groups as groups
use Rattle.tag_queue.specs.declared.hand.QueueHand.{QueueHand}
use Rattle.tag_queue.specs.declared.room.Shell.{Shell}
use Rattle.tag_queue.specs.Bell.{WaitsNowhere}
use Rattle.tag_queue.specs.Hands.{all_in_pool, tellers_of, waiters_of}

-- the three can be the parts of one hand
pub record Fits {R : Type 0} (inner : Hand R) (teller : Teller) (waiter : Waiter) : Type 0 where
  pub teller_is : book.number_of teller ≡ number_of inner
  pub waiter_is : groups.number_of waiter ≡ number_of inner
  pub counts : book.counted_by teller ≤ back_of inner Ordinary
  pub wakes : groups.moved_of waiter ≤ book.charged_by teller
  pub up : WaitsNowhere inner

-- the waiter has made no step
abbrev pub HasNoSteps : Waiter → Type 0
HasNoSteps waiter = groups.steps_of waiter ≡ []

-- at each index of the lists, the three can be the parts of one hand, whose waiter is new
abbrev pub FitTogether : {R : Type 0} → List (Hand R) → List Teller → List Waiter → Type 0
FitTogether {R} inners tellers waiters = (n : ℕ) (inner : Hand R) (teller : Teller) (waiter : Waiter)
    → get_elem? inners n ≡ some inner → get_elem? tellers n ≡ some teller → get_elem? waiters n ≡ some waiter
    → Fits inner teller waiter × HasNoSteps waiter

-- these are the parts of the hands, in the same order
pub record AreParts {R : Type 0} (hands : List (QueueHand R)) (inners : List (Hand R)) (tellers : List Teller)
    (waiters : List Waiter) : Type 0 where
  pub inners_are : all_in_pool hands ≡ inners
  pub tellers_are : tellers_of hands ≡ tellers
  pub waiters_are : waiters_of hands ≡ waiters

-- the hand without its hand of the pool
abbrev pub shell_of : {R : Type 0} → QueueHand R → Shell R
shell_of hand = record {
  teller = hand.teller;
  waiter = hand.waiter;
  sighting = hand.sighting;
  announcement = hand.announcement;
}

-- there are as many hands of the pool as shells, and each fits the shell at its index
pub record FitShells {R : Type 0} (inners : List (Hand R)) (shells : List (Shell R)) : Type 0 where
  pub long : length inners ≡ length shells
  pub each : (n : ℕ) (inner : Hand R) (shell : Shell R) → get_elem? inners n ≡ some inner
      → get_elem? shells n ≡ some shell → Fits inner shell.teller shell.waiter
