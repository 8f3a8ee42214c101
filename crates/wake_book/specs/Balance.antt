-- What the groups' totals say about all their waiters, once they are gathered.
use Rattle.std.specs.Prelude.{◌+◌, ◌<◌, ◌≡◌, ◌≤◌}
use Rattle.wake_book.specs.Uses.{AreListsOf, Lawful, List, Record, slice_index, sum_below, sum_over, total, ℕ}
use mathlib.Core.Option.{some}
use lib.ListN.{get_elem?}
use Rattle.wake_book.specs.declared.groups.GroupTotals.{GroupTotals}
use Rattle.wake_book.specs.declared.steps.GroupStep.{GroupStep}
use Rattle.wake_book.specs.Waits.{active_at, words_in, word, granted, waiting, raised, stand, stands_in, moved_by, used_by, MayStep}

-- the waiters' lists are the parts of one lawful history, whose last words count the waiting, the grants and the
-- active; a waiter that is in a group has raised the active count
pub record IsBalanced (n : ℕ) (waiters : List (Record GroupStep)) (totals : GroupTotals) : Type 0 where
  pub history : List (ℕ × GroupStep)
  pub lawful : Lawful n MayStep history
  pub lists : AreListsOf history waiters
  pub standing : (g : ℕ) → g < 8 → waiting (word (words_in history) g) + granted (word (words_in history) g)
      ≡ sum_over (stands_in g) waiters
  pub active : slice_index (words_in history) active_at ≡ sum_over raised waiters
  pub active_all : (i : ℕ) (r : Record GroupStep) → get_elem? waiters i ≡ some r
      → 1 ≤ stand r.steps → raised r.steps ≡ 1
  pub issued : totals.issued ≡ sum_over (total moved_by) waiters
  pub used : totals.used ≡ sum_over (total used_by) waiters
  pub granted_all : totals.granted ≡ sum_below (λ g. granted (word (words_in history) g)) 8
  pub waiting_all : totals.waiting ≡ sum_below (λ g. waiting (word (words_in history) g)) 8
  pub balance : totals.issued ≡ totals.used + totals.granted
