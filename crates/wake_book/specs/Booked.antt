-- What the book's totals say about all its tellers, once they are gathered.
use Rattle.std.specs.Prelude.{◌-◌, ◌≡◌, ◌≤◌}
use Rattle.wake_book.specs.Uses.{AreListsOf, Lawful, List, min, Record, sum_over, total, ℕ}
use Rattle.wake_book.specs.declared.book.Limits.{Limits}
use Rattle.wake_book.specs.declared.book.BookTotals.{BookTotals}
use Rattle.wake_book.specs.declared.steps.BookStep.{BookStep}
use Rattle.wake_book.specs.Charges.{MayStep, added, charged, covers, taken}

-- the tellers' lists are the parts of one lawful history; their intervals cover each number below charged exactly once,
-- and no other number; at most what was counted is charged
pub record IsBooked (k : Limits) (tellers : List (Record BookStep)) (totals : BookTotals) : Type 0 where
  pub history : List (ℕ × BookStep)
  pub lawful : Lawful k.tellers (MayStep k) history
  pub lists : AreListsOf history tellers
  pub counted : totals.counted ≡ sum_over (total added) tellers
  pub tiled : (y : ℕ) → sum_over (total (covers y)) tellers ≡ min 1 (totals.charged - y)
  pub taken : totals.charged ≡ sum_over (total taken) tellers
  pub charges : totals.charges ≡ sum_over (total charged) tellers
  pub within : totals.charged ≤ totals.counted
