-- The shells gathered so far are the last ones.
use Rattle.std.specs.Prelude.{◌++◌, ◌≡◌}
use Rattle.std.proofs.Common.{List, vec_len}
use Rattle.wake_book.specs.Book as book
use Rattle.wake_book.specs.Groups as groups
use Rattle.tag_queue.specs.Gathering.{shell_tellers, shell_waiters}
use Rattle.tag_queue.specs.declared.room.Shell.{Shell}
use Rattle.tag_queue.proofs.gather.gather_shells.Given as goal

abbrev pub invariant-loop-teller : goal.invariant-loop-teller
invariant-loop-teller g l = record {
  done : (done : List (Shell g.row.R.Denot)) × (l.shells.items ++ done ≡ l.fn.shells.items)
      × book.AreGathered l.book (shell_tellers done) l.tellers
      × groups.AreGathered l.groups (shell_waiters done) l.waiters;
}

abbrev pub decreases-loop-teller : goal.decreases-loop-teller
decreases-loop-teller g l = vec_len l.shells
