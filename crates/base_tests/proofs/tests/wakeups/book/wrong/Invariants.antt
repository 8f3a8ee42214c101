-- Each count leaves the tellers with their book.
use Rattle.std.specs.Prelude.{All}
use Rattle.wake_book.specs.Book.{IsTellerOf}
use Rattle.base_tests.proofs.tests.wakeups.book.wrong.Given as goal

abbrev pub invariant-loop-index : goal.invariant-loop-index
invariant-loop-index l = All (IsTellerOf l.book) l.tellers.items
