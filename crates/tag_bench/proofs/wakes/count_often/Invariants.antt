-- The teller stays one of the book.
use Rattle.wake_book.specs.Book.{IsTellerOf}
use Rattle.tag_bench.proofs.wakes.count_often.Given as goal

abbrev pub invariant-loop : goal.invariant-loop
invariant-loop l = IsTellerOf l.book l.teller
