-- The records of all tellers have the tellers' numbers.
use Rattle.wake_book.proofs.Uses.{number_of, numbers_all, refl, tellers_of}
use Rattle.wake_book.specs.Book.{record_of, gathered}
use Rattle.wake_book.proofs.book.Book.gather.Goals as goal

pub finish-requires-clause-all : goal.finish-requires-clause-all
finish-requires-clause-all c = numbers_all record_of number_of (λ _. refl) c.args.tellers.items
    (gathered c.gather_each-all.result) (tellers_of c.args.book) c.gather_each-all.ensures.1
    (c.in_default.ensures.succeeds.0 refl)
