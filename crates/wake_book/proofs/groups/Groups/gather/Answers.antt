-- The records of all waiters have the waiters' numbers.
use Rattle.wake_book.proofs.Uses.{numbers_all, record_of, refl, waiters_of}
use Rattle.wake_book.specs.Groups.{number_of, gathered}
use Rattle.wake_book.proofs.groups.Groups.gather.Goals as goal

pub finish-requires-clause-all : goal.finish-requires-clause-all
finish-requires-clause-all c = numbers_all record_of number_of (λ _. refl) c.args.waiters.items
    (gathered c.gather_each-all.result) (waiters_of c.args.groups) c.gather_each-all.ensures.1
    (c.in_default.ensures.succeeds.0 refl)
