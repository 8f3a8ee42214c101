-- The gathering's seat has the records of all tellers, so the last words are those of the whole history.
use Rattle.wake_book.proofs.Uses.{BookRule, Final, Limits, Seen, slots_items, subst, sym, turned_back}
use Rattle.wake_book.specs.Book.{gathered}
use Rattle.wake_book.proofs.Ending.{booked}
use Rattle.wake_book.proofs.book.Book.finish.Goals as goal

pub returns : goal.returns
returns c = let b = c.args.self in let a = c.args.gathering in let closed = c.close_with-closed.result in
    booked b.limits b.small.0 b.small.1 a.seat.id a.seat.me.0 (slots_items closed.words) (slots_items closed.slots)
    (gathered a) c.word-counted.result c.word-charged.result a.charges
    (subst (λ (z : Limits). Final (Seen (BookRule z) a.seat.id a.seat.me.0) (slots_items closed.words)
    (slots_items closed.slots)) b.told c.close_with-closed.ensures.values.2)
    (sym (turned_back a.seat.me.0.records.value)) c.requires.all a.sum c.word-counted.ensures c.word-charged.ensures
