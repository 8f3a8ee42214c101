-- The gathering's seat has the records of all waiters, so the last words are those of the whole history.
use Rattle.wake_book.proofs.Uses.{Final, GroupsRule, Seen, slots_items, subst, sym, turned_back, ℕ}
use Rattle.wake_book.specs.Groups.{gathered}
use Rattle.wake_book.proofs.GroupsEnding.{enough, ended}
use Rattle.wake_book.proofs.groups.Groups.finish.Goals as goal

pub overflow_sub-result : goal.overflow_sub-result
overflow_sub-result c = let g = c.args.self in let a = c.args.gathering in let closed = c.close_with-closed.result in
    let sums = c.counts_of-granted.ensures in
    enough g.waiters g.small.1 a.seat.id a.seat.me.0 (slots_items closed.words) (slots_items closed.slots)
    (gathered a) a.moved c.counts_of-granted.result.0 c.counts_of-granted.result.1
    (subst (λ (z : ℕ). Final (Seen (GroupsRule z) a.seat.id a.seat.me.0) (slots_items closed.words)
    (slots_items closed.slots)) g.told c.close_with-closed.ensures.values.2)
    (sym (turned_back a.seat.me.0.records.value)) c.requires.all a.sum sums.granted sums.waiting

pub returns : goal.returns
returns c = let g = c.args.self in let a = c.args.gathering in let closed = c.close_with-closed.result in
    let sums = c.counts_of-granted.ensures in
    ended g.waiters g.small.1 a.seat.id a.seat.me.0 (slots_items closed.words) (slots_items closed.slots) (gathered a)
    a.moved c.counts_of-granted.result.0 c.counts_of-granted.result.1
    (subst (λ (z : ℕ). Final (Seen (GroupsRule z) a.seat.id a.seat.me.0) (slots_items closed.words)
    (slots_items closed.slots)) g.told c.close_with-closed.ensures.values.2)
    (sym (turned_back a.seat.me.0.records.value)) c.requires.all a.sum sums.granted sums.waiting
