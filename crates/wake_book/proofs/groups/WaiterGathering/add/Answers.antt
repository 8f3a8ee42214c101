-- The waiter's record joins those on the seat, and its moves are added to the sum.
use Rattle.wake_book.proofs.Uses.{ap, arith, joined, joins, MayStep, moved_by, record_of, sum_joined, total, words_after, ◌∙◌}
use Rattle.wake_book.specs.Waits.{opening_words}
use Rattle.wake_book.proofs.groups.WaiterGathering.add.Goals as goal

pub join_seat-requires : goal.join_seat-requires
join_seat-requires c = let b = c.args.groups.now in let key = b.table.shared.key in let v = c.args.self.now.seat in
    let o = c.args.waiter.seat in let w = b.wide.0 in (
      c.requires.groups,
      c.requires.own,
      ap (λ z. z.1) c.args.waiter.knows,
      omega arith,
      joins key opening_words
          words_after MayStep v.id v.me.0 o.id o.me.0,
    )

pub invariant_of-self : goal.invariant_of-self
invariant_of-self c = let now = c.join_seat.ensures.2 in let a = c.args.self.now in let t = c.args.waiter in
    let moves = t.moves.0 in let sum = a.sum in
    let whole = sum_joined (total moved_by) a.seat.me.0 t.seat.me.0 c.join_seat.new.seat.me.0 (record_of t)
    (ap (λ z. z.0) now) (ap (λ z. z.0) t.knows) in record {
      empty = ap (λ z. z.1) now ∙ a.empty;
      sum = omega arith;
    }

pub returns-clause-gathered : goal.returns-clause-gathered
returns-clause-gathered c = let a = c.args.self.now in let t = c.args.waiter in
    joined a.seat.me.0 t.seat.me.0 c.join_seat.new.seat.me.0 (record_of t) (ap (λ z. z.0) c.join_seat.ensures.2)
    (ap (λ z. z.0) t.knows)
