-- The group is one of the eight, so the store may happen.
use Rattle.wake_book.proofs.Uses.{ap, arith, record_of, Store}
use Rattle.wake_book.proofs.GroupKeeps as keeps
use Rattle.wake_book.proofs.Waiters.{made_steps, few}
use Rattle.wake_book.proofs.groups.Groups.store_index.Goals as goal

pub store-requires : goal.store-requires
store-requires c = let g = c.args.self.now in let w = c.args.waiter.now in let wide = g.wide.0 in (
  c.requires.groups,
  omega arith,
  keeps.store g.table.shared.key (few g) g.table.shared.table_id.slots w.seat.id w.seat.me _
      (ap (λ z. z.0) w.knows) c.args.group c.requires.within,
)

pub returns-clause-step : goal.returns-clause-step
returns-clause-step c = let w = c.args.waiter.now in
    made_steps (record_of w) w.seat.me c.store.new.seat.me w.knows (Store c.args.group) c.store.ensures.2
