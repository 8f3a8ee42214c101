-- A load may always happen, and a waiter that has raised the count is counted in it.
use Rattle.wake_book.proofs.Uses.{active_at, ap, arith, Look, record_of}
use Rattle.wake_book.proofs.GroupKeeps as keeps
use Rattle.wake_book.proofs.Waiters.{made_steps, few}
use Rattle.wake_book.proofs.groups.Groups.active.Goals as goal

pub load-requires : goal.load-requires
load-requires c = let g = c.args.self.now in let w = c.args.waiter.now in let wide = g.wide.0 in (
  c.requires.groups,
  omega arith,
  keeps.active g.table.shared.key (few g) g.table.shared.table_id.slots w.seat.id w.seat.me _
      (ap (λ z. z.0) w.knows),
)

pub returns-clause-step : goal.returns-clause-step
returns-clause-step c = let w = c.args.waiter.now in
    made_steps (record_of w) w.seat.me c.load.new.seat.me w.knows (Look active_at c.load.result) c.load.ensures.2.0
