-- A load may always happen, and finds the wakeups that the steps before it left.
use Rattle.std.specs.Prelude.{◌^◌, ◌≤◌}
use Rattle.wake_book.proofs.Uses.{ap, arith, Limits, LookWakeups, push, steps_of, subst, sym, ◌∙◌}
use Rattle.wake_book.proofs.BookKeeps as keeps
use Rattle.wake_book.proofs.book.Book.look_wakeups.Goals as goal

pub load-requires : goal.load-requires
load-requires c = let b = c.args.self.now in let t = c.args.teller.now in let w = b.wide.0 in (
  c.requires,
  omega arith,
  keeps.look_wakeups b.table.shared.key (subst (λ (z : Limits). z.tellers ≤ 64) (sym b.told) b.small.0)
      (subst (λ (z : Limits). z.cap ≤ 2 ^ 56) (sym b.told) b.small.1)
      b.table.shared.table_id.slots t.seat.id t.seat.me _ (ap (λ z. z.0) t.knows),
)

pub returns-clause-step : goal.returns-clause-step
returns-clause-step c = let t = c.args.teller.now in let did = c.load.ensures.2 in
    (ap (λ z. steps_of z.0) did.0 ∙ ap (λ z. steps_of (push (LookWakeups c.load.result) z.0)) t.knows, did.1)
