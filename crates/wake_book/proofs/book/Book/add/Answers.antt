-- The teller's own count stays within the cap, so the step may happen.
use Rattle.std.specs.Prelude.{◌+◌, ◌^◌, ◌≤◌}
use Rattle.wake_book.proofs.Uses.{Add, added, ap, arith, Limits, push, steps_of, subst, sym, total, ◌∙◌}
use Rattle.wake_book.proofs.BookKeeps as keeps
use Rattle.wake_book.proofs.book.Book.add.Goals as goal

pub fetch_add-requires : goal.fetch_add-requires
fetch_add-requires c = let b = c.args.self.now in let t = c.args.teller.now in let w = b.wide.0 in
    let room = c.requires.room in let count = t.counts.0 in
    let fits : total added (steps_of t.seat.me.0) + c.args.n ≤ b.limits.cap = omega arith in (
      c.requires.book,
      omega arith,
      keeps.add b.table.shared.key (subst (λ (z : Limits). z.tellers ≤ 64) (sym b.told) b.small.0)
          (subst (λ (z : Limits). z.cap ≤ 2 ^ 56) (sym b.told) b.small.1)
          b.table.shared.table_id.slots t.seat.id t.seat.me _ (ap (λ z. z.0) t.knows) c.args.n
          (subst (λ (z : Limits). total added (steps_of t.seat.me.0) + c.args.n ≤ z.cap) (sym b.told) fits),
    )

pub returns-clause-step : goal.returns-clause-step
returns-clause-step c = let t = c.args.teller.now in let did = c.fetch_add.ensures.2 in (
  c.fetch_add.result,
  ap (λ z. steps_of z.0) did ∙ ap (λ z. steps_of (push (Add c.args.n c.fetch_add.result) z.0))
      t.knows,
)
