-- The teller has just found the interval's end counted, so the exchange may happen; it wins exactly if it found the
-- start.
use Rattle.std.specs.Prelude.{◌-◌, ◌^◌, ◌∷◌, ◌≤◌}
use Rattle.wake_book.proofs.Uses.{Advance, ap, arith, Limits, push, refl, steps_of, subst, sym, taken, total, ℕ, ◌∙◌}
use Rattle.wake_book.proofs.BookKeeps as keeps
use Rattle.wake_book.proofs.GroupSteps.{yes_of, no_of}
use Rattle.wake_book.proofs.book.Book.advance.Goals as goal

pub compare_exchange-found-requires : goal.compare_exchange-found-requires
compare_exchange-found-requires c = let b = c.args.self.now in let t = c.args.teller.now in let w = b.wide.0 in
    let seen = c.requires.seen in (
      c.requires.book,
      omega arith,
      keeps.advance b.table.shared.key (subst (λ (z : Limits). z.tellers ≤ 64) (sym b.told) b.small.0)
          (subst (λ (z : Limits). z.cap ≤ 2 ^ 56) (sym b.told) b.small.1)
          b.table.shared.table_id.slots t.seat.id t.seat.me _ (ap (λ z. z.0) t.knows) c.args.start c.args.end seen.0
          seen.1 seen.2 c.requires.batch.0 c.requires.batch.1 seen.3,
    )

pub returns-then-found-start-clause-lost : goal.returns-then-found-start-clause-lost
returns-then-found-start-clause-lost c _ = let t = c.args.teller.now in
    let did = c.compare_exchange-found.ensures.2 in (
      refl,
      (
        c.compare_exchange-found.result,
        c.if-found-start.true,
        ap (λ z. steps_of z.0) did ∙ ap
            (λ z. steps_of (push (Advance c.args.start c.args.end c.compare_exchange-found.result) z.0)) t.knows,
      ),
    )

pub returns-clause-won : goal.returns-clause-won
returns-clause-won c _ = let t = c.args.teller.now in let did = c.compare_exchange-found.ensures.2 in
    ap (λ z. steps_of z.0) did
    ∙ ap (λ z. steps_of (push (Advance c.args.start c.args.end c.compare_exchange-found.result) z.0)) t.knows
    ∙ ap (λ (z : ℕ). Advance c.args.start c.args.end z ∷ steps_of t.seat.me.0) c.if-found-start.false

pub returns-then-found-start-clause-kept : goal.returns-then-found-start-clause-kept
returns-then-found-start-clause-kept c _ = let t = c.args.teller.now in let did = c.compare_exchange-found.ensures.2 in
    let steps = ap (λ z. steps_of z.0) did
    ∙ ap (λ z. steps_of (push (Advance c.args.start c.args.end c.compare_exchange-found.result) z.0)) t.knows in
    let a = ap (total taken) steps in
    let none = no_of c.compare_exchange-found.result c.args.start (c.args.end - c.args.start) 0 c.if-found-start.true
    in omega arith

pub returns-clause-taken : goal.returns-clause-taken
returns-clause-taken c _ = let t = c.args.teller.now in let did = c.compare_exchange-found.ensures.2 in
    let steps = ap (λ z. steps_of z.0) did
    ∙ ap (λ z. steps_of (push (Advance c.args.start c.args.end c.compare_exchange-found.result) z.0)) t.knows in
    let a = ap (total taken) steps in
    let all = yes_of c.compare_exchange-found.result c.args.start (c.args.end - c.args.start) 0 c.if-found-start.false
    in omega arith
