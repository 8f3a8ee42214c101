-- The first of the records left goes to the new waiter, and the others stay on the seat.
use Rattle.wake_book.proofs.Uses.{ap, arith, MayStep, refl, splits_next, waiters_of, words_after, ◌∙◌}
use Rattle.wake_book.specs.Waits.{opening_words}
use Rattle.wake_book.proofs.Rest.{next_member, still_rest}
use Rattle.wake_book.proofs.groups_opening.GroupsMemberSource.next_member.Goals as goal

pub split_seat-seat-requires : goal.split_seat-seat-requires
split_seat-seat-requires c = let b = c.args.self.now in let key = b.table.shared.key in let rest = c.args.rest.now in
    let wide = b.wide.0 in (
      c.requires.rest.0,
      omega arith,
      splits_next key opening_words words_after MayStep rest.id rest.me.0 c.args.number (waiters_of b)
          c.requires.comes (ap (λ x. x.0) c.requires.rest.1),
    )

pub returns-clause-member : goal.returns-clause-member
returns-clause-member c = let now = c.split_seat-seat.ensures in (
  now.3 ∙ c.requires.rest.0,
  (refl, refl, c.of.ensures),
  next_member c.requires.comes c.requires.rest.1 now.4,
)

pub returns-clause-rest : goal.returns-clause-rest
returns-clause-rest c = let now = c.split_seat-seat.ensures in
    (now.0 ∙ c.requires.rest.0, still_rest c.requires.comes c.requires.rest.1 now.2)
