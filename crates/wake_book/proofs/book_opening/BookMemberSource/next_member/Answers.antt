-- The first of the records left goes to the new teller, and the others stay on the seat.
use Rattle.wake_book.proofs.Uses.{ap, arith, opening_words, splits_next, tellers_of, ◌∙◌}
use Rattle.wake_book.specs.Charges.{words_after, MayStep}
use Rattle.wake_book.proofs.Rest.{next_member, still_rest}
use Rattle.wake_book.proofs.book_opening.BookMemberSource.next_member.Goals as goal

pub split_seat-seat-requires : goal.split_seat-seat-requires
split_seat-seat-requires c = let b = c.args.self.now in let key = b.table.shared.key in let rest = c.args.rest.now in
    let wide = b.wide.0 in (
      c.requires.rest.0,
      omega arith,
      splits_next key.tellers opening_words words_after (MayStep key) rest.id rest.me.0 c.args.number (tellers_of b)
          c.requires.comes (ap (λ x. x.0) c.requires.rest.1),
    )

pub returns-clause-member : goal.returns-clause-member
returns-clause-member c = let now = c.split_seat-seat.ensures in
    (now.3 ∙ c.requires.rest.0, next_member c.requires.comes c.requires.rest.1 now.4)

pub returns-clause-rest : goal.returns-clause-rest
returns-clause-rest c = let now = c.split_seat-seat.ensures in
    (now.0 ∙ c.requires.rest.0, still_rest c.requires.comes c.requires.rest.1 now.2)
