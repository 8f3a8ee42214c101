-- The latest record leaves the others for its caller's seat, which had none, and so has what it had before.
use Rattle.tag_core.proofs.Uses.{ap, record_of, rest_of, viewing, ◌∙◌}
use Rattle.tag_core.specs.Lending.{caller_before, lent}
use Rattle.tag_core.proofs.SeatMoves.{some_words, splits_off, joins_in}
use Rattle.tag_core.proofs.loans.Loans.give_back.Goals as goal

pub split_seat-own-requires : goal.split_seat-own-requires
split_seat-own-requires g c =
    let m = c.args.map.now in let s = c.args.self.now.seat in let was = caller_before c.args.lender in (
      c.requires.map,
      some_words m,
      splits_off m s.id s.me.0 (record_of was) (rest_of (lent c.args.self.now)) (ap viewing c.requires.latest),
    )

pub join_seat-requires : goal.join_seat-requires
join_seat-requires g c =
    let m = c.args.map.now in let s = c.args.lender.seat in let own = c.split_seat-own.result in (
      c.args.lender.lent.1 ∙ c.requires.caller.0,
      c.split_seat-own.ensures.3 ∙ c.requires.map,
      ap (λ z. z.1) c.split_seat-own.ensures.4,
      some_words m,
      joins_in m s.id s.me.0 own.id own.me.0,
    )
