-- The seat has the caller's record of the next map first: nothing held or done, and the counts that it brings.
use Rattle.tag_core.proofs.Uses.{[], ap, fresh_record, next_others, replicate, Shape, sym, words, ◌∙◌}
use Rattle.tag_core.proofs.SeatMoves.{some_words}
use Rattle.tag_core.proofs.Seatings.{splits_next, knows, shown, carries, wide, is_fresh}
use Rattle.tag_core.proofs.reopens.reseat.Goals as goal

pub split_seat-requires : goal.split_seat-requires
split_seat-requires g c = let m = c.args.tags.now in let rest = c.args.rest.now in (
  c.requires.seat,
  some_words m,
  splits_next m rest.id rest.me.0 c.args.caller.now.number c.requires.number (ap (λ x. x.0) c.requires.rest),
)

pub invariant_of-caller : goal.invariant_of-caller
invariant_of-caller g c = let k = c.args.tags.now.shape in let old = c.args.caller.now in let of = c.of.ensures in
    let is = ap (λ x. x.0) c.requires.rest in let now = c.split_seat.ensures.4 in
    let low = c.requires.number in let counts = c.requires.counts in let blank = c.requires.held in record {
      told = (
        ap (λ (z : Shape). z.layout) (sym of),
        c.requires.life ∙ ap (λ (z : Shape). z.life) (sym of),
        c.first_state-caller.ensures,
      );
      knows = knows k old.number old.won old.back low counts _ is _ now _ of _ blank;
      shown = shown k old.number old.won old.back low counts _ is _ now _ of _ blank;
      carries = carries k old.number old.won old.back low counts _ is _ now _ of _ blank;
      wide = wide k old.number old.won old.back low counts _ is _ now _ of _ blank;
      unspent = old.unspent;
      few_back = old.few_back;
    }

pub returns-clause-caller : goal.returns-clause-caller
returns-clause-caller g c = let k = c.args.tags.now.shape in let old = c.args.caller.now in (
  (c.split_seat.ensures.3 ∙ c.requires.seat, c.of.ensures),
  is_fresh k old.number old.won old.back c.requires.number c.requires.counts _ (ap (λ x. x.0) c.requires.rest) _
      c.split_seat.ensures.4 _ c.of.ensures _ c.requires.held
      ∙ (λ j. record {
        shape = k;
        number = old.number;
        held = replicate (words k.layout) 0;
        swept = replicate (words k.layout) 0;
        won = c.requires.counts.0 j;
        back = c.requires.counts.1 j;
        steps = [];
      }),
)

pub returns-clause-rest : goal.returns-clause-rest
returns-clause-rest g c = let k = c.args.tags.now.shape in let kept = c.requires.rest in (
  c.split_seat.ensures.0,
  c.split_seat.ensures.2 ∙ (λ j. (
    next_others (fresh_record {R = g.row.R.Denot} k) c.args.caller.now.number k.callers c.requires.number _
        (ap (λ x. x.0) kept) j,
    ap (λ x. x.1) kept j,
  )),
)
