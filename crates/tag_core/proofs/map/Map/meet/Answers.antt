-- Two callers in one view belong to one history, in which a tag has one holder; then each gets its own record back.
use Rattle.std.specs.Prelude.{◌∷◌, ◌≡◌}
use Rattle.tag_core.proofs.Uses.{[], ap, both_views, Caller, first_view, record_of, Shape, subst, sym, tag_bit, View, viewing, ◌∙◌}
use Rattle.tag_core.proofs.SeatMoves.{some_words, splits_off, joins_in}
use Rattle.tag_core.proofs.Meetings.{meet_allowed}
use Rattle.tag_core.proofs.map.Map.meet.Goals as goal

-- the records of two callers come into one view
two_records : {R : Type 0} (first second : Caller R) (one other both : View R) → one ≡ first_view first.seat.me.0
    → other ≡ first_view second.seat.me.0 → both ≡ both_views one other
    → both ≡ viewing (record_of first ∷ record_of second ∷ [])
two_records first second one other both is_one is_other is_both =
    is_both ∙ (λ j. both_views (is_one j) (is_other j))
    ∙ (λ j. both_views (first_view (first.knows j)) (first_view (second.knows j)))

pub split_seat-both-requires : goal.split_seat-both-requires
split_seat-both-requires g c = let m = c.args.self.now in let w = c.args.first.now in (
  c.requires.callers.0.0,
  some_words m,
  splits_off m w.seat.id w.seat.me.0 (record_of w) [] w.knows,
)

pub split_seat-other-requires : goal.split_seat-other-requires
split_seat-other-requires g c = let m = c.args.self.now in let w = c.args.second.now in (
  c.requires.callers.1.0,
  some_words m,
  splits_off m w.seat.id w.seat.me.0 (record_of w) [] w.knows,
)

pub join_seat-requires : goal.join_seat-requires
join_seat-requires g c = let m = c.args.self.now in let one = c.split_seat-both.result in
    let two = c.split_seat-other.result in (
      c.split_seat-both.ensures.3 ∙ c.requires.callers.0.0,
      c.split_seat-other.ensures.3 ∙ c.requires.callers.1.0,
      ap (λ z. z.1) c.split_seat-other.ensures.4,
      some_words m,
      joins_in m one.id one.me.0 two.id two.me.0,
    )

pub load-requires : goal.load-requires
load-requires g c = let m = c.args.self.now in let both = c.join_seat.new.seat in (
  c.join_seat.ensures.0 ∙ c.split_seat-both.ensures.3 ∙ c.requires.callers.0.0,
  some_words m,
  meet_allowed g.row.R.Denot m.table.shared.key m.table.shared.table_id.slots both.id both.me,
)

pub split_seat-one-requires : goal.split_seat-one-requires
split_seat-one-requires g c =
    let m = c.args.self.now in let first = c.args.first.now in let second = c.args.second.now in
    let both = c.load.new.seat in
    let view = two_records first second c.split_seat-both.result.me.0 c.split_seat-other.result.me.0 both.me.0
    (ap (λ z. z.0) c.split_seat-both.ensures.4) (ap (λ z. z.0) c.split_seat-other.ensures.4)
    (ap (λ z. z.0) (c.load.ensures.2.0 ∙ c.join_seat.ensures.2)) in (
      c.load.ensures.0 ∙ c.join_seat.ensures.0 ∙ c.split_seat-both.ensures.3 ∙ c.requires.callers.0.0,
      some_words m,
      splits_off m both.id both.me.0 (record_of first) (record_of second ∷ []) view,
    )

pub join_seat-requires-2 : goal.join_seat-requires-2
join_seat-requires-2 g c =
    let m = c.args.self.now in let seat = c.split_seat-both.new.seat in let one = c.split_seat-one.result in (
      c.split_seat-both.ensures.0 ∙ c.requires.callers.0.0,
      c.split_seat-one.ensures.3 ∙ c.load.ensures.0 ∙ c.join_seat.ensures.0 ∙ c.split_seat-both.ensures.3
          ∙ c.requires.callers.0.0,
      ap (λ z. z.1) c.split_seat-one.ensures.4,
      some_words m,
      joins_in m seat.id seat.me.0 one.id one.me.0,
    )

pub join_seat-requires-3 : goal.join_seat-requires-3
join_seat-requires-3 g c =
    let m = c.args.self.now in let seat = c.split_seat-other.new.seat in let two = c.split_seat-one.new.seat in (
      c.split_seat-other.ensures.0 ∙ c.requires.callers.1.0,
      c.split_seat-one.ensures.0 ∙ c.load.ensures.0 ∙ c.join_seat.ensures.0 ∙ c.split_seat-both.ensures.3
          ∙ c.requires.callers.0.0,
      ap (λ z. z.1) (c.split_seat-one.ensures.2) ∙ ap (λ z. z.1) (c.load.ensures.2.0 ∙ c.join_seat.ensures.2)
          ∙ ap (λ z. z.1) c.split_seat-both.ensures.4,
      some_words m,
      joins_in m seat.id seat.me.0 two.id two.me.0,
    )

pub returns-clause-apart : goal.returns-clause-apart
returns-clause-apart g c tag has_first has_second = let first = c.args.first.now in let second = c.args.second.now in
    let view = two_records first second c.split_seat-both.result.me.0 c.split_seat-other.result.me.0
    c.join_seat.new.seat.me.0
    (ap (λ z. z.0) c.split_seat-both.ensures.4) (ap (λ z. z.0) c.split_seat-other.ensures.4)
    (ap (λ z. z.0) c.join_seat.ensures.2) in
    (c.load.ensures.2.1 (record_of first) (record_of second) view).1 tag has_first.0 has_first.1
    (subst (λ (z : Shape). tag_bit z.layout second.held.items tag ≡ 1)
    (c.requires.callers.1.1 ∙ sym c.requires.callers.0.1) has_second.1)

pub returns-clause-numbers : goal.returns-clause-numbers
returns-clause-numbers g c = let first = c.args.first.now in let second = c.args.second.now in
    let view = two_records first second c.split_seat-both.result.me.0 c.split_seat-other.result.me.0
    c.join_seat.new.seat.me.0
    (ap (λ z. z.0) c.split_seat-both.ensures.4) (ap (λ z. z.0) c.split_seat-other.ensures.4)
    (ap (λ z. z.0) c.join_seat.ensures.2) in
    (c.load.ensures.2.1 (record_of first) (record_of second) view).0
