-- By `meet`, two hands with one number would have different ones; so all numbers differ, and each is below the count,
-- where there are more hands than that.
use Rattle.std.specs.Prelude.{◌≡◌}
use Rattle.tag_queue.proofs.Uses.{ap, arith, IsHandOf, List, QueueHand, subst, sym, ◌∙◌}
use Rattle.std.proofs.Common.{get_or}
use Rattle.std.proofs.lemmas.List.{get_or-map, length-map}
use Rattle.tag_queue.specs.Gathering.{AreDistinct, HaveSameNumber}
use Rattle.tag_queue.specs.Hands.{number_of, numbers_of}
use Rattle.tag_queue.proofs.Gathering.{few_hands}
use Rattle.tag_queue.proofs.queue.Queue.assert_hand_count.Goals as goal

pub unreachable-requires : goal.unreachable-requires
unreachable-requires g c =
    let few = few_hands c.args.self.now c.args.hands.items c.requires
    (subst (λ (z : List (QueueHand g.row.R.Denot)). AreDistinct (numbers_of z)) c.as_slice.ensures.value
    c.in_default.ensures) in
    let many = c.if-len-hand_count.false in let long = c.len.ensures in omega arith

pub meet-requires : goal.meet-requires
meet-requires g c =
    let hands = c.args.hands.items in let numbers = numbers_of hands in
    let find_same_number = subst (λ (z : List (QueueHand g.row.R.Denot)). HaveSameNumber (numbers_of z) c.in-Some.first c.in-Some.second)
    c.as_slice.ensures.value c.in-Some.ensures in
    let less = find_same_number.0 in let within = find_same_number.1 in let long = length-map hands number_of in
    let later = c.remove-later.result in let earlier = c.remove-earlier.result in
    let one : earlier ≡ get_or hands c.in-Some.first earlier = c.remove-earlier.ensures.value
    ∙ c.remove-later.ensures.by_index.0 c.in-Some.first earlier less in
    record {
      hands = (
        subst (IsHandOf c.args.self.now) (sym one) (c.requires c.in-Some.first earlier (omega arith)),
        subst (IsHandOf c.args.self.now) (sym c.remove-later.ensures.value)
            (c.requires c.in-Some.second later (omega arith)),
      );
    }

pub unreachable-requires-2 : goal.unreachable-requires-2
unreachable-requires-2 g c =
    let hands = c.args.hands.items in
    let find_same_number = subst (λ (z : List (QueueHand g.row.R.Denot)). HaveSameNumber (numbers_of z) c.in-Some.first c.in-Some.second)
    c.as_slice.ensures.value c.in-Some.ensures in
    let less = find_same_number.0 in let within = find_same_number.1 in let long = length-map hands number_of in
    let later = c.remove-later.result in let earlier = c.remove-earlier.result in
    let one : earlier ≡ get_or hands c.in-Some.first earlier = c.remove-earlier.ensures.value
    ∙ c.remove-later.ensures.by_index.0 c.in-Some.first earlier less in
    let a : get_or (numbers_of hands) c.in-Some.first 0 ≡ number_of earlier =
    get_or-map number_of hands c.in-Some.first earlier 0 (omega arith) ∙ ap number_of (sym one) in
    let b : get_or (numbers_of hands) c.in-Some.second 0 ≡ number_of later =
    get_or-map number_of hands c.in-Some.second later 0 (omega arith)
    ∙ ap number_of (sym c.remove-later.ensures.value) in
    c.meet.ensures.numbers
    (c.meet.ensures.hands.0.1 ∙ sym a ∙ find_same_number.2 ∙ b ∙ sym c.meet.ensures.hands.1.1)
