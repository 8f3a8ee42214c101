-- A board has all its hands, and their totals are those of its state.
use Rattle.std.proofs.Common.{◌≡◌, ℕ, ◌+◌, List, length, map, All, ap, ◌∙◌, arith}
use Rattle.tag_board.proofs.Uses.{length-map, some, HasAll, entry_or, QueueHand, Queue, IsHandOf, number_of, hands_of, numbers_of, AreOrdered, state_of_all}
use Rattle.tag_queue.specs.Gathering.{IsGathered}
use Rattle.tag_queue.specs.declared.gather.QueueTotals.{QueueTotals}
use Rattle.tag_board.specs.Closing.{totals_in}
use Rattle.tag_board.proofs.Adding.{add_up}

-- hands in the order of their numbers, as many as the queue has, are all the hands
pub all_there : (queue : Queue ℕ) (hands : List (QueueHand ℕ)) → AreOrdered hands → length hands ≡ hands_of queue
    → HasAll (numbers_of hands) (hands_of queue)
all_there queue hands ordered every n low =
    let long = length-map hands number_of in
    (n, entry_or (map number_of hands) n 0 (omega arith) ∙ ap some (ordered n (omega arith)))

-- the totals that a gather of all hands returns
pub totals_are : (queue : Queue ℕ) (hands : List (QueueHand ℕ)) (totals : QueueTotals) → All (IsHandOf queue) hands
    → IsGathered queue hands totals → totals.tags ≡ totals_in (state_of_all queue hands)
totals_are queue hands totals own g =
    let sums = add_up queue hands own in let got = sums.got in let back = sums.back in let held = sums.held in
    let one = g.tags.ordinary_is in let other = g.tags.reserved_is in
    let a = one.got in let b = one.back in let c = one.held in let d = one.balance in
    let e = other.got in let f = other.back in let h = other.held in let i = other.balance in
    let s = totals_in (state_of_all queue hands) in
    let same_got : g.tags.ordinary.totals.got + g.tags.reserved.totals.got ≡ s.got = omega arith in
    let same_back : g.tags.ordinary.totals.back + g.tags.reserved.totals.back ≡ s.back = omega arith in
    let same_held : g.tags.ordinary.totals.held + g.tags.reserved.totals.held ≡ s.held = omega arith in
    let same_posted : g.tags.ordinary.totals.posted + g.tags.reserved.totals.posted ≡ s.posted = omega arith in
    g.tags.totals_are
    ∙ (λ j. record { got = same_got j; back = same_back j; held = same_held j; posted = same_posted j })
