-- The callers that hold a tag, as hands at their indexes.
use Rattle.std.proofs.Common.{◌≡◌, ℕ, zero, suc, ◌<◌, max, min, true, false, List, [], ◌∷◌, length, map, get_or, All, refl, ap, ◌∙◌, subst, arith}
use Rattle.tag_board.proofs.Uses.{dite, dec_lt, QueueHand, Queue, Holds, in_pool, IsHandOf, part_of, state_of_all, Part, idle}
use Rattle.tag_board.proofs.Holdings.{holds_true, not_holds}
use Rattle.tag_board.proofs.Seats.{sits, part_here, own_here, held_here}

-- the hand at this index holds the tag
pub record HoldsAt (hands : List (QueueHand ℕ)) (place tag : ℕ) : Type 0 where
  pub hand : QueueHand ℕ
  pub within : place < length hands
  pub here : hand ≡ get_or hands place hand
  pub holds : Holds (in_pool hand) tag

-- a caller that holds a tag is the hand at its index
pub holder : (hands : List (QueueHand ℕ)) (place tag : ℕ)
    → (get_or (map part_of hands) place (idle false)).held tag ≡ true
    → HoldsAt hands place tag
holder [] place tag e = absurd (cc)
holder (hand ∷ hands) zero tag e = record
    { hand = hand; within = omega arith; here = refl; holds = holds_true (in_pool hand) tag e }
holder (hand ∷ hands) (suc place) tag e = let h = holder hands place tag e in let within = h.within in
    record { hand = h.hand; within = omega arith; here = h.here; holds = h.holds }

-- a fact about two numbers is one about the greater and the lesser
pub at_both : (P : ℕ → Type 0) (a b : ℕ) → P a → P b → P (max a b) × P (min a b)
at_both P a b one other = dite (dec_lt a b)
    (λ (less : a < b). let high : b ≡ max a b = omega arith in
    let low : a ≡ min a b = omega arith in (subst P high other, subst P low one))
    (λ no. let high : a ≡ max a b = omega arith in
    let low : b ≡ min a b = omega arith in (subst P high one, subst P low other))

-- a hand that does not hold the tag is a caller that does not
pub unheld_at : (queue : Queue ℕ) (hands : List (QueueHand ℕ)) (place : ℕ) (hand : QueueHand ℕ) → place < length hands
    → hand ≡ get_or hands place hand → (tag : ℕ) → ¬ (Holds (in_pool hand) tag)
    → ((state_of_all queue hands).part place).held tag ≡ false
unheld_at queue hands place hand within here tag free =
    ap (λ (p : Part). p.held tag) (part_here queue (sits within here)) ∙ not_holds (in_pool hand) tag free

-- two hands that hold a tag, the later and the earlier in the list
module _ (queue : Queue ℕ) (hands : List (QueueHand ℕ)) (own : All (IsHandOf queue) hands) (tag a b : ℕ)
    (one : (a < length hands) × (((state_of_all queue hands).part a).held tag ≡ true))
    (other : (b < length hands) × (((state_of_all queue hands).part b).held tag ≡ true)) where
  own_holder : (place : ℕ) (hand : QueueHand ℕ) → (place < length hands)
      × (((state_of_all queue hands).part place).held tag ≡ true)
      → hand ≡ get_or hands place hand → IsHandOf queue hand × Holds (in_pool hand) tag
  own_holder place hand at here =
      let sat = sits at.0 here in (own_here queue sat own, held_here queue sat tag at.1)

  pub later_holds : (hand : QueueHand ℕ) → hand ≡ get_or hands (max a b) hand
      → IsHandOf queue hand × Holds (in_pool hand) tag
  later_holds hand = own_holder (max a b) hand
      (at_both (λ n. (n < length hands) × (((state_of_all queue hands).part n).held tag ≡ true)) a b one other).0

  pub earlier_holds : (hand : QueueHand ℕ) → hand ≡ get_or hands (min a b) hand
      → IsHandOf queue hand × Holds (in_pool hand) tag
  earlier_holds hand = own_holder (min a b) hand
      (at_both (λ n. (n < length hands) × (((state_of_all queue hands).part n).held tag ≡ true)) a b one other).1
