-- The state of a board after a call on one hand.
use Rattle.std.proofs.Common.{◌≡◌, ◌≢◌, ◌↔◌, ℕ, ◌<◌, None, IsSome, List, length, map, get_or, set, sym, ap, ◌∙◌, subst, arith, true, false, is_some, All, get_or-set_other, get_or-set_same, length-set}
use Rattle.tag_board.proofs.Uses.{map-set, set-get_or, get_or-map, QueueHand, Kind, Ordinary, Queue, Shape, in_pool, number_of, pool_of, Holds, standing_of, hint_of, HasRoom, IsHandOf, part_of, state_of_all, AreOrdered, MayWin, Part, idle}
use Rattle.tag_board.proofs.Holdings.{holds_true, true_holds}
use Rattle.tag_board.proofs.Outcomes.{none_since}
use Rattle.tag_board.proofs.Ranges.{shape_there}

-- the caller's hand, among all hands
pub record Sits (hands : List (QueueHand ℕ)) (i : ℕ) (old : QueueHand ℕ) : Type 0 where
  pub within : i < length hands
  pub here : old ≡ get_or hands i old

pub sits : {hands : List (QueueHand ℕ)} {i : ℕ} {old : QueueHand ℕ} → i < length hands → old ≡ get_or hands i old
    → Sits hands i old
sits within here = record { within = within; here = here }

module _ {A : Type 0} (view : QueueHand ℕ → A) (d : A) {hands : List (QueueHand ℕ)} {i : ℕ} {old : QueueHand ℕ}
    (at : Sits hands i old) where
  -- what is seen at the index of a hand is what is seen of the hand
  pub seen_here : get_or (map view hands) i d ≡ view old
  seen_here = get_or-map view hands i old d at.within ∙ ap view (sym at.here)

  -- and a call on one hand leaves what is seen of the others
  pub seen_there : (new : QueueHand ℕ) (other : ℕ) → other ≢ i
      → get_or (map view (set hands i new)) other d ≡ get_or (map view hands) other d
  seen_there new other ne = ap (λ (vs : List A). get_or vs other d) (map-set view hands i new)
      ∙ get_or-set_other (map view hands) i other (view new) d ne

  -- of which nothing changes if the same is seen of that hand
  pub seen_same : {new : QueueHand ℕ} → view new ≡ view old → map view (set hands i new) ≡ map view hands
  seen_same {new} same = map-set view hands i new
      ∙ ap (set (map view hands) i) (same ∙ ap view at.here ∙ sym (get_or-map view hands i old d at.within))
      ∙ set-get_or (map view hands) i d

-- after a call on it, the hand sits where it did before
pub seat : {hands : List (QueueHand ℕ)} {i : ℕ} {old : QueueHand ℕ} → Sits hands i old → (new : QueueHand ℕ)
    → Sits (set hands i new) i new
seat {hands} {i} at new = let long = length-set hands i new in let low = at.within in
    record { within = omega arith; here = sym (get_or-set_same hands i new new low) }

-- what is known of this caller changed so, and what is known of any other did not change
pub record Moves {A : Type 0} (caller : ℕ) (change : A → A → Type 0) (old new : ℕ → A) : Type 0 where
  pub own : change (old caller) (new caller)
  pub others : (other : ℕ) → other ≢ caller → new other ≡ old other

-- so it is of hands of which one changed so
pub moved : {A : Type 0} (view : QueueHand ℕ → A) (d : A) {hands : List (QueueHand ℕ)} {i : ℕ} {old : QueueHand ℕ}
    → Sits hands i old → (new : QueueHand ℕ) → (change : A → A → Type 0) → change (view old) (view new)
    → Moves i change (λ caller. get_or (map view hands) caller d)
    (λ caller. get_or (map view (set hands i new)) caller d)
moved {A} view d {hands} {i} {old} at new change c = record {
  own = subst (λ (a : A). change a (get_or (map view (set hands i new)) i d)) (sym (seen_here view d at))
      (subst (λ (a : A). change (view old) a) (sym (seen_here view d (seat at new))) c);
  others = seen_there view d at new;
}

module _ (queue : Queue ℕ) {hands : List (QueueHand ℕ)} {i : ℕ} {old : QueueHand ℕ} (at : Sits hands i old) where
  -- a caller's part is that of the hand at its index
  pub part_here : (state_of_all queue hands).part i ≡ part_of old
  part_here = seen_here part_of (idle false) at

  pub held_here : (tag : ℕ) → ((state_of_all queue hands).part i).held tag ≡ true → Holds (in_pool old) tag
  held_here tag e = holds_true (in_pool old) tag (sym (ap (λ (p : Part). p.held tag) part_here) ∙ e)

  pub here_held : (tag : ℕ) → Holds (in_pool old) tag → ((state_of_all queue hands).part i).held tag ≡ true
  here_held tag h = ap (λ (p : Part). p.held tag) part_here ∙ true_holds (in_pool old) tag h

  pub same_held : (tag : ℕ) → Holds (in_pool old) tag ↔ (((state_of_all queue hands).part i).held tag ≡ true)
  same_held tag = (here_held tag, held_here tag)

  -- whether the hand is in a wait group
  stands_here : is_some (standing_of old) ≡ ((state_of_all queue hands).part i).stands
  stands_here = sym (ap (λ (p : Part). p.stands) part_here)

  pub standing_here : IsSome (standing_of old) ↔ (((state_of_all queue hands).part i).stands ≡ true)
  standing_here = (λ some. sym stands_here ∙ some, λ stands. stands_here ∙ stands)

  pub out_here : (standing_of old ≡ None) ↔ (((state_of_all queue hands).part i).stands ≡ false)
  out_here = (λ none. sym stands_here ∙ ap is_some none, λ out. none_since (standing_of old) (stands_here ∙ out))

  -- the hands are still in the order of their numbers
  pub ordered : (new : QueueHand ℕ) → AreOrdered hands → number_of new ≡ number_of old → AreOrdered (set hands i new)
  ordered new before same n low = ap (λ (ns : List ℕ). get_or ns n 0) (seen_same number_of 0 at same)
      ∙ before n (let l = length-set hands i new in omega arith)

  -- an unchanged hand leaves the hands unchanged
  pub unmoved : {new : QueueHand ℕ} → new ≡ old → set hands i new ≡ hands
  unmoved same = ap (set hands i) (same ∙ at.here) ∙ set-get_or hands i old

-- a hand of the list is a hand of this queue
pub own_here : (queue : Queue ℕ) {hands : List (QueueHand ℕ)} {i : ℕ} {old : QueueHand ℕ} → Sits hands i old
    → All (IsHandOf queue) hands → IsHandOf queue old
own_here queue {hands} {i} {old} at own = subst (IsHandOf queue) (sym at.here) (own i old at.within)

module _ (queue : Queue ℕ) {hands : List (QueueHand ℕ)} {i : ℕ} {old : QueueHand ℕ} (at : Sits hands i old)
    (own : IsHandOf queue old) where
  -- a hand that has room for n more tags may win them
  pub room_here : (kind : Kind) (n : ℕ) → HasRoom (in_pool old) kind n → MayWin (state_of_all queue hands) i kind n
  room_here kind n room =
      let life = ap (λ (k : Shape). k.life) (shape_there (pool_of queue) (in_pool old) own.0 kind) in
      let won = ap (λ (p : Part). p.won kind) (part_here queue at) in omega arith

  pub round_here : ((state_of_all queue hands).part i).round_robin ≡ (hint_of (in_pool old) Ordinary).round_robin
  round_here = ap (λ (p : Part). p.round_robin) (part_here queue at)
