-- The effect of clears on the hand that makes them.
use Rattle.std.specs.Prelude.{◌+◌, ◌∷◌, ◌≡◌, ◌≤◌, ◌⊎◌}
use Rattle.tag_queue.specs.Uses.{active_at, GrantsUnrung, GroupStep, IsWalk, Kind, List, Look, Ordinary, Reserved, sighted_beside, sighted_steps, StandsAsBefore, walk_steps, ℕ}
use Rattle.wake_book.specs.declared.charge.Charge.{Charge}
use Rattle.wake_book.specs.declared.charge.Charge.TheVariants.{Full, Below, Won, Busy}
use Rattle.wake_book.specs.declared.grants.TheConstants.{NO_GRANTS}
use Rattle.wake_book.specs.Charging.{IsCharge, count_steps}
use Rattle.tag_queue.specs.declared.hand.QueueHand.{QueueHand}
use Rattle.tag_queue.specs.declared.queue.Queue.{Queue}
use Rattle.tag_queue.specs.Hands.{in_pool, teller_of, waiter_of, sighting_of, book_steps, group_steps, batch_of, cap_of, SameCounts}

-- what follows a charge: a lawful walk for one batch if it was won, otherwise no step
abbrev pub Follows : ℕ → Charge → List GroupStep → List GroupStep → ℕ → Type 0
Follows batch Full steps steps' woken = (steps' ≡ steps) × (woken ≡ 0)
Follows batch Below steps steps' woken = (steps' ≡ steps) × (woken ≡ 0)
Follows batch (Won start) steps steps' woken = IsWalk batch steps steps' woken
Follows batch Busy steps steps' woken = (steps' ≡ steps) × (woken ≡ 0)

-- the hand granted nobody a wakeup in between, and rang for nobody
abbrev pub GrantsNone : {R : Type 0} → QueueHand R → QueueHand R → Type 0
GrantsNone old new = GrantsUnrung NO_GRANTS (waiter_of old) (waiter_of new)

-- the most steps of a charge: those of a count, and of the walk that follows
abbrev pub charge_steps : ℕ
charge_steps = count_steps + walk_steps

-- the most steps of a completion: the load of the active count, and those of a charge
abbrev pub complete_steps : ℕ
complete_steps = 1 + charge_steps

-- the hand's first step on the groups was a look at the active count, which found this many, and came after all that its
-- hand did in the pool
pub record SightsAfter {R : Type 0} (found : ℕ) (old new : QueueHand R) : Type 0 where
  pub after_pool : sighted_beside (sighting_of new) ≡ in_pool new
  pub first_step : sighted_steps (sighting_of new) ≡ Look active_at found ∷ group_steps old

-- no hand is found active, so nothing is counted and nobody is woken
pub record FindsNoneActive {R : Type 0} (old new : QueueHand R) (woken : ℕ) : Type 0 where
  pub sights : SightsAfter 0 old new
  pub teller : teller_of new ≡ teller_of old
  pub looks : group_steps new ≡ Look active_at 0 ∷ group_steps old
  pub none : woken ≡ 0

-- a lawful charge of n, and what follows it
pub record ChargesNow {R : Type 0} (queue : Queue R) (n : ℕ) (old new : QueueHand R) (woken : ℕ) : Type 0 where
  pub charge : Charge
  pub lawful : IsCharge (cap_of queue) (batch_of queue) n (book_steps old) (book_steps new) charge
  pub follows : Follows (batch_of queue) charge (group_steps old) (group_steps new) woken
  pub stands : StandsAsBefore (waiter_of old) (waiter_of new)

-- some hand is found active: there is a lawful charge of n, and what follows it
pub record Charges {R : Type 0} (queue : Queue R) (n : ℕ) (old new : QueueHand R) (woken : ℕ) : Type 0 where
  pub active : ℕ
  pub some : 1 ≤ active
  pub sights : SightsAfter active old new
  pub charge : Charge
  pub lawful : IsCharge (cap_of queue) (batch_of queue) n (book_steps old) (book_steps new) charge
  pub follows : Follows (batch_of queue) charge (Look active_at active ∷ group_steps old) (group_steps new) woken

-- what is counted for n ordinary tags that were given back, and how many waiters are woken
pub record CountsInGroups {R : Type 0} (queue : Queue R) (n : ℕ) (old new : QueueHand R) (woken : ℕ) : Type 0 where
  pub counts : FindsNoneActive old new woken ⊎ Charges queue n old new woken
  pub stands : StandsAsBefore (waiter_of old) (waiter_of new)

-- the same for tags of either kind: nothing is counted for reserved ones
abbrev pub Counts : {R : Type 0} → Queue R → Kind → ℕ → QueueHand R → QueueHand R → ℕ → Type 0
Counts queue Ordinary n old new woken = CountsInGroups queue n old new woken
Counts queue Reserved n old new woken = (woken ≡ 0) × SameCounts old new
