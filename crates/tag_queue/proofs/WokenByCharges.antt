-- What is counted for tags that are given back, and how many waiters are woken.
use Rattle.std.specs.Prelude.{◌∷◌, ◌≡◌}
use Rattle.tag_queue.proofs.Uses.{active_at, QueueHand, ap, batch_of, Below, book_steps, Busy, cap_of, Charge, Charges, CountsInGroups, FindsNoneActive, Follows, Full, group_steps, GroupStep, inl, inr, IsCharge, List, Look, Queue, refl, SameCounts, SightsAfter, subst, Teller, Waiter, waiter_of, Won, ℕ, ⊎_elim, ◌∙◌}
use Rattle.wake_book.specs.Book as book
use Rattle.wake_book.specs.Groups as groups

-- a charge that was not won is followed by no step
pub follows_none : (batch : ℕ) (charge : Charge) (steps : List GroupStep) → ((start : ℕ) → charge ≡ Won start → ⊥)
    → Follows batch charge steps steps 0
follows_none batch Full steps h = (refl, refl)
follows_none batch Below steps h = (refl, refl)
follows_none batch (Won start) steps h = absurd (h start refl)
follows_none batch Busy steps h = (refl, refl)

-- steps in the pool alone, made before a look, leave it the first on the groups
sights_after : {R : Type 0} (found : ℕ) (old mid new : QueueHand R) → SameCounts old mid → SightsAfter found mid new
    → SightsAfter found old new
sights_after found old mid new same s = record {
  after_pool = s.after_pool;
  first_step = s.first_step ∙ ap (λ (w : Waiter). Look active_at found ∷ groups.steps_of w) same.1;
}

-- steps in the pool alone, made before, change nothing about it
pub counts_after : {R : Type 0} (queue : Queue R) (n : ℕ) (old mid new : QueueHand R) (woken : ℕ) → SameCounts old mid
    → CountsInGroups queue n mid new woken → CountsInGroups queue n old new woken
counts_after queue n old mid new woken same c = record {
  counts = ⊎_elim (λ (f : FindsNoneActive mid new woken). inl (record {
    sights = sights_after 0 old mid new same f.sights;
    teller = f.teller ∙ same.0;
    looks = f.looks ∙ ap (λ (w : Waiter). Look active_at 0 ∷ groups.steps_of w) same.1;
    none = f.none;
  })) (λ (f : Charges queue n mid new woken). inr (record {
    active = f.active;
    some = f.some;
    sights = sights_after f.active old mid new same f.sights;
    charge = f.charge;
    lawful = subst (λ (t : Teller). IsCharge (cap_of queue) (batch_of queue) n (book.steps_of t)
        (book_steps new) f.charge) same.0 f.lawful;
    follows = subst (λ (w : Waiter). Follows (batch_of queue) f.charge (Look active_at f.active ∷ groups.steps_of w)
        (group_steps new) woken) same.1 f.follows;
  })) c.counts;
  stands = subst (λ (w : Waiter). groups.StandsAsBefore w (waiter_of new)) same.1 c.stands;
}
