-- Whom the steps of a hand granted a wakeup, unrung: a look at the active count grants none, and neither do steps on the
-- map.
use Rattle.std.specs.Prelude.{◌∷◌, ◌≡◌}
use Rattle.tag_queue.proofs.Uses.{active_at, QueueHand, ap, arith, batch_of, book_steps, cap_of, ChargesNow, Follows, get_or-replicate, GrantsUnrung, group_steps, GroupStep, IsCharge, List, Look, moved_by, Queue, refl, RingsNobody, SameCounts, slice_index, StandsAsBefore, steps_of, subst, sym, Teller}
use Rattle.tag_queue.proofs.Uses.{teller_of, total, Waiter, waiter_of, ℕ, ◌∙◌}
use Rattle.wake_book.specs.declared.grants.Grants.{Grants}
use Rattle.wake_book.specs.declared.grants.TheConstants.{NO_GRANTS}
use Rattle.wake_book.specs.Grants.{AreGrantsOf, granted_in}
use Rattle.wake_book.specs.Groups as groups

look_alone : (found : ℕ) (old new : List GroupStep) → new ≡ Look active_at found ∷ old → AreGrantsOf NO_GRANTS old new
look_alone found old new looked = let all = ap (total moved_by) looked in record {
  each = λ group low. let none : slice_index NO_GRANTS.in_group group ≡ 0 = get_or-replicate 8 group 0 0 low in
      let same = ap (total (granted_in group)) looked in
      omega arith;
  all = omega arith;
  sum_is = refl;
}

no_step : (steps : List GroupStep) → AreGrantsOf NO_GRANTS steps steps
no_step steps = record {
  each = λ group low. let none : slice_index NO_GRANTS.in_group group ≡ 0 = get_or-replicate 8 group 0 0 low in
      omega arith;
  all = omega arith;
  sum_is = refl;
}

made_since : (grants : Grants) (before old new : List GroupStep) → AreGrantsOf NO_GRANTS before old
    → AreGrantsOf grants old new → AreGrantsOf grants before new
made_since grants before old new none made = let all = made.all in let still = none.all in record {
  each = λ group low. let zero : slice_index NO_GRANTS.in_group group ≡ 0 = get_or-replicate 8 group 0 0 low in
      let same = none.each group low in let is = made.each group low in omega arith;
  all = omega arith;
  sum_is = made.sum_is;
}

-- a look at the active count grants nobody a wakeup
pub look_grants_none : (found : ℕ) (old new : Waiter) → groups.steps_of new ≡ Look active_at found ∷ groups.steps_of old
    → RingsNobody old new → GrantsUnrung NO_GRANTS old new
look_grants_none found old new looked silent = record {
  are = look_alone found (groups.steps_of old) (groups.steps_of new) looked;
  silent = silent;
}

-- no steps grant nobody a wakeup
pub none_granted : (waiter : Waiter) → GrantsUnrung NO_GRANTS waiter waiter
none_granted waiter = record { are = no_step (groups.steps_of waiter); silent = refl }

-- grants that were made after a moment are all since an earlier one, if nobody was granted a wakeup in between
pub granted_since : (grants : Grants) (before old new : Waiter) → GrantsUnrung NO_GRANTS before old
    → GrantsUnrung grants old new → GrantsUnrung grants before new
granted_since grants before old new none made = record {
  are = made_since grants (groups.steps_of before) (groups.steps_of old) (groups.steps_of new) none.are made.are;
  silent = made.silent ∙ none.silent;
}

module _ {R : Type 0} where
  -- what holds of the waiter after steps on the map alone holds of it before them
  pub told_after : (told : Waiter → Type 0) (old new : QueueHand R) → SameCounts old new → told (waiter_of new)
      → told (waiter_of old)
  told_after told old new same = subst told same.1

  -- a charge is as lawful as it was once its grants are passed on, by no step
  pub charges_told : (queue : Queue R) (n : ℕ) (old mid new : QueueHand R) (woken told : ℕ) → told ≡ woken
      → ChargesNow queue n old mid woken → group_steps new ≡ group_steps mid
      → StandsAsBefore (waiter_of mid) (waiter_of new) → teller_of new ≡ teller_of mid → ChargesNow queue n old new told
  charges_told queue n old mid new woken told same c steps stands teller = subst (ChargesNow queue n old new) (sym same)
      (record {
        charge = c.charge;
        lawful = subst (λ (t : Teller). IsCharge (cap_of queue) (batch_of queue) n (book_steps old) (steps_of t) c.charge)
            (sym teller) c.lawful;
        follows = subst (λ (s : List GroupStep). Follows (batch_of queue) c.charge (group_steps old) s woken)
            (sym steps) c.follows;
        stands = (stands.0 ∙ c.stands.0, stands.1 ∙ c.stands.1, stands.2 ∙ c.stands.2);
      })
