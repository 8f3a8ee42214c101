-- What a call on one hand is for its caller as it waits and wakes others.
use Rattle.std.proofs.Common.{◌≡◌, ℕ, ◌+◌, ◌<◌, ⊎_elim, inl, inr, List, ap, subst, arith}
use Rattle.tag_board.proofs.Uses.{total, GroupStep, Charge, Full, Below, Won, Busy, moved_by, Queue, QueueHand, Kind, book_steps, group_steps, pool_of, SameCounts, waiter_of, GrantsFor, GrantsForTag, reserved_of, kind_of, reserved_below, ordinary_above, terms_of}
use Rattle.wake_book.specs.Book as book
use Rattle.wake_book.specs.Charges.{added}
use Rattle.wake_book.specs.Groups as groups
use Rattle.tag_queue.specs.Clears.{Charges, Counts, CountsInGroups, FindsNoneActive, Follows}
use Rattle.tag_queue.specs.Hands.{batch_of, cap_of}
use Rattle.tag_board.proofs.Charging.{charge_adds, walk_grants}

module _ {R : Type 0} (old new : QueueHand R) where
  -- a hand that counts and waits as before is the same caller as before
  pub as_it_was : SameCounts old new → waiter_of new ≡ waiter_of old
  as_it_was same = λ j. record {
    book = ap book.steps_of same.0 j;
    groups = ap groups.steps_of same.1 j;
    group = ap groups.standing_of same.1 j;
    next = ap groups.wait_index_of same.1 j;
  }

  -- what follows a charge grants as many wakeups as it says
  follows_grant : (batch : ℕ) (charge : Charge) (steps steps' : List GroupStep) (woken : ℕ)
      → Follows batch charge steps steps' woken → total moved_by steps' ≡ total moved_by steps + woken
  follows_grant batch Full steps steps' woken f =
      let all = ap (total moved_by) f.0 in let none = f.1 in omega arith
  follows_grant batch Below steps steps' woken f =
      let all = ap (total moved_by) f.0 in let none = f.1 in omega arith
  follows_grant batch (Won start) steps steps' woken f = walk_grants batch steps steps' woken f
  follows_grant batch Busy steps steps' woken f =
      let all = ap (total moved_by) f.0 in let none = f.1 in omega arith

  module _ (queue : Queue R) where
    -- a clear of n ordinary tags tells how many wakeups it granted
    pub counts_grant : (n woken : ℕ) → CountsInGroups queue n old new woken
        → GrantsFor (cap_of queue) n woken (waiter_of old) (waiter_of new)
    counts_grant n woken c = ⊎_elim
        (λ (none : FindsNoneActive old new woken).
        let looks = ap (total moved_by) none.looks in let zero_woken = none.none in record {
          granted = omega arith;
          counted = inr (ap book.steps_of none.teller, inl none.looks);
          stays = (c.stands.1, c.stands.2);
        })
        (λ (some : Charges queue n old new woken).
        let follows = follows_grant (batch_of queue) some.charge _ (group_steps new) woken some.follows in record {
          granted = omega arith;
          counted = ⊎_elim
              (λ (all : total added (book_steps new) ≡ total added (book_steps old) + n). inl all)
              (λ (full : (book_steps new ≡ book_steps old) × (cap_of queue < total added (book_steps old) + n)).
              inr (full.0, inr full.1))
              (charge_adds (cap_of queue) (batch_of queue) n (book_steps old) (book_steps new) some.charge some.lawful);
          stays = (c.stands.1, c.stands.2);
        }) c.counts

    -- and so does a clear of one tag, of which a reserved one grants and counts nothing
    pub clear_grants : (callers tag woken : ℕ)
        → Counts queue (kind_of (reserved_of (pool_of queue)) tag) 1 old new woken
        → GrantsForTag (terms_of queue callers) tag woken (waiter_of old) (waiter_of new)
    clear_grants callers tag woken c = (
      (λ low. let is = (reserved_below (reserved_of (pool_of queue)) tag low).kind in
          let none = subst (λ (k : Kind). Counts queue k 1 old new woken) is c in (none.0, as_it_was none.1)),
      (λ high. counts_grant 1 woken (subst (λ (k : Kind). Counts queue k 1 old new woken)
          (ordinary_above (reserved_of (pool_of queue)) tag high).kind c)),
    )
