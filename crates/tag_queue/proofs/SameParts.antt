-- A hand of the queue with its own hand of the pool is the same hand.
use Rattle.std.specs.Prelude.{◌≡◌, ◌≤◌, IfErr, ⊤}
use Rattle.tag_queue.proofs.Uses.{Err, Hand, le_prop, Ok, OnErr, Ordinary, QueueHand, Result, subst, sym, ℕ, ℕ_set, ⊎_elim}
use Rattle.tag_pool.specs.Hands.{back_of, number_of}
use Rattle.tag_pool.specs.Slots.{Misses, RefusesTake}
use Rattle.tag_pool.specs.declared.fault.TagFault.{TagFault}
use Rattle.tag_pool.specs.declared.fault.TagFault.TheVariants.{NoSuchTag, NotPosted}
use Rattle.wake_book.specs.Book as book
use Rattle.wake_book.specs.Groups as groups
use Rattle.tag_queue.specs.Bell.{WaitsNowhere}

no_two : (a b : ⊥) → a ≡ b
no_two a b = absurd a

module _ {R : Type 0} (hand : QueueHand R) where
  -- the invariants of a hand, if this were its hand of the pool
  abbrev IsNumbered : Hand R → Type 0
  IsNumbered inner = (book.number_of hand.teller ≡ number_of inner) × (groups.number_of hand.waiter ≡ number_of inner)

  abbrev CountsSo : Hand R → Type 0
  CountsSo inner = book.counted_by hand.teller ≤ back_of inner Ordinary

  abbrev WakesSo : Type 0
  WakesSo = groups.moved_of hand.waiter ≤ book.charged_by hand.teller

  -- the hand with this one in the pool in place of its own
  abbrev with_inner : (inner : Hand R) → IsNumbered inner → CountsSo inner → WakesSo → WaitsNowhere inner → QueueHand R
  with_inner inner numbers counts wakes up = record {
    teller = hand.teller;
    waiter = hand.waiter;
    sighting = hand.sighting;
    announcement = hand.announcement;
    inner = inner;
    numbers = numbers;
    counts = counts;
    wakes = wakes;
    up = up;
  }

  -- with its own hand of the pool it is the same
  pub same_hand : (inner : Hand R) → inner ≡ hand.inner → (n : IsNumbered inner) (c : CountsSo inner) (w : WakesSo)
      (u : WaitsNowhere inner) → with_inner inner n c w u ≡ hand
  same_hand inner e = subst (λ (inner : Hand R). (n : IsNumbered inner) (c : CountsSo inner) (w : WakesSo)
      (u : WaitsNowhere inner) → with_inner inner n c w u ≡ hand) (sym e)
      (λ n c w u. λ j. with_inner hand.inner (
        ℕ_set _ _ n.0 hand.numbers.0 j,
        ℕ_set _ _ n.1 hand.numbers.1 j,
      ) (le_prop c hand.counts j) (le_prop w hand.wakes j) (λ kind now. no_two (u kind now) (hand.up kind now) j))

-- a call of the pool that is refused leaves its hand, and with it the hand of the queue
pub same_on_err : {R A F : Type 0} (hand : QueueHand R) (r : Result A F) (inner : Hand R) → OnErr r (inner ≡ hand.inner)
    → (n : IsNumbered hand inner) (c : CountsSo hand inner) (w : WakesSo hand) (u : WaitsNowhere inner)
    → OnErr r (with_inner hand inner n c w u ≡ hand)
same_on_err hand (Ok x) inner same n c w u = tt
same_on_err hand (Err f) inner same n c w u = same_hand hand inner same n c w u

-- a take that is refused for its number leaves the hand of the pool
unmoved : {R : Type 0} (tag : ℕ) (fault : TagFault) (old new : Hand R) → RefusesTake tag fault old new
    → fault ≡ NoSuchTag → new ≡ old
unmoved tag fault old new refuses is = ⊎_elim (λ (no : (fault ≡ NoSuchTag) × (new ≡ old)). no.1)
    (λ (missed : (fault ≡ NotPosted) × Misses tag old new). let other = missed.0 in cc) refuses

-- and with it the hand of the queue
pub same_on_no_tag : {R : Type 0} (hand : QueueHand R) (tag : ℕ) (r : Result ⊤ TagFault) (inner : Hand R)
    → IfErr r (λ fault. RefusesTake tag fault hand.inner inner)
    → (n : IsNumbered hand inner) (c : CountsSo hand inner) (w : WakesSo hand) (u : WaitsNowhere inner)
    → IfErr r (λ fault. (fault ≡ NoSuchTag) → with_inner hand inner n c w u ≡ hand)
same_on_no_tag hand tag (Ok x) inner refuses n c w u = tt
same_on_no_tag hand tag (Err fault) inner refuses n c w u = λ is.
    same_hand hand inner (unmoved tag fault hand.inner inner refuses is) n c w u
