-- What a plain get and the look for waiters after it come to together.
use Rattle.std.specs.Prelude.{◌≡◌}
use Rattle.tag_queue.proofs.Uses.{ap, Gets, GetsPlain, in_pool, Option, Ordinary, Pool, QueueHand, standing_of, subst, sym, teller_of, waiter_of, ℕ, ◌∙◌}
use Rattle.wake_book.specs.Groups as groups

-- the hand as it was before
abbrev pub began : {R : Type 0} {pool : Pool R} {answer : Option ℕ} {old new : QueueHand R} → GetsPlain pool answer old new
    → QueueHand R
began {old = old} made = old

module _ {R : Type 0} (pool : Pool R) (answer : Option ℕ) (old new : QueueHand R) (made : GetsPlain pool answer old new) where
  -- the look does nothing in the pool, so what happened there is the get
  pub searched_plain : Gets pool Ordinary answer (in_pool old) (in_pool new)
  searched_plain = subst (Gets pool Ordinary answer (in_pool old)) (sym made.looks.same.0) made.gets

  -- neither counts a completion
  pub counted_none : teller_of new ≡ teller_of old
  counted_none = made.looks.same.1 ∙ made.counts.0

  -- neither enters or leaves a group
  pub stood_still : standing_of new ≡ standing_of old
  stood_still = made.looks.stands.1 ∙ ap groups.standing_of made.counts.1

  -- nor does either change the group that the waiter enters next
  pub indexed_alike : groups.wait_index_of (waiter_of new) ≡ groups.wait_index_of (waiter_of old)
  indexed_alike = made.looks.stands.2 ∙ ap groups.wait_index_of made.counts.1
