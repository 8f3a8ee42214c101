-- All hands together: how many there can be, and the sums over their parts.
use Rattle.std.specs.Prelude.{◌<◌, ◌∷◌, ◌≡◌, ◌≢◌, ◌≤◌}
use Rattle.tag_queue.proofs.Uses.{[], All, AllPairs, ap, arith, Hand, le_prop, length, List, map, Ordinary, Queue, QueueHand, refl, sym, Teller, total, Waiter, ℕ, ◌∙◌}
use Rattle.std.proofs.Math.Logic.{∥∥₁_elim}
use Rattle.std.proofs.lemmas.List.{length-map}
use Rattle.std.proofs.lemmas.List.Elements.{All-map, All-weaker}
use Rattle.step_ledger.specs.Records.{numbers, sum_over}
use Rattle.tag_core.specs.Callers.{record_of}
use Rattle.tag_core.specs.Sizes.{total_of}
use Rattle.tag_core.specs.declared.record.Record.{Record}
use Rattle.tag_core.specs.declared.shape.Shape.{Shape}
use Rattle.tag_model.specs.declared.totals.Totals.{Totals}
use Rattle.tag_pool.specs.Gathering as pool
use Rattle.tag_pool.specs.Hands as tags
use Rattle.wake_book.specs.Balance.{IsBalanced}
use Rattle.wake_book.specs.Book as book
use Rattle.wake_book.specs.Booked.{IsBooked}
use Rattle.wake_book.specs.Charges.{added, taken}
use Rattle.wake_book.specs.Groups as groups
use Rattle.wake_book.specs.Waits.{moved_by}
use Rattle.wake_book.specs.declared.book.BookTotals.{BookTotals}
use Rattle.wake_book.specs.declared.groups.GroupTotals.{GroupTotals}
use Rattle.tag_queue.specs.Gathering.{IsGathered, shell_tellers, shell_waiters}
use Rattle.tag_queue.specs.Hands.{all_in_pool, hands_of, IsHandOf, number_of, numbers_of, pool_of, tellers_of, waiters_of}
use Rattle.tag_queue.specs.Parts.{shell_of}
use Rattle.tag_queue.proofs.Few.{few_distinct}

module _ {R : Type 0} where
  abbrev in_pool_of : Queue R → Hand R → Type 0
  in_pool_of queue = tags.IsHandOf (pool_of queue)

  number_low : (queue : Queue R) (hand : QueueHand R) → IsHandOf queue hand → number_of hand < hands_of queue
  number_low queue hand own = let caller = hand.inner.ordinary.caller in
      ∥∥₁_elim (caller.shown (record_of caller) caller.knows) le_prop
      (λ z. let low = z.known.number in let same = ap (λ (k : Shape). k.callers) own.0.1.1 in
      let is = hand.inner.ordinary.numbers in omega arith)

  -- there are at most as many hands with distinct numbers as the queue was opened for
  pub few_hands : (queue : Queue R) (hands : List (QueueHand R)) → All (IsHandOf queue) hands
      → AllPairs (λ a b. a ≢ b) (numbers_of hands) → length hands ≤ hands_of queue
  few_hands queue hands own differ =
      let long = length-map hands number_of in
      let low = All-map (λ n. n < hands_of queue) number_of hands
      (All-weaker (IsHandOf queue) (λ h. number_of h < hands_of queue) (number_low queue) hands own) in
      let few = few_distinct (numbers_of hands) (hands_of queue) differ low in omega arith

  -- all hands together moved at most as many waiters as they charged completions
  issued-le : (hands : List (QueueHand R)) → sum_over (total moved_by) (groups.records_of (waiters_of hands))
      ≤ sum_over (total taken) (book.records_of (tellers_of hands))
  issued-le [] = omega arith
  issued-le (a ∷ hands) = let rest = issued-le hands in let own = a.wakes in omega arith

  -- all hands together counted at most as many completions as they gave back ordinary tags
  counted-le : (hands : List (QueueHand R)) → sum_over (total added) (book.records_of (tellers_of hands))
      ≤ total_of (λ (r : Record R). r.back) (pool.records_of (all_in_pool hands) Ordinary)
  counted-le [] = omega arith
  counted-le (a ∷ hands) = let rest = counted-le hands in let own = a.counts in omega arith

  -- the hands of the pool, the tellers and the waiters have the numbers of the hands
  pub inner_numbers : (hands : List (QueueHand R)) → pool.numbers_of (all_in_pool hands) ≡ numbers_of hands
  inner_numbers [] = refl
  inner_numbers (a ∷ hands) = ap (λ (l : List ℕ). number_of a ∷ l) (inner_numbers hands)

  pub teller_numbers : (hands : List (QueueHand R)) → numbers_of hands ≡ numbers (book.records_of (tellers_of hands))
  teller_numbers [] = refl
  teller_numbers (a ∷ hands) = ap (λ (n : ℕ). n ∷ numbers_of hands) (sym a.numbers.0)
      ∙ ap (λ (l : List ℕ). book.number_of a.teller ∷ l) (teller_numbers hands)

  pub waiter_numbers : (hands : List (QueueHand R)) → numbers_of hands ≡ numbers (groups.records_of (waiters_of hands))
  waiter_numbers [] = refl
  waiter_numbers (a ∷ hands) = ap (λ (n : ℕ). n ∷ numbers_of hands) (sym a.numbers.1)
      ∙ ap (λ (l : List ℕ). groups.number_of a.waiter ∷ l) (waiter_numbers hands)

  -- the tellers and the waiters of the shells are those of the hands
  pub tellers_out : (hands : List (QueueHand R)) → shell_tellers (map shell_of hands) ≡ tellers_of hands
  tellers_out [] = refl
  tellers_out (a ∷ hands) = ap (λ (l : List Teller). a.teller ∷ l) (tellers_out hands)

  pub waiters_out : (hands : List (QueueHand R)) → shell_waiters (map shell_of hands) ≡ waiters_of hands
  waiters_out [] = refl
  waiters_out (a ∷ hands) = ap (λ (l : List Waiter). a.waiter ∷ l) (waiters_out hands)

  -- the parts of the hands belong to the parts of the queue
  pub inners_own : (queue : Queue R) (hands : List (QueueHand R)) → All (IsHandOf queue) hands
      → All (in_pool_of queue) (all_in_pool hands)
  inners_own queue hands own = All-map (in_pool_of queue) (λ h. h.inner) hands
      (All-weaker (IsHandOf queue) (λ h. in_pool_of queue h.inner) (λ h o. o.0) hands own)

  pub tellers_own : (queue : Queue R) (hands : List (QueueHand R)) → All (IsHandOf queue) hands
      → All (book.IsTellerOf queue.book) (tellers_of hands)
  tellers_own queue hands own = All-map (book.IsTellerOf queue.book) (λ h. h.teller) hands
      (All-weaker (IsHandOf queue) (λ h. book.IsTellerOf queue.book h.teller) (λ h o. o.1) hands own)

  pub waiters_own : (queue : Queue R) (hands : List (QueueHand R)) → All (IsHandOf queue) hands
      → All (groups.IsWaiterOf queue.groups) (waiters_of hands)
  waiters_own queue hands own = All-map (groups.IsWaiterOf queue.groups) (λ h. h.waiter) hands
      (All-weaker (IsHandOf queue) (λ h. groups.IsWaiterOf queue.groups h.waiter) (λ h o. o.2) hands own)

  -- the totals of the pool, the book and the groups make those of the queue
  pub gathers : (queue : Queue R) (hands : List (QueueHand R)) (t : Totals) (b : BookTotals) (g : GroupTotals)
      → pool.IsGathered (pool_of queue) (all_in_pool hands) t
      → IsBooked (book.limits_of queue.book) (book.records_of (tellers_of hands)) b
      → IsBalanced (groups.waiters_of queue.groups) (groups.records_of (waiters_of hands)) g
      → IsGathered queue hands (record { tags = t; book = b; groups = g })
  gathers queue hands t b g p tb tg =
      let issued = issued-le hands in let counted = counted-le hands in record {
        tags = p;
        book = tb;
        groups = tg;
        issued = (let x = tg.issued in let y = tb.taken in omega arith);
        charged = tb.within;
        counted = (let x = tb.counted in let y = p.ordinary_is.back in omega arith);
      }
