-- Hands whose hands of the pool were taken out, and were returned or moved to a resized pool.
use Rattle.std.specs.Prelude.{◌≡◌}
use Rattle.tag_queue.proofs.Uses.{[], All, ap, arith, get_elem?, Hand, length, List, map, Ordinary, Pool, Queue, QueueHand, Reserved, some, subst, sym, ℕ, ◌∙◌}
use Rattle.std.proofs.lemmas.List.{length-map}
use Rattle.std.proofs.lemmas.List.Elements.{All-map}
use Rattle.atomic_table.proofs.Lists.{at_map}
use Rattle.step_ledger.proofs.Seats.{within}
use Rattle.tag_core.proofs.Entries.{entry}
use mathlib.Core.Option.{some-injective}
use Rattle.tag_core.specs.Waits.{IsIn}
use Rattle.tag_core.specs.Callers.{record_of}
use Rattle.tag_core.specs.declared.caller.Caller.{Caller}
use Rattle.tag_core.specs.declared.record.Record.{Record}
use Rattle.tag_core.specs.declared.step.Step.{Step}
use Rattle.tag_pool.specs.Hands as tags
use Rattle.tag_pool.specs.Hands.{back_of, caller_of, number_of}
use Rattle.tag_pool.specs.Resizing as resizing
use Rattle.tag_pool.specs.Using as using
use Rattle.wake_book.specs.Book as book
use Rattle.wake_book.specs.Groups as groups
use Rattle.wake_book.specs.declared.book.Book.{Book}
use Rattle.wake_book.specs.declared.groups.Groups.{Groups}
use Rattle.tag_queue.specs.Bell.{WaitsNowhere}
use Rattle.tag_queue.specs.Hands.{all_in_pool, AreUnchanged, IsHandOf, in_pool, teller_of, tellers_of, waiter_of, waiters_of}
use Rattle.tag_queue.specs.Parts.{Fits, FitShells, shell_of}
use Rattle.tag_queue.specs.declared.room.Shell.{Shell}
use Rattle.tag_queue.proofs.Gathering.{tellers_out, waiters_out}
use Rattle.tag_queue.proofs.Opened.{all-map}

module _ {R : Type 0} where
  -- the hand of the pool can take the place of another
  pub record Serves (old new : Hand R) : Type 0 where
    pub number : number_of new ≡ number_of old
    pub back : back_of new Ordinary ≡ back_of old Ordinary
    pub up : WaitsNowhere old → WaitsNowhere new

  -- so can each of these
  pub record EachServes (olds news : List (Hand R)) : Type 0 where
    pub count : length news ≡ length olds
    pub each : (n : ℕ) (a b : Hand R) → get_elem? olds n ≡ some a → get_elem? news n ≡ some b → Serves a b

  -- hands that are unchanged serve
  pub serve_unchanged : (olds news : List (Hand R)) → using.AreUnchanged olds news → EachServes olds news
  serve_unchanged olds news same = record {
    count = same.count;
    each = λ n a b p q. let u = (same.each n a b p q).sets Ordinary in record {
      number = sym b.ordinary.numbers ∙ ap (λ (r : Record R). r.number) u.caller.known ∙ a.ordinary.numbers;
      back = ap (λ (r : Record R). r.back) u.caller.known;
      up = λ up kind now.
          up kind (subst (λ (r : Record R). IsIn r.steps) ((same.each n a b p q).sets kind).caller.known now);
    };
  }

  -- so do hands that moved to a resized pool
  pub serve_resized : (old new : Pool R) (olds news : List (Hand R)) (total : ℕ)
      → resizing.IsResized old olds total new news → EachServes olds news
  serve_resized old new olds news total is = record {
    count = sym (length-map news ordinary) ∙ is.ordinary.callers.count ∙ length-map olds ordinary;
    each = λ n a b p q.
        let known = (is.ordinary.callers.each n (ordinary a) (ordinary b) (at_map ordinary olds n a p)
        (at_map ordinary news n b q)).1 in
        let kept = (is.reserved_callers.each n (reserved a) (reserved b) (at_map reserved olds n a p)
        (at_map reserved news n b q)).known in record {
          number = sym b.ordinary.numbers ∙ ap (λ (r : Record R). r.number) known ∙ a.ordinary.numbers;
          back = ap (λ (r : Record R). r.back) known;
          up = still_up a b (ap (λ (r : Record R). r.steps) known) kept;
        };
  }
    where
      ordinary : Hand R → Caller R
      ordinary hand = caller_of hand Ordinary

      reserved : Hand R → Caller R
      reserved hand = caller_of hand Reserved

      -- its new caller of the ordinary set has made no step, and the other is unchanged
      still_up : (a b : Hand R) → (record_of (ordinary b)).steps ≡ [] → record_of (reserved b) ≡ record_of (reserved a)
          → WaitsNowhere a → WaitsNowhere b
      still_up a b none kept up Ordinary = λ now. subst (λ (s : List (Step R)). IsIn s) none now
      still_up a b none kept up Reserved = λ now. up Reserved (subst (λ (r : Record R). IsIn r.steps) kept now)

  module _ (hands : List (QueueHand R)) (inners moved : List (Hand R)) (shells : List (Shell R))
      (out : inners ≡ all_in_pool hands) (rest : shells ≡ map shell_of hands) (serves : EachServes inners moved) where
    -- a hand of the pool that serves fits the shell of its hand
    pub fit_again : FitShells moved shells
    fit_again = record {
      long = serves.count ∙ ap (λ (l : List (Hand R)). length l) out ∙ length-map hands in_pool
          ∙ sym (length-map hands shell_of) ∙ ap (λ (l : List (Shell R)). length l) (sym rest);
      each = λ n inner shell p q.
          let low = within moved n inner p in let long = serves.count in
          let parts = ap (λ (l : List (Hand R)). length l) out in let map = length-map hands in_pool in
          let hand = entry hands n (omega arith) in
          let own : get_elem? inners n ≡ some (in_pool hand.0) =
          subst (λ (l : List (Hand R)). get_elem? l n ≡ some (in_pool hand.0)) (sym out)
          (at_map in_pool hands n hand.0 hand.1) in
          let is : shell_of hand.0 ≡ shell = some-injective (shell_of hand.0) shell
          (sym (at_map shell_of hands n hand.0 hand.1) ∙ ap (λ (l : List (Shell R)). get_elem? l n) (sym rest) ∙ q) in
          let s = serves.each n (in_pool hand.0) inner own p in
          subst (λ (z : Shell R). Fits inner z.teller z.waiter) is (record {
            teller_is = hand.0.numbers.0 ∙ sym s.number;
            waiter_is = hand.0.numbers.1 ∙ sym s.number;
            counts = (let counts = hand.0.counts in let back = s.back in omega arith);
            wakes = hand.0.wakes;
            up = s.up hand.0.up;
          });
    }

    module _ (news : List (QueueHand R)) (made : all_in_pool news ≡ moved) (kept : map shell_of news ≡ shells) where
      -- the hands put together again have their tellers and waiters
      pub tellers_same : tellers_of news ≡ tellers_of hands
      tellers_same = sym (tellers_out news)
          ∙ ap (λ (l : List (Shell R)). map (λ (s : Shell R). s.teller) l) (kept ∙ rest)
          ∙ tellers_out hands

      pub waiters_same : waiters_of news ≡ waiters_of hands
      waiters_same = sym (waiters_out news)
          ∙ ap (λ (l : List (Shell R)). map (λ (s : Shell R). s.waiter) l) (kept ∙ rest)
          ∙ waiters_out hands

      -- and belong to the queue if their hands of the pool belong to its pool
      pub own_again : (queue : Queue R) (of : Pool R) (b : Book) (s : Groups) → All (IsHandOf queue) hands
          → b.table ≡ queue.book.table → s ≡ queue.groups → All (tags.IsHandOf of) moved
          → All (λ (h : QueueHand R). tags.IsHandOf of (in_pool h) × book.IsTellerOf b (teller_of h)
          × groups.IsWaiterOf s (waiter_of h)) news
      own_again queue of b s own same_book same_groups moved_own k d l = (
        all-map (tags.IsHandOf of) in_pool news (subst (All (tags.IsHandOf of)) (sym made) moved_own) k d l,
        all-map (book.IsTellerOf b) teller_of news (subst (All (book.IsTellerOf b)) (sym tellers_same)
            (All-map (book.IsTellerOf b) teller_of hands
            (λ i e low. (own i e low).1 ∙ sym (table_id same_book)))) k d l,
        all-map (groups.IsWaiterOf s) waiter_of news (subst (All (groups.IsWaiterOf s)) (sym waiters_same)
            (All-map (groups.IsWaiterOf s) waiter_of hands
            (λ i e low. (own i e low).2 ∙ ap (λ (g : Groups). g.table.shared.table_id) (sym same_groups)))) k d l,
      )
        where
          table_id : b.table ≡ queue.book.table → b.table.shared.table_id ≡ queue.book.table.shared.table_id
          table_id same j = (same j).shared.table_id

      -- hands of the pool that are unchanged make hands that are
      pub unchanged_again : using.AreUnchanged inners moved → AreUnchanged hands news
      unchanged_again same = record {
        count = sym (length-map news in_pool) ∙ ap (λ (l : List (Hand R)). length l) made ∙ same.count
            ∙ ap (λ (l : List (Hand R)). length l) out ∙ length-map hands in_pool;
        each = λ n a b p q. record {
          pool = same.each n (in_pool a) (in_pool b)
              (subst (λ (l : List (Hand R)). get_elem? l n ≡ some (in_pool a)) (sym out) (at_map in_pool hands n a p))
              (subst (λ (l : List (Hand R)). get_elem? l n ≡ some (in_pool b)) made (at_map in_pool news n b q));
          counts = (
            same_at teller_of hands news n a b tellers_same p q,
            same_at waiter_of hands news n a b waiters_same p q,
          );
        };
      }
        where
          same_at : {B : Type 0} (f : QueueHand R → B) (xs ys : List (QueueHand R)) (n : ℕ) (x y : QueueHand R)
              → map f ys ≡ map f xs → get_elem? xs n ≡ some x → get_elem? ys n ≡ some y → f y ≡ f x
          same_at {B} f xs ys n x y same p q = some-injective (f y) (f x)
              (sym (at_map f ys n y q) ∙ ap (λ (l : List B). get_elem? l n) same ∙ at_map f xs n x p)
