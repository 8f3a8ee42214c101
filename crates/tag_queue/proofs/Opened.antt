-- The parts of a new queue fit together, and its hands are new.
use Rattle.std.specs.Prelude.{◌+◌, ◌≡◌, IfOk}
use Rattle.tag_queue.proofs.Uses.{All, ap, arith, Err, get_elem?, GroupStep, Hand, length, List, map, moved_by, Ok, Ordinary, Pool, Queue, QueueHand, refl, Reserved, Result, some, subst, suc, sym, Teller, total, Waiter, zero, ℕ, ◌∙◌}
use Rattle.std.proofs.Common.{get_or}
use Rattle.std.proofs.lemmas.List.{get_or-map, length-map}
use mathlib.Core.Option.{some-injective, some-ne-none}
use Rattle.atomic_table.proofs.Lists.{at_map}
use Rattle.step_ledger.specs.Records.{fresh, fresh_record}
use Rattle.step_ledger.specs.declared.record.Record.{Record}
use Rattle.tag_core.proofs.Entries.{all_at, entry_or}
use Rattle.tag_core.specs.declared.record.Record as tags
use Rattle.tag_core.specs.declared.step.Step.{Step}
use Rattle.tag_core.specs.Waits.{IsIn}
use Rattle.tag_pool.specs.Hands as pool
use Rattle.tag_pool.specs.Opening as pool_opening
use Rattle.tag_pool.specs.declared.options.Options.{Options}
use Rattle.wake_book.specs.Book as book
use Rattle.wake_book.specs.Charges.{added}
use Rattle.wake_book.specs.Groups as groups
use Rattle.wake_book.specs.declared.book.Book.{Book}
use Rattle.wake_book.specs.declared.groups.Groups.{Groups}
use Rattle.wake_book.specs.declared.steps.BookStep.{BookStep}
use Rattle.tag_queue.specs.Hands.{all_in_pool, in_pool, pool_of, teller_of, waiter_of}
use Rattle.tag_queue.specs.Opening.{AreFresh, HasCounts, IsFresh, IsOpenWith}
use Rattle.tag_queue.specs.Parts.{AreParts, FitTogether}

fresh_length : (T : Type 0) (c n : ℕ) → length (fresh {T = T} c n) ≡ n
fresh_length T c zero = refl
fresh_length T c (suc n) = ap suc (fresh_length T (suc c) n)

module _ {T : Type 0} where
  fresh_at : (c n i : ℕ) (r : Record T) → get_elem? (fresh c n) i ≡ some r → r ≡ fresh_record (c + i)
  fresh_at c zero i r e = absurd (some-ne-none r (sym e))
  fresh_at c (suc n) zero r e = sym (some-injective (fresh_record c) r e)
      ∙ ap fresh_record (let z : c ≡ c + 0 = omega arith in z)
  fresh_at c (suc n) (suc i) r e = fresh_at (suc c) n i r e
      ∙ ap fresh_record (let z : suc c + i ≡ c + suc i = omega arith in z)

  -- there are as many members as fresh records
  pub fresh_count : {A : Type 0} (f : A → Record T) (xs : List A) (n : ℕ) → map f xs ≡ fresh 0 n → length xs ≡ n
  fresh_count f xs n e = sym (length-map xs f) ∙ ap length e ∙ fresh_length T 0 n

  member_is : {A : Type 0} (f : A → Record T) (xs : List A) (n i : ℕ) (x : A) → map f xs ≡ fresh 0 n
      → get_elem? xs i ≡ some x → f x ≡ fresh_record i
  member_is f xs n i x all e = fresh_at 0 n i (f x) (subst (λ (l : List (Record T)). get_elem? l i
      ≡ some (f x)) all (at_map f xs i x e))
      ∙ ap fresh_record (let z : 0 + i ≡ i = omega arith in z)

-- what holds of all images holds of the image of each entry
pub all-map : {A B : Type 0} (P : B → Type 0) (f : A → B) (xs : List A) → All P (map f xs) → All (λ x. P (f x)) xs
all-map P f xs h k d l = subst P (get_or-map f xs k d (f d) l) (h k (f d) (let z = length-map xs f in omega arith))

-- what holds of a success together with what else does
pub both_ok : {A E : Type 0} (r : Result A E) (P Q S : A → Type 0) → ((x : A) → P x → Q x → S x) → IfOk r P → IfOk r Q
    → IfOk r S
both_ok (Ok x) P Q S then p q = then x p q
both_ok (Err f) P Q S then p q = tt

module _ {R : Type 0} where
  -- the parts of a new queue fit together
  pub fit_new : (options : Options) (of : Pool R) (inners : List (Hand R)) (b : Book) (tellers : List Teller)
      (s : Groups) (waiters : List Waiter) (batch cap : ℕ) → AreFresh options of inners
      → book.IsOpenBook batch options.hands cap b tellers → groups.AreOpenGroups options.hands s waiters → FitTogether inners tellers waiters
  fit_new options of inners b tellers s waiters batch cap new opened stands n x t w ex et ew =
      let t_is = member_is book.record_of tellers options.hands n t opened.fresh_all et in
      let w_is = member_is groups.record_of waiters options.hands n w stands.fresh_all ew in
      let none_counted : book.counted_by t ≡ 0 = ap (λ (r : Record BookStep). total added r.steps) t_is in
      let none_moved : groups.moved_of w ≡ 0 = ap (λ (r : Record GroupStep). total moved_by r.steps) w_is in
      let number = new.ordered n x ex in
      let none : IsFresh x = all_at IsFresh inners new.fresh n x ex in (
        record {
          teller_is = ap (λ (r : Record BookStep). r.number) t_is ∙ sym number;
          waiter_is = ap (λ (r : Record GroupStep). r.number) w_is ∙ sym number;
          counts = omega arith;
          wakes = omega arith;
          up = λ kind now. subst (λ (steps : List (Step R)). IsIn steps) (none kind) now;
        },
        ap (λ (r : Record GroupStep). r.steps) w_is,
      )

  -- and its hands belong to it
  pub own_all : (of : Pool R) (b : Book) (s : Groups) (hands : List (QueueHand R)) (inners : List (Hand R))
      (tellers : List Teller) (waiters : List Waiter) → AreParts hands inners tellers waiters
      → All (pool.IsHandOf of) inners → All (book.IsTellerOf b) tellers → All (groups.IsWaiterOf s) waiters
      → All (λ (h : QueueHand R). pool.IsHandOf of (in_pool h) × book.IsTellerOf b (teller_of h)
      × groups.IsWaiterOf s (waiter_of h)) hands
  own_all of b s hands inners tellers waiters parts c t w k d l = (
    all-map (pool.IsHandOf of) in_pool hands (subst (All (pool.IsHandOf of)) (sym parts.inners_are) c) k d l,
    all-map (book.IsTellerOf b) teller_of hands (subst (All (book.IsTellerOf b)) (sym parts.tellers_are) t) k d l,
    all-map (groups.IsWaiterOf s) waiter_of hands (subst (All (groups.IsWaiterOf s)) (sym parts.waiters_are) w) k d l,
  )

  module _ (HasStart : Options → Pool R → Hand R → Type 0) (options : Options) (of : Pool R) (inners : List (Hand R))
      (opened : pool_opening.IsOpenWith HasStart options of inners) where
    new_steps : (n : ℕ) (x : Hand R) → get_elem? inners n ≡ some x → IsFresh x
    new_steps n x e Ordinary = ap (λ (r : tags.Record R). r.steps)
        (opened.ordinary.callers.each n (pool_opening.ordinary_part x)
        (at_map pool_opening.ordinary_part inners n x e)).1
    new_steps n x e Reserved = ap (λ (r : tags.Record R). r.steps)
        (opened.reserved.callers.each n (pool_opening.reserved_part x)
        (at_map pool_opening.reserved_part inners n x e)).1

    -- the hands of a new pool are fresh
    pub fresh_hands : AreFresh options of inners
    fresh_hands = record {
      few = (let few = of.ordinary.few in let is = opened.ordinary.tags.callers_is in (omega arith, omega arith));
      hands_are = opened.ordinary.tags.callers_is;
      count = opened.count;
      own = opened.own;
      fresh = λ k d l. new_steps k (get_or inners k d) (entry_or inners k d l);
      ordered = opened.ordered;
    }

    -- with a new book and new groups it makes a new queue
    pub opens : (cap : ℕ) (queue : Queue R) (hands : List (QueueHand R)) → pool_of queue ≡ of
        → all_in_pool hands ≡ inners → HasCounts options cap queue hands → IsOpenWith HasStart options cap queue hands
    opens cap queue hands same parts counts = record {
      pool = subst (λ (z : Pool R × List (Hand R)). pool_opening.IsOpenWith HasStart options z.0 z.1)
          (λ j. (sym same j, sym parts j)) opened;
      counts = counts;
      none_held = all-map pool_opening.HoldsNone in_pool hands
          (subst (All pool_opening.HoldsNone) (sym parts) opened.none_held);
      count = sym (length-map hands in_pool) ∙ ap (λ (l : List (Hand R)). length l) parts ∙ opened.count;
      ordered = λ n hand e. opened.ordered n (in_pool hand)
          (subst (λ (l : List (Hand R)). get_elem? l n ≡ some (in_pool hand)) parts (at_map in_pool hands n hand e));
    }
