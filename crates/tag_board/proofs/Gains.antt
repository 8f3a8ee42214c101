-- What each get does to the hand that makes it.
use Rattle.std.proofs.Common.{◌≡◌, ℕ, true, false, List, Bool, is_some, Option, Some, None, inl, ⊎_elim, refl, sym, ap, ◌∙◌, subst}
use Rattle.tag_board.proofs.Uses.{both_ways, cases_Bool, or_false, count_of, count_of_run, Visit, Hand, QueueHand, Kind, Ordinary, Pool, Queue, Reserved, Side, back_in_both, won_of, in_pool, pool_of, side_of, reserved_of, layout_of, hint_of, caller_of, SameCounts, HoldsMore, first_of, other_kind, holds, part_of, won, AsBefore, is_answer, is_in_run, IsOf, AloneBatch, AloneGets, AloneSet, AloneSets, plain, shallow, sets_in, state_of_all}
use Rattle.wake_book.specs.Groups.{standing_of as standing_in}
use Rattle.tag_pool.proofs.Numbering.{ordinary_at, reserved_at}
use Rattle.tag_pool.specs.Gets as gets
use Rattle.tag_pool.specs.Sides as side
use Rattle.tag_board.proofs.Only.{Alters}
use Rattle.tag_board.proofs.Holdings.{Names, holds_more}
use Rattle.tag_board.proofs.Tallies as tallies
use Rattle.tag_board.proofs.Handfuls.{part_ext, part_won, none_more}
use Rattle.tag_board.proofs.Naming.{names_answer, names_run}
use Rattle.tag_board.proofs.Waiters.{as_it_was}
use Rattle.tag_board.proofs.Effects.{Effect, counts_won}
use Rattle.tag_board.proofs.AloneCalls as alone

-- the number of tags answered, none or one, is that of the set's answer
same_count : (first : ℕ) (number : Option ℕ) → count_of (gets.whole first number) ≡ count_of number
same_count first None = refl
same_count first (Some n) = refl

same_run_count : (first : ℕ) (number : Option (ℕ × ℕ))
    → count_of_run (gets.whole_run first number) ≡ count_of_run number
same_run_count first None = refl
same_run_count first (Some run) = refl

-- a tag of the pool is one of the board
kind_there : (queue : Queue ℕ) (hands : List (QueueHand ℕ)) (kind : Kind) (tag : ℕ)
    → gets.IsTagIn (pool_of queue) kind tag → IsOf (state_of_all queue hands) kind tag
kind_there queue hands Ordinary tag is = ((ordinary_at (reserved_of (pool_of queue)) tag is.1).above, is.0)
kind_there queue hands Reserved tag is = (reserved_at (reserved_of (pool_of queue)) tag is.1).below

-- the hand gained the named tags, n of this set, which are the only ones that it won
pub record Gained (queue : Queue ℕ) (hands : List (QueueHand ℕ)) (kind : Kind) (named : ℕ → Bool) (Is : ℕ → Type 0)
    (n : ℕ) (alters : AloneSets → AloneSets → Type 0) (old new : QueueHand ℕ) : Type 0 where
  pub names : Names named Is
  pub more : HoldsMore Is (in_pool old) (in_pool new)
  pub there : (tag : ℕ) → Is tag → IsOf (state_of_all queue hands) kind tag
  pub effect : Effect queue (won kind named n) AsBefore alters old new

module _ (queue : Queue ℕ) (old new : QueueHand ℕ) where
  abbrev pool : Pool ℕ
  pool = pool_of queue

  abbrev before : Hand ℕ
  before = in_pool old

  abbrev after : Hand ℕ
  after = in_pool new

  -- a search in one set won n tags, and these are the named ones
  won_effect : (kind : Kind) (named : ℕ → Bool) (Is : ℕ → Type 0) → Names named Is → (n m : ℕ) → n ≡ m
      → tallies.Tallies m 0 (side_of before kind) (side_of after kind) → SameCounts old new
      → side_of after (other_kind kind) ≡ side_of before (other_kind kind) → HoldsMore Is before after
      → (alters : AloneSets → AloneSets → Type 0) → Alters pool alters before after
      → Effect queue (won kind named n) AsBefore alters old new
  won_effect kind named Is names n m same counted counts other more alters sets =
      counts_won queue old new kind n
      (subst (λ (k : ℕ). tallies.Tallies k 0 (side_of before kind) (side_of after kind)) (sym same) counted) counts
      other
      (λ t. part_won old new kind named n t (holds_more before after named Is names more)) sets

  module _ (hands : List (QueueHand ℕ)) where
    -- the same for a search for one tag, whose visits follow from the set
    searched : (kind : Kind) (visits : AloneSet → List Visit)
        (search : Option ℕ → Side ℕ → Side ℕ → Type 0) (answer : Option ℕ)
        → gets.GetsBy pool kind search answer before after
        → ((number : Option ℕ) → search number (side_of before kind) (side_of after kind)
        → side.Searches (layout_of pool kind) (visits (sets_in pool before kind)) number (caller_of before kind)
        (caller_of after kind) (hint_of before kind) (hint_of after kind))
        → SameCounts old new
        → Gained queue hands kind (is_answer answer) (gets.IsAnswer answer) (count_of answer)
        (AloneGets kind visits answer) old new
    searched kind visits search answer g searches counts =
        let s = searches g.number g.set.changed in
        let first : ℕ = first_of (reserved_of pool) kind in record {
          names = names_answer answer;
          more = g.more;
          there = λ tag is. kind_there queue hands kind tag (g.tag tag is);
          effect = won_effect kind (is_answer answer) (gets.IsAnswer answer) (names_answer answer) (count_of answer)
              (count_of g.number) (ap count_of g.answer_is ∙ same_count first g.number)
              (tallies.searches _ _ _ _ g.number s) counts g.set.other g.more (AloneGets kind visits answer)
              (alone.finds pool before after kind visits g.number answer
              (g.answer_is ∙ ap (λ (r : ℕ). gets.whole (first_of r kind) g.number) (sym pool.reserved_is)) s
              g.set.other);
        }

    pub get_gains : (kind : Kind) (answer : Option ℕ) → gets.Gets pool kind answer before after → SameCounts old new
        → Gained queue hands kind (is_answer answer) (gets.IsAnswer answer) (count_of answer)
        (AloneGets kind plain answer) old new
    get_gains kind answer g counts = searched kind plain _ answer g (λ number s. s.searches) counts

    pub shallow_gains : (depth : ℕ) (answer : Option ℕ) → gets.GetsShallow pool depth answer before after
        → SameCounts old new
        → Gained queue hands Ordinary (is_answer answer) (gets.IsAnswer answer) (count_of answer)
        (AloneGets Ordinary (shallow depth) answer) old new
    shallow_gains depth answer g counts = searched Ordinary (shallow depth) _ answer g (λ number s. s.searches) counts

    -- under round robin a batch has no tags, and the hand is unchanged
    pub batch_gains : (n : ℕ) (answer : Option (ℕ × ℕ))
        → ((hint_of before Ordinary).round_robin ≡ true → (answer ≡ None) × (after ≡ before))
        → ((hint_of before Ordinary).round_robin ≡ false → gets.GetsBatch pool n answer before after)
        → SameCounts old new
        → Gained queue hands Ordinary (is_in_run answer) (gets.IsInRun answer) (count_of_run answer)
        (AloneBatch n answer) old new
    batch_gains n answer around straight counts = ⊎_elim
        (λ (t : (hint_of before Ordinary).round_robin ≡ true). let none = around t in
        subst (λ (a : Option (ℕ × ℕ)). Gained queue hands Ordinary (is_in_run a) (gets.IsInRun a) (count_of_run a)
        (AloneBatch n a) old new) (sym none.0) record {
          names = names_run None;
          more = subst (λ (h : Hand ℕ). HoldsMore (gets.IsInRun None) before h) (sym none.1) record {
            fresh = λ tag is. absurd is;
            joined = λ tag is. absurd is;
            kept = λ tag h. (h, refl);
            none_else = λ tag h. inl h;
          };
          there = λ tag is. absurd is;
          effect = record {
            part = part_ext (part_of new) (won Ordinary (is_in_run None) 0 (part_of old))
                (λ tag. ap (λ (h : Hand ℕ). holds h tag) none.1 ∙ sym (or_false (holds before tag)))
                (λ kind. ap (λ (h : Hand ℕ). won_of h kind) none.1
                ∙ sym (none_more Ordinary (part_of old).won kind)) (ap back_in_both none.1)
                (ap (λ w. is_some (standing_in w)) counts.1)
                (ap (λ (h : Hand ℕ). (hint_of h Ordinary).round_robin) none.1);
            waiter = as_it_was old new counts;
            sets = alone.finds_run pool before after n None (λ i. (refl, none.1))
                (λ f. absurd (both_ways (hint_of before Ordinary).round_robin f t));
          };
        })
        (λ (f : (hint_of before Ordinary).round_robin ≡ false). let g = straight f in record {
          names = names_run answer;
          more = g.more;
          there = λ tag is. kind_there queue hands Ordinary tag (g.tags tag is);
          effect = won_effect Ordinary (is_in_run answer) (gets.IsInRun answer) (names_run answer)
              (count_of_run answer) (count_of_run g.number)
              (ap count_of_run g.answer_is ∙ same_run_count (reserved_of pool) g.number)
              (tallies.gets_batch _ _ _ n g.number g.set.changed) counts g.set.other g.more
              (AloneBatch n answer) (alone.finds_run pool before after n answer around straight);
        })
        (cases_Bool (hint_of before Ordinary).round_robin)
