-- What each call but a get does to the hand that makes it.
use Rattle.std.proofs.Common.{◌≡◌, ℕ, ◌+◌, nat_eq, true, false, List, length, Bool, None, is_some, Ok, Err, ap, ◌∙◌, arith}
use Rattle.tag_board.proofs.Uses.{Hand, QueueHand, Kind, Ordinary, Reserved, Shown, Pool, Queue, in_pool, IsHandOf, pool_of, split_of, reserved_of, layout_of, standing_of, group_waiter_of, SameCounts, SameTags, NotPosted, back_of, kind_of, number_in_set, Left, part_of, waiter_of, joined, parted, cleared, standing, is_in_list, Waiter, GrantsFor, GrantsForTag, terms_of, Enters, Leaves, sets_in, AloneClearsList, AloneDumps, AloneListsBusy, AloneShows, AloneTakes, AsBefore, as_before, ChangesTag, put_back, post_in}
use Rattle.std.specs.Prelude.{Contains}
use Rattle.wake_book.specs.Book as book
use Rattle.wake_book.specs.Groups.{LeavesAs, wait_index_of, standing_of as standing_in}
use Rattle.tag_pool.specs.Batches as batches
use Rattle.tag_pool.specs.Busy as busy
use Rattle.tag_pool.specs.Clears as clears
use Rattle.tag_pool.specs.Dumps as dumps
use Rattle.tag_pool.specs.Shows as shows
use Rattle.tag_pool.specs.Slots as slots
use Rattle.tag_queue.specs.Clears.{Counts, CountsInGroups}
use Rattle.tag_queue.specs.Hands.{cap_of}
use Rattle.tag_queue.specs.Waits as waits
use Rattle.tag_board.proofs.Holdings.{holds_more, holds_less, holds_same}
use Rattle.tag_board.proofs.Tallies as tallies
use Rattle.tag_board.proofs.Handfuls.{as_won, hand_tallies, none_back, part_cleared, part_ext, part_holding, part_standing}
use Rattle.tag_board.proofs.Waiters.{as_it_was, clear_grants, counts_grant}
use Rattle.tag_board.proofs.Naming.{names_one, names_list}
use Rattle.tag_board.proofs.AloneCalls as alone
use Rattle.tag_board.proofs.Effects.{Effect, stands_there, counts_won, looked}

module _ (queue : Queue ℕ) (old new : QueueHand ℕ) (own : IsHandOf queue old) where
  abbrev pool : Pool ℕ
  pool = pool_of queue

  abbrev before : Hand ℕ
  before = in_pool old

  abbrev after : Hand ℕ
  after = in_pool new

  pub clear_does : (callers tag woken : ℕ) → clears.Clears pool tag before after
      → Counts queue (kind_of (reserved_of pool) tag) 1 old new woken
      → Effect queue (cleared (nat_eq tag) 1) (GrantsForTag (terms_of queue callers) tag woken)
      (ChangesTag put_back tag) old new
  clear_does callers tag woken c counts =
      let kind = kind_of (split_of before) tag in let number : ℕ = number_in_set (split_of before) tag in
      record {
        part = part_cleared old new kind (nat_eq tag) 1 record {
          counts = hand_tallies before after kind 0 1 (tallies.puts _ _ _ number c.set.changed) c.set.other;
          stands = stands_there queue old new (kind_of (reserved_of pool) tag) 1 woken counts;
        } (holds_less before after (nat_eq tag) (λ other. other ≡ tag) (names_one tag) c.less);
        waiter = clear_grants old new queue callers tag woken counts;
        sets = alone.puts pool before after own.0 tag c;
      }

  pub list_does : (list : List ℕ) (woken : ℕ) → batches.GivesBack pool list before after
      → back_of after Ordinary ≡ back_of before Ordinary + length list
      → CountsInGroups queue (length list) old new woken
      → Effect queue (cleared (is_in_list list) (length list)) (GrantsFor (cap_of queue) (length list) woken)
      (AloneClearsList list) old new
  list_does list woken g back counts = record {
    part = part_cleared old new Ordinary (is_in_list list) (length list) record {
      counts = hand_tallies before after Ordinary 0 (length list)
          (tallies.gives _ _ _ _ (length list) back g.set.changed) g.set.other;
      stands = counts.stands.1;
    } (holds_less before after (is_in_list list) (Contains list) (names_list list) g.less);
    waiter = counts_grant old new queue (length list) woken counts;
    sets = alone.gives pool before after own.0 list g;
  }

  pub post_does : (tag : ℕ) → slots.Posts tag 0 before after → SameCounts old new
      → Effect queue (parted (nat_eq tag)) AsBefore (ChangesTag post_in tag) old new
  post_does tag p counts = counts_won queue old new (kind_of (split_of before) tag) 0
      (tallies.posts _ _ (number_in_set (split_of before) tag) 0 p.set.changed) counts p.set.other
      (λ t. part_holding old new (kind_of (split_of before) tag) t
      (holds_less before after (nat_eq tag) (λ other. other ≡ tag) (names_one tag) p.less))
      (alone.posts pool before after own.0 tag p)

  pub take_does : (tag : ℕ) → slots.Takes tag before after → SameCounts old new
      → Effect queue (joined (nat_eq tag)) AsBefore (λ v. AloneTakes tag v (Ok tt)) old new
  take_does tag m counts = counts_won queue old new (kind_of (split_of before) tag) 0
      (tallies.takes _ _ (number_in_set (split_of before) tag) m.set.changed) counts m.set.other
      (λ t. part_holding old new (kind_of (split_of before) tag) t
      (holds_more before after (nat_eq tag) (λ other. other ≡ tag) (names_one tag) m.more))
      (alone.takes pool before after own.0 tag m)

  -- a take that finds no tag changes nothing
  pub miss_does : (tag : ℕ) → slots.Misses tag before after → SameCounts old new
      → Effect queue as_before AsBefore (λ v. AloneTakes tag v (Err NotPosted)) old new
  miss_does tag m counts = counts_won queue old new (kind_of (split_of before) tag) 0
      (tallies.misses _ _ (number_in_set (split_of before) tag) m.set.changed) counts m.set.other
      (λ t. part_holding old new (kind_of (split_of before) tag) t (holds_same before after m.same))
      (alone.misses pool before after own.0 tag m)

module _ (queue : Queue ℕ) (old new : QueueHand ℕ) where
  pub show_does : (kind : Kind) (shown : Shown) → shows.Shows (pool_of queue) kind shown (in_pool old) (in_pool new)
      → SameCounts old new → Effect queue as_before AsBefore (λ v. AloneShows kind v shown) old new
  show_does kind shown s counts = looked queue old new s.around counts
      (alone.counts (pool_of queue) (in_pool old) (in_pool new) kind shown s)

  pub dump_does : (kind : Kind) (bytes : List ℕ)
      → dumps.Packs (layout_of (pool_of queue) kind) kind bytes (in_pool old) (in_pool new) → SameCounts old new
      → Effect queue as_before AsBefore (λ v. AloneDumps kind v bytes) old new
  dump_does kind bytes p counts = looked queue old new p.around counts
      (alone.packs (pool_of queue) (in_pool old) (in_pool new) kind bytes p)

  -- the reserved set is looked at first, then the ordinary one
  pub busy_does : (bits : List ℕ) (count : ℕ) → busy.ListsBusy (pool_of queue) bits count (in_pool old) (in_pool new)
      → SameCounts old new → Effect queue as_before AsBefore (λ v. AloneListsBusy v bits) old new
  busy_does bits count l counts =
      let before : Hand ℕ = in_pool old in let after : Hand ℕ = in_pool new in
      let first = hand_tallies before l.between Reserved 0 0 (tallies.finds _ _ l.reserved l.first.looks.changed)
      l.first.looks.other in
      let second = hand_tallies l.between after Ordinary 0 0 (tallies.finds _ _ l.ordinary l.second.looks.changed)
      l.second.looks.other in record {
        part = part_ext (part_of new) (part_of old)
            (λ tag. holds_same l.between after l.second.same tag ∙ holds_same before l.between l.first.same tag)
            (λ k. as_won l.between after Ordinary 0 second k ∙ as_won before l.between Reserved 0 first k)
            (none_back l.between after Ordinary 0 second ∙ none_back before l.between Reserved 0 first)
            (ap (λ w. is_some (standing_in w)) counts.1) (second.round ∙ first.round);
        waiter = as_it_was old new counts;
        sets = λ before after. alone.lists (pool_of queue) bits count (in_pool old) (in_pool new) l after;
      }

  -- a call that changes nothing in the pool changes at most the wait group
  keeps : (stands : Bool) (moves : Waiter → Waiter → Type 0) → in_pool new ≡ in_pool old
      → is_some (standing_of new) ≡ stands → moves (waiter_of old) (waiter_of new)
      → Effect queue (standing stands) moves AsBefore old new
  keeps stands moves same is moved = record {
    part = part_standing old new stands same is;
    waiter = moved;
    sets = λ a b. ap (sets_in (pool_of queue)) same;
  }

  pub enter_does : (group : ℕ) → waits.Enters group old new
      → Effect queue (standing true) (Enters group) AsBefore old new
  enter_does group e = keeps true (Enters group) e.same.0 (ap is_some e.stands) record {
    within = let low = (group_waiter_of old).within in let is = e.group_is in omega arith;
    group_is = e.group_is;
    inside = e.stands;
    next = e.next;
    steps = (e.active, e.found, e.steps);
    book = ap book.steps_of e.same.1;
  }

  pub leave_does : (left : Left) → LeavesAs (group_waiter_of old) (group_waiter_of new) left → standing_of new ≡ None
      → wait_index_of (group_waiter_of new) ≡ wait_index_of (group_waiter_of old) → SameTags old new
      → Effect queue (standing false) (Leaves left) AsBefore old new
  leave_does left leaves out next same = keeps false (Leaves left) same.0 (ap is_some out) record {
    steps = leaves;
    outside = out;
    next = next;
    book = ap book.steps_of same.1;
  }

  -- loads of the counts change nothing but the caller's lists
  pub stay_does : (moves : Waiter → Waiter → Type 0) → in_pool new ≡ in_pool old → standing_of new ≡ standing_of old
      → moves (waiter_of old) (waiter_of new) → Effect queue as_before moves AsBefore old new
  stay_does moves same stands moved =
      let k = keeps (part_of old).stands moves same (ap is_some stands) moved in
      record { part = k.part; waiter = k.waiter; sets = k.sets }
