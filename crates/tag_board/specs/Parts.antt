-- The hands of a queue, as the callers of a board.
use Rattle.tag_board.specs.Uses.{Bool, false, is_some, Kind, kind_of, length, List, map, nat_eq, nat_lt, number_in_set, Ordinary, slice_index, slice_index_or, word_bits, ℕ}
use Rattle.std.specs.Prelude.{◌≡◌, ◌<◌, ◌&&◌}
use Rattle.tag_core.specs.declared.record.Record.{Record}
use Rattle.tag_core.specs.Callers.{record_of}
use Rattle.tag_core.specs.Records.{tag_bit}
use Rattle.tag_pool.specs.Gathering.{shape_of}
use Rattle.tag_pool.specs.Hands.{caller_of, hint_of, layout_of, least_of, reserved_of, split_of, total_of}
use Rattle.tag_pool.specs.Tallies.{back_in_both, won_of}
use Rattle.tag_pool.specs.declared.hand.Hand.{Hand}
use Rattle.tag_pool.specs.declared.pool.Pool.{Pool}
use Rattle.wake_book.specs.Groups.{wait_index_of}
use Rattle.tag_queue.specs.Hands.{book_steps, cap_of, group_steps, in_pool, number_of, pool_of, standing_of, waiter_of as group_waiter_of}
use Rattle.tag_queue.specs.declared.hand.QueueHand.{QueueHand}
use Rattle.tag_queue.specs.declared.queue.Queue.{Queue}
use Rattle.tag_board.specs.AloneSets.{AloneSets, set_left, untouched}
use Rattle.tag_board.specs.States.{Terms, Part, Waiter, State, idle, newcomer}

-- the record of the hand's caller on the map of a set
abbrev pub record_in : {R : Type 0} → Hand R → Kind → Record R
record_in hand kind = record_of (caller_of hand kind)

-- a record's masks have the bit of this tag
abbrev pub has : {R : Type 0} → Record R → ℕ → Bool
has r number = nat_lt number r.shape.layout.depth && nat_eq (tag_bit r.shape.layout r.held number) 1

-- whether the hand holds the tag
abbrev pub holds : {R : Type 0} → Hand R → ℕ → Bool
holds hand tag = has (record_in hand (kind_of (split_of hand) tag)) (number_in_set (split_of hand) tag)

-- the hand as a caller of a board
abbrev pub part_of : {R : Type 0} → QueueHand R → Part
part_of hand = record {
  held = holds (in_pool hand);
  won = λ kind. won_of (in_pool hand) kind;
  back = back_in_both (in_pool hand);
  stands = is_some (standing_of hand);
  round_robin = (hint_of (in_pool hand) Ordinary).round_robin;
}

-- the terms of this queue with this many hands
abbrev pub terms_of : {R : Type 0} → Queue R → ℕ → Terms
terms_of queue callers = record {
  reserved = reserved_of (pool_of queue);
  callers = callers;
  life = λ kind. (shape_of (pool_of queue) kind).life;
  cap = cap_of queue;
  least = least_of (pool_of queue);
  bits = λ kind. word_bits (layout_of (pool_of queue) kind);
}

-- the hand at each index has that number
abbrev pub AreOrdered : {R : Type 0} → List (QueueHand R) → Type 0
AreOrdered hands = (n : ℕ) → n < length hands → slice_index (map number_of hands) n ≡ n

-- the hand as it waits and wakes others
abbrev pub waiter_of : {R : Type 0} → QueueHand R → Waiter
waiter_of hand = record {
  book = book_steps hand;
  groups = group_steps hand;
  group = standing_of hand;
  next = wait_index_of (group_waiter_of hand);
}

-- both sets of a pool, as the hand's own steps leave them
abbrev pub sets_in : Pool ℕ → Hand ℕ → AloneSets
sets_in pool hand = λ kind. set_left (layout_of pool kind) (record_in hand kind).steps (hint_of hand kind)

-- both sets of the queue's pool
abbrev pub sets_of : Queue ℕ → QueueHand ℕ → AloneSets
sets_of queue hand = sets_in (pool_of queue) (in_pool hand)

-- the sets of a board without callers
abbrev pub no_sets : AloneSets
no_sets kind = untouched (record { depth = 0; shift = 0 }) false

-- the state of this queue and these hands: caller n is the hand at index n
abbrev pub state_of_all : Queue ℕ → List (QueueHand ℕ) → State
state_of_all queue hands = record {
  terms = terms_of queue (length hands);
  total = total_of (pool_of queue);
  part = λ caller. slice_index_or (map part_of hands) caller (idle false);
  waiter = λ caller. slice_index_or (map waiter_of hands) caller newcomer;
  alone = slice_index_or (map (sets_of queue) hands) 0 no_sets;
}
