-- A new queue, and its hands.
use Rattle.std.specs.Prelude.{◌≡◌, ◌≤◌}
use Rattle.tag_queue.specs.Uses.{[], All, get_elem?, Hand, length, List, Ordinary, Pool, some, ℕ}
use Rattle.tag_layout.specs.Layout.{wake_batch}
use Rattle.tag_core.specs.Callers.{record_of}
use Rattle.tag_pool.specs.Hands as pool
use Rattle.tag_pool.specs.Opening as pool_opening
use Rattle.tag_pool.specs.declared.kind.Kind.{Kind}
use Rattle.tag_pool.specs.declared.options.Options.{Options}
use Rattle.wake_book.specs.Book.{IsOpenBook}
use Rattle.wake_book.specs.Groups.{AreOpenGroups}
use Rattle.tag_queue.specs.declared.hand.QueueHand.{QueueHand}
use Rattle.tag_queue.specs.declared.queue.Queue.{Queue}
use Rattle.tag_queue.specs.Hands.{all_in_pool, IsHandOf, in_pool, min_shallow_of, number_of, pool_of, tellers_of, waiters_of}

-- the book and the groups are new, as the options and the cap say, and the hands are theirs
pub record HasCounts {R : Type 0} (options : Options) (cap : ℕ) (queue : Queue R) (hands : List (QueueHand R)) : Type 0
  where
    pub book : IsOpenBook (wake_batch (pool.layout_of (pool_of queue) Ordinary) options.min_shallow) options.hands cap
        queue.book (tellers_of hands)
    pub groups : AreOpenGroups options.hands queue.groups (waiters_of hands)
    pub min_shallow : min_shallow_of queue ≡ options.min_shallow
    pub own : All (IsHandOf queue) hands

-- the pool is as the options say, and so are the book and the groups; the hands are in the order of their numbers, hold
-- no tag, have made no step, and start as given
pub record IsOpenWith {R : Type 0} (HasStart : Options → Pool R → Hand R → Type 0) (options : Options) (cap : ℕ)
    (queue : Queue R) (hands : List (QueueHand R)) : Type 0 where
  pub pool : pool_opening.IsOpenWith HasStart options (pool_of queue) (all_in_pool hands)
  pub counts : HasCounts options cap queue hands
  pub none_held : All (λ hand. pool_opening.HoldsNone (in_pool hand)) hands
  pub count : length hands ≡ options.hands
  pub ordered : (n : ℕ) (hand : QueueHand R) → get_elem? hands n ≡ some hand → number_of hand ≡ n

-- the queue and its hands are new, and every hint is at the first tag of its set
abbrev pub IsOpen : {R : Type 0} → Options → ℕ → Queue R → List (QueueHand R) → Type 0
IsOpen options cap queue hands = IsOpenWith pool_opening.HasFirstHints options cap queue hands

-- the queue and its hands are new, and every hint is at the first tag of its hand's own part of the set
abbrev pub IsOpenPlaced : {R : Type 0} → Options → ℕ → Queue R → List (QueueHand R) → Type 0
IsOpenPlaced options cap queue hands = IsOpenWith pool_opening.HasPlacedHints options cap queue hands

-- the hand has made no step
abbrev pub IsFresh : {R : Type 0} → Hand R → Type 0
IsFresh hand = (kind : Kind) → (record_of (pool.caller_of hand kind)).steps ≡ []

-- what the hands of a new pool have in common, wherever they start
pub record AreFresh {R : Type 0} (options : Options) (new : Pool R) (hands : List (Hand R)) : Type 0 where
  pub few : (1 ≤ options.hands) × (options.hands ≤ 64)
  pub hands_are : pool.hands_of new ≡ options.hands
  pub count : length hands ≡ options.hands
  pub own : All (pool.IsHandOf new) hands
  pub fresh : All IsFresh hands
  pub ordered : (n : ℕ) (hand : Hand R) → get_elem? hands n ≡ some hand → pool.number_of hand ≡ n
