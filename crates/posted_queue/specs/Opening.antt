-- A new queue, and its hands.
use Rattle.std.specs.Prelude.{◌≡◌, ◌≤◌, [], All, false, List, None, length, max, ⊤, ℕ}
use mathlib.Core.Option.{some}
use lib.ListN.{get_elem?}
use Rattle.tag_model.specs.declared.world.TheConstants.{MOST_WON}
use Rattle.tag_bell.specs.declared.sleeping.Woken.{Woken}
use Rattle.tag_pool.specs.Hands.{total_of}
use Rattle.tag_pool.specs.declared.hand.Hand.{Hand}
use Rattle.tag_pool.specs.declared.options.Options.{Options}
use Rattle.posted_queue.specs.declared.queue.PostedHand.{PostedHand}
use Rattle.posted_queue.specs.declared.queue.PostedQueue.{PostedQueue}
use Rattle.posted_queue.specs.Assigned.{assigning}
use Rattle.posted_queue.specs.Hands.{assigning_of, hands_of, in_tokens, IsOwnOf, number_of, room_of, tokens_of, track_of}
use Rattle.posted_queue.specs.Line.{track}
use Rattle.posted_queue.specs.Serving.{Searches}

-- the options of the tokens for a pool with these options: all are ordinary, and a hand may win 2^48
abbrev pub options_of_tokens : Options → Options
options_of_tokens options = record options {
  reserved = 0;
  round_robin = false;
  min_shallow = None;
  life = max options.life MOST_WON;
}

-- the hand's last search found no token free
abbrev pub HasSearched : PostedQueue → Hand ⊤ → Type 0
HasSearched queue hand = (before : Hand ⊤) × (woken : Woken) × Searches queue None woken before hand

-- the hand belongs to the queue; it searched for free tokens until it found none, has pushed and popped no number, and has
-- looked up and assigned no token
pub record IsNewHand (queue : PostedQueue) (hand : PostedHand) : Type 0 where
  pub own : IsOwnOf queue hand
  pub searched : HasSearched queue (in_tokens hand)
  pub track : track_of hand ≡ track [] []
  pub assigning : assigning_of hand ≡ assigning [] []

-- the queue has a token for each tag, and room for all in its line; its hands are new, in the order of their numbers
pub record IsOpen (options : Options) (queue : PostedQueue) (hands : List PostedHand) : Type 0 where
  pub tokens : total_of (tokens_of queue) ≡ options.depth
  pub room : options.depth ≤ room_of queue
  pub count : (length hands ≡ options.hands) × (hands_of queue ≡ options.hands)
  pub ordered : (n : ℕ) (own : PostedHand) → get_elem? hands n ≡ some own → number_of own ≡ n
  pub new : All (IsNewHand queue) hands
