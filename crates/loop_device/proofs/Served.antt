-- One more number served, or one more look at the queue that found none.
use Rattle.loop_device.proofs.Uses.{[], after_pop, Completes, Ends, Err, Faults, IfOk, Io, IsRequestFault, List, noted, Ok, PlayFault, Queue, QueueHand, refl, Result, Serves, ServesPopped, State, subst, sym, Worker, ℕ}
use Rattle.std.proofs.Common.{◌≡◌, ◌∷◌, ◌++◌, IfErr}
use Rattle.loop_device.proofs.Turns.{one_more}

-- what a thread has at a turn
abbrev pub state : QueueHand ℕ → Worker → Faults → State
state hand view faults = record { hand = hand; view = view; faults = faults }

-- what `complete` says of its tag, whether it is `Ok` or not
pub ended : (tags : Queue ℕ) (ios : List Io) (tag : ℕ) (old new : QueueHand ℕ) (r : Result ℕ PlayFault)
    → IfOk r (λ line. Completes tags tag line old new) → IfErr r (λ fault. IsRequestFault tags ios tag fault old new)
    → Ends tags ios tag r old new
ended tags ios tag old new (Ok line) ok err = ok
ended tags ios tag old new (Err fault) ok err = err

module _ (tags : Queue ℕ) (ios : List Io) (first : State) where
  -- nothing is popped and nothing done
  pub none_popped : ServesPopped tags ios first first
  none_popped = ([], refl)

  -- a pop that found none changes nothing
  pub still : (hand : QueueHand ℕ) (old new : Worker) (faults : Faults) → new ≡ old
      → ServesPopped tags ios first (state hand old faults) → ServesPopped tags ios first (state hand new faults)
  still hand old new faults same done =
      subst (λ (view : Worker). ServesPopped tags ios first (state hand view faults)) (sym same) done

  -- one more number is popped and served
  pub serves_more : (hand last : QueueHand ℕ) (old new : Worker) (faults more : Faults) (tag : ℕ) (r : Result ℕ PlayFault)
      → new ≡ after_pop old tag → Ends tags ios tag r hand last → more ≡ noted faults r
      → ServesPopped tags ios first (state hand old faults) → ServesPopped tags ios first (state last new more)
  serves_more hand last old new faults more tag r popped ends notes done = (
    done.0 ++ tag ∷ [],
    one_more (Serves tags ios) done.0 tag first (state hand old faults) (state last new more) done.1
        record { done = r; pops = popped; ends = ends; notes = notes },
  )
