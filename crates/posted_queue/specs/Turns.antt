-- What the rule of the line says of the numbers that hands pushed and popped: first come, first served, and each once.
use Rattle.std.specs.Prelude.{◌<◌, ◌≡◌, ◌≤◌, List, ℕ}
use Rattle.posted_queue.specs.declared.line.Track.{Track}
use Rattle.posted_queue.specs.Line.{AreInTurn, times_popped, times_pushed}

-- no number is popped twice from one place, nor from a place at which it was not pushed; and when one is popped, so is each
-- that was pushed at a place before it
pub record AreServed (tracks : List Track) : Type 0 where
  pub once : (place number : ℕ) → times_pushed tracks place number ≤ 1
  pub pushed : (place number : ℕ) → times_popped tracks place number ≤ times_pushed tracks place number
  pub in_turn : (place number earlier other : ℕ) → 1 ≤ times_popped tracks place number → earlier < place
      → times_popped tracks earlier other ≡ times_pushed tracks earlier other

-- at every moment, whatever hands did
abbrev pub FirstComeFirstServed : Type 0
FirstComeFirstServed = (waiting : List ℕ) (tracks : List Track) → AreInTurn waiting tracks → AreServed tracks
