-- Runs: lists of events that happen one after another.
use Rattle.std.specs.Prelude.{◌≡◌, ℕ, List, [], ◌∷◌, ◌++◌, length}
use Rattle.tag_layout.specs.Layout.{Layout}
use Rattle.tag_model.specs.declared.event.Event.{Event}
use Rattle.tag_model.specs.declared.event.EventFault.{EventFault}
use Rattle.tag_model.specs.World.{World, after, MayHappen, IsFirstFault}

-- the world after the events, the first of which comes first
abbrev pub after_all : Layout → List Event → World → World
after_all l [] w = w
after_all l (event ∷ events) w = after_all l events (after l event w)

-- each event can happen in the world that those before it leave
abbrev pub MayRun : Layout → ℕ → World → List Event → Type 0
MayRun l callers w [] = Unit {0}
MayRun l callers w (event ∷ events) = MayHappen l callers w event × MayRun l callers (after l event w) events

-- the event at this index is the first that can't happen, and this is the cause
pub record StopsAt (l : Layout) (callers : ℕ) (w : World) (events : List Event) (index : ℕ)
    (fault : EventFault) : Type 0 where
  pub before : List Event
  pub event : Event
  pub rest : List Event
  pub parts : events ≡ before ++ event ∷ rest
  pub index_is : index ≡ length before
  pub may_run : MayRun l callers w before
  pub fault_is : IsFirstFault l callers (after_all l before w) event fault

-- the world after a history, a list of events in which the newest comes first
abbrev pub after_history : Layout → List Event → World → World
after_history l [] w = w
after_history l (event ∷ older) w = after l event (after_history l older w)

-- each event of a history could happen in the world that the older ones left
abbrev pub IsHistory : Layout → ℕ → World → List Event → Type 0
IsHistory l callers w [] = Unit {0}
IsHistory l callers w (event ∷ older) = MayHappen l callers (after_history l older w) event
    × IsHistory l callers w older
