-- Laws over all worlds and all lists of events.
use Rattle.std.specs.Prelude.{◌≡◌, ◌≢◌, ◌↔◌, ℕ, ◌+◌, ◌<◌, List, ◌++◌, length}
use Rattle.tag_layout.specs.Layout.{Layout}
use Rattle.tag_model.specs.declared.place.Place.TheVariants.{Held}
use Rattle.tag_model.specs.declared.event.Event.{Event}
use Rattle.tag_model.specs.declared.event.EventFault.{EventFault}
use Rattle.tag_model.specs.Event.{caller_of}
use Rattle.tag_model.specs.World.{World, opened, after, MayHappen}
use Rattle.tag_model.specs.Runs.{after_all, MayRun, StopsAt}
use Rattle.tag_model.specs.Totals.{Balances}

-- after every run from an opened world each tag won was given back, is held or is posted
abbrev pub RunsBalance : Type 0
RunsBalance = (l : Layout) (callers : ℕ) (events : List Event) → MayRun l callers opened events
    → Balances l callers (after_all l events opened)

-- a run of two lists is a run of the second from where the first leads, faults included
pub record RunsJoin (l : Layout) (callers : ℕ) (w : World) (first second : List Event) : Type 0 where
  pub world : after_all l (first ++ second) w ≡ after_all l second (after_all l first w)
  pub may_run : MayRun l callers w (first ++ second) ↔ (MayRun l callers w first
      × MayRun l callers (after_all l first w) second)
  pub stops_in_first : (place : ℕ) (fault : EventFault) → StopsAt l callers w first place fault
      → StopsAt l callers w (first ++ second) place fault
  pub stops_in_second :
      (place : ℕ) (fault : EventFault) → MayRun l callers w first
      → StopsAt l callers (after_all l first w) second place fault
      → StopsAt l callers w (first ++ second) (length first + place) fault

-- no event by one caller moves a tag that another holds
abbrev pub HeldTagsStay : Type 0
HeldTagsStay =
    (l : Layout) (callers : ℕ) (w : World) (event : Event) (tag other : ℕ) → MayHappen l callers w event → tag < l.depth
    → other ≢ caller_of event → w.place tag ≡ Held other → (after l event w).place tag ≡ Held other
