-- A world as it is kept: places in the order of the tags, and counts in the order of the callers.
use Rattle.std.specs.Prelude.{◌≡◌, ℕ, ◌+◌, ◌<◌, ◌≤◌, List, IsTrue, length, slice_index, slice_index_or}
use Rattle.tag_layout.specs.Layout.{Layout}
use Rattle.tag_model.specs.declared.place.Place.{Place}
use Rattle.tag_model.specs.declared.place.Place.TheVariants.{Free}
use Rattle.tag_model.specs.declared.event.Event.{Event}
use Rattle.tag_model.specs.declared.event.EventFault.{EventFault}
use Rattle.tag_model.specs.declared.totals.Totals.{Totals}
use Rattle.tag_model.specs.declared.world.TheConstants.{MAX_CALLERS, MOST_WON}
use Rattle.tag_model.specs.Event.{caller_of, names, IsInLayout, Needs, won_by}
use Rattle.tag_model.specs.World.{World, place_after, after, MayHappen, IsFirstFault}
use Rattle.tag_model.specs.Runs.{after_all, MayRun, StopsAt}
use Rattle.tag_model.specs.Totals.{AreTotals, Balances}

-- a layout, a place for each tag, and two counts for each caller
pub record KeptWorld : Type 0 where
  pub layout : Layout
  pub places : List Place
  pub won : List ℕ
  pub back : List ℕ

-- how many callers there are
abbrev pub callers_of : KeptWorld → ℕ
callers_of kept = length kept.won

-- the world that is kept
abbrev pub world_of : KeptWorld → World
world_of kept = record {
  place = λ tag. slice_index_or kept.places tag Free;
  won = λ caller. slice_index kept.won caller;
  back = λ caller. slice_index kept.back caller;
}

-- the lists have an entry for each tag and each caller, and the totals balance
pub record IsSound (kept : KeptWorld) : Type 0 where
  pub tags : length kept.places ≡ kept.layout.depth
  pub some_caller : 1 ≤ callers_of kept
  pub few_callers : callers_of kept ≤ MAX_CALLERS
  pub both_counts : length kept.back ≡ callers_of kept
  pub unspent : (caller : ℕ) → caller < callers_of kept → slice_index kept.won caller ≤ MOST_WON
  pub balances : Balances kept.layout (callers_of kept) (world_of kept)

-- the layout and the number of callers stay
pub record SameSetup (old new : KeptWorld) : Type 0 where
  pub layout : new.layout ≡ old.layout
  pub callers : callers_of new ≡ callers_of old

-- the event can happen in the world that is kept
abbrev pub CanHappen : KeptWorld → Event → Type 0
CanHappen kept event = MayHappen kept.layout (callers_of kept) (world_of kept) event

-- the first cause for which it can't
abbrev pub HasFault : KeptWorld → Event → EventFault → Type 0
HasFault kept event fault = IsFirstFault kept.layout (callers_of kept) (world_of kept) event fault

-- nothing is wrong with the event but perhaps where its tags are
abbrev pub IsInRoom : KeptWorld → Event → Type 0
IsInRoom kept event =
    IsInLayout kept.layout event × (caller_of event < callers_of kept)
    × ((world_of kept).won (caller_of event) + won_by event ≤ MOST_WON)

-- each event can happen in turn
abbrev pub CanRun : KeptWorld → List Event → Type 0
CanRun kept events = MayRun kept.layout (callers_of kept) (world_of kept) events

-- the event at this index is the first that can't happen in turn, and this is the cause
abbrev pub Stops : KeptWorld → List Event → ℕ → EventFault → Type 0
Stops kept events index fault = StopsAt kept.layout (callers_of kept) (world_of kept) events index fault

-- these are the totals of the world that is kept
abbrev pub HasTotals : KeptWorld → Totals → Type 0
HasTotals kept totals = AreTotals kept.layout (callers_of kept) (world_of kept) totals

-- the event could happen, and this is what it left
pub record Happens (old : KeptWorld) (event : Event) (new : KeptWorld) : Type 0 where
  pub setup : SameSetup old new
  pub could : CanHappen old event
  pub world : world_of new ≡ after old.layout event (world_of old)

-- each of the events could happen in turn, and this is what they left
pub record Ran (old : KeptWorld) (events : List Event) (new : KeptWorld) : Type 0 where
  pub setup : SameSetup old new
  pub could : CanRun old events
  pub world : world_of new ≡ after_all old.layout events (world_of old)

-- each tag that the event names is where the event needs it
abbrev pub AreAccepted : Layout → Event → List Place → Type 0
AreAccepted l event places =
    (tag : ℕ) → tag < l.depth → IsTrue (names l event tag) → Needs event (slice_index_or places tag Free)

-- some tag that the event names isn't where the event needs it
abbrev pub MissesOne : Layout → Event → List Place → Type 0
MissesOne l event places =
    (tag : ℕ) × (tag < l.depth) × IsTrue (names l event tag) × ¬ (Needs event (slice_index_or places tag Free))

-- each tag is where the event brings it, or where it was
pub record MovesTags (l : Layout) (event : Event) (old new : List Place) : Type 0 where
  pub tags : length new ≡ length old
  pub moved : (tag : ℕ) → tag < l.depth
      → slice_index_or new tag Free ≡ place_after l event tag (slice_index_or old tag Free)
