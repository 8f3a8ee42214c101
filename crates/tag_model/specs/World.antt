-- Worlds, and one step of a world.
use Rattle.std.specs.Prelude.{◌≡◌, ℕ, ◌+◌, ◌<◌, ◌≤◌, ◌==◌, cond, IsTrue}
use Rattle.tag_layout.specs.Layout.{Layout}
use Rattle.tag_model.specs.declared.place.Place.{Place}
use Rattle.tag_model.specs.declared.place.Place.TheVariants.{Free}
use Rattle.tag_model.specs.declared.event.Event.{Event}
use Rattle.tag_model.specs.declared.event.Event.TheVariants.{Win, Keep, Take}
use Rattle.tag_model.specs.declared.event.EventFault.{EventFault}
use Rattle.tag_model.specs.declared.event.EventFault.TheVariants.{NoSuchTag, NoSuchCaller, Spent, NotFree, NotHeld, NotPosted, NotSwept}
use Rattle.tag_model.specs.declared.world.TheConstants.{MOST_WON}
use Rattle.tag_model.specs.Event.{caller_of, names, IsInLayout, Needs, brings, won_by, back_by}

-- where each tag is, and how many tags each caller has won and given back
pub record World : Type 0 where
  pub place : ℕ → Place
  pub won : ℕ → ℕ
  pub back : ℕ → ℕ

-- all tags are free, and nobody has won one
abbrev pub opened : World
opened = record { place = λ tag. Free; won = λ caller. 0; back = λ caller. 0 }

-- where the tag is after the event, if it was at this place before
abbrev pub place_after : Layout → Event → ℕ → Place → Place
place_after l event tag place = cond (names l event tag) (brings event place) place

-- n more at one number
abbrev pub plus_at : ℕ → ℕ → (ℕ → ℕ) → ℕ → ℕ
plus_at here n count caller = count caller + cond (caller == here) n 0

-- the world after the event
abbrev pub after : Layout → Event → World → World
after l event w = record {
  place = λ tag. place_after l event tag (w.place tag);
  won = plus_at (caller_of event) (won_by event) w.won;
  back = plus_at (caller_of event) (back_by event) w.back;
}

-- the event can happen in the world
pub record MayHappen (l : Layout) (callers : ℕ) (w : World) (event : Event) : Type 0 where
  pub in_layout : IsInLayout l event
  pub caller : caller_of event < callers
  pub unspent : w.won (caller_of event) + won_by event ≤ MOST_WON
  pub places : (tag : ℕ) → tag < l.depth → IsTrue (names l event tag) → Needs event (w.place tag)

-- some tag isn't where the event needs it
abbrev pub Misses : Layout → World → Event → Type 0
Misses l w event = (tag : ℕ) × (tag < l.depth) × IsTrue (names l event tag) × ¬ (Needs event (w.place tag))

-- what it is called that such a tag isn't there
abbrev pub missing_of : Event → EventFault
missing_of (Win caller word mask) = NotFree
missing_of (Take caller tag) = NotPosted
missing_of (Keep caller word mask) = NotSwept
missing_of _ = NotHeld

-- nothing is wrong with the event but where the tags are that it names
abbrev pub IsMisplaced : Layout → ℕ → World → Event → Type 0
IsMisplaced l callers w event =
    IsInLayout l event × (caller_of event < callers) × (w.won (caller_of event) + won_by event ≤ MOST_WON)
    × Misses l w event

-- the first cause, in their order, for which the event can't happen
abbrev pub IsFirstFault : Layout → ℕ → World → Event → EventFault → Type 0
IsFirstFault l callers w event NoSuchTag = ¬ (IsInLayout l event)
IsFirstFault l callers w event NoSuchCaller = IsInLayout l event × (callers ≤ caller_of event)
IsFirstFault l callers w event Spent = IsInLayout l event × (caller_of event < callers)
    × (MOST_WON < w.won (caller_of event) + won_by event)
IsFirstFault l callers w event NotFree = IsMisplaced l callers w event × (missing_of event ≡ NotFree)
IsFirstFault l callers w event NotHeld = IsMisplaced l callers w event × (missing_of event ≡ NotHeld)
IsFirstFault l callers w event NotPosted = IsMisplaced l callers w event × (missing_of event ≡ NotPosted)
IsFirstFault l callers w event NotSwept = IsMisplaced l callers w event × (missing_of event ≡ NotSwept)
