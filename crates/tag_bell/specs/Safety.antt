-- Who is asleep, who is on the way, and the law: nobody sleeps beside a free tag unless somebody is on the way to it.
use Rattle.std.specs.Prelude.{◌<◌, ◌≡◌, ◌⊎◌}
use Rattle.tag_bell.specs.Uses.{Berth, bit_at, Bool, cells_of, History, IsLawful, IsListed, IsTold, Layout, Shape, steps_by, Waiter, Words, ℕ}
use mathlib.Core.Option.{some}
use lib.ListN.{get_elem?}
use Rattle.atomic_table.specs.Table.{State}
use Rattle.tag_model.specs.declared.place.Place.TheVariants.{Free, Aside}
use Rattle.tag_core.specs.declared.record.Record.{Record}
use Rattle.tag_core.specs.Histories.{world_of}
use Rattle.tag_core.specs.Views.{View}
use Rattle.tag_core.specs.Rule.{HasCells, Shown}
use Rattle.tag_bell.specs.declared.spot.Spot.{Spot}
use Rattle.tag_bell.specs.declared.spot.Spot.TheVariants.{InWord, InAside}
use Rattle.tag_bell.specs.Waiting.{in_aside, in_word, OwesNothing, OwesTag, TriedAll, TriedTag}

-- the caller's berth after this history
abbrev pub berth_after : {R : Type 0} → History R → ℕ → Berth
berth_after h caller = (cells_of h).waits.berths caller

-- the caller waits, nobody has told it, it has tried each tag in vain since it listed itself, and has nothing to see to
pub record IsAsleep {R : Type 0} (l : Layout) (kinds : Waiter → Bool) (h : History R) (caller : ℕ) : Type 0 where
  pub listed : IsListed kinds (berth_after h caller)
  pub in_vain : TriedAll l (steps_by caller h)
  pub done : OwesNothing l kinds (steps_by caller h)

-- a tag is free at this spot of the words
abbrev pub IsOpen : Words → Spot → Type 0
IsOpen w (InWord word bit) = bit_at (w.word word) bit ≡ 0
IsOpen w (InAside word bit) = bit_at (w.aside word) bit ≡ 1

-- the same after this history
abbrev pub IsFreeAt : {R : Type 0} → History R → Spot → Type 0
IsFreeAt h spot = IsOpen (cells_of h).words spot

-- the tag is free: its bit in the word is 0, or that in the cleared set is 1
abbrev pub IsFree : {R : Type 0} → Layout → History R → ℕ → Type 0
IsFree l h tag = IsFreeAt h (in_word l tag) ⊎ IsFreeAt h (in_aside l tag)

-- the caller has to see to the tag for the sake of e, or was told and has not got up yet
abbrev pub IsOnTheWay : {R : Type 0} → Layout → (Waiter → Bool) → History R → ℕ → ℕ → ℕ → Type 0
IsOnTheWay l kinds h caller tag e =
    OwesTag l kinds (steps_by caller h) tag e ⊎ IsTold kinds (berth_after h caller)

-- some caller is on the way to the tag for its sake
abbrev pub SomebodyComes : {R : Type 0} → Shape → (Waiter → Bool) → History R → ℕ → ℕ → Type 0
SomebodyComes k kinds h tag e = (caller : ℕ) × (caller < k.callers) × IsOnTheWay k.layout kinds h caller tag e

-- some caller that is not asleep is
abbrev pub SomebodyAwakeComes : {R : Type 0} → Shape → (Waiter → Bool) → History R → ℕ → ℕ → Type 0
SomebodyAwakeComes k kinds h tag e = (caller : ℕ) × (caller < k.callers) × IsOnTheWay k.layout kinds h caller tag e
    × ¬ IsAsleep k.layout kinds h caller

-- if somebody is asleep and a tag is free, some other caller, which is not asleep, is on the way to that tag for its sake
abbrev pub NobodyForgotten : {R : Type 0} → Shape → (Waiter → Bool) → History R → Type 0
NobodyForgotten k kinds h =
    (sleeper : ℕ) → IsAsleep k.layout kinds h sleeper
    → (tag : ℕ) → tag < k.layout.depth → IsFree k.layout h tag → SomebodyAwakeComes k kinds h tag sleeper

-- the same of each tag alone: a caller that is listed may have tried only this one
abbrev pub NoTagForgotten : {R : Type 0} → Shape → (Waiter → Bool) → History R → Type 0
NoTagForgotten k kinds h =
    (caller : ℕ) → IsListed kinds (berth_after h caller)
    → (tag : ℕ) → tag < k.layout.depth → TriedTag k.layout (steps_by caller h) tag
    → IsFree k.layout h tag → SomebodyComes k kinds h tag caller

-- the caller has nothing to see to, and is not told
abbrev pub IsAtRest : {R : Type 0} → Layout → (Waiter → Bool) → History R → ℕ → Type 0
IsAtRest l kinds h caller = OwesNothing l kinds (steps_by caller h) × ¬ IsTold kinds (berth_after h caller)

-- if every caller is at rest and somebody is asleep, no tag is free
abbrev pub NoneFreeAtRest : {R : Type 0} → Shape → (Waiter → Bool) → History R → Type 0
NoneFreeAtRest k kinds h =
    ((caller : ℕ) → caller < k.callers → IsAtRest k.layout kinds h caller)
    → (sleeper : ℕ) → IsAsleep k.layout kinds h sleeper
    → (tag : ℕ) → tag < k.layout.depth → ¬ IsFree k.layout h tag

-- each of the three after every lawful history, so between any two steps of any schedule, and for any kinds of waiter
abbrev pub NobodyIsForgotten : Type 0 → Type 0
NobodyIsForgotten R = (k : Shape) (h : History R) → IsLawful k h → (kinds : Waiter → Bool) → NobodyForgotten k kinds h

abbrev pub NoTagIsForgotten : Type 0 → Type 0
NoTagIsForgotten R = (k : Shape) (h : History R) → IsLawful k h → (kinds : Waiter → Bool) → NoTagForgotten k kinds h

abbrev pub NobodyRestsBesideATag : Type 0 → Type 0
NobodyRestsBesideATag R = (k : Shape) (h : History R) → IsLawful k h → (kinds : Waiter → Bool) → NoneFreeAtRest k kinds h

-- one lawful history leaves this state's words and contains each caller's steps; after it nobody is forgotten, and each
-- tag whose place in its world is Free or Aside is free in the sense above
pub record IsSafe {R : Type 0} (k : Shape) (s : State R (View R)) : Type 0 where
  pub history : History R
  pub lawful : IsLawful k history
  pub cells : HasCells k s.words (cells_of history)
  pub own :
      (j : ℕ) (v : View R) → get_elem? s.views j ≡ some v → (n : ℕ) (r : Record R)
      → get_elem? v.records.value n ≡ some r → r.steps ≡ steps_by r.number history
  pub free : (tag : ℕ) → tag < k.layout.depth → (world_of k history).place tag ≡ Free → IsFree k.layout history tag
  pub aside : (tag : ℕ) → tag < k.layout.depth → (world_of k history).place tag ≡ Aside → IsFree k.layout history tag
  pub callers : (kinds : Waiter → Bool) → NobodyForgotten k kinds history
  pub tags : (kinds : Waiter → Bool) → NoTagForgotten k kinds history
  pub at_rest : (kinds : Waiter → Bool) → NoneFreeAtRest k kinds history

-- every state of the table that keeps its rule is safe
abbrev pub EachStateIsSafe : Type 0 → Type 0
EachStateIsSafe R = (k : Shape) (s : State R (View R)) → Shown k s → IsSafe k s
