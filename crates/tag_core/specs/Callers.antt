-- What contracts see of a map and of its callers.
use Rattle.std.specs.Prelude.{◌<◌, ◌≡◌}
use Rattle.tag_core.specs.Uses.{get_elem?, Layout, length, List, none, replicate, some, words, ℕ}
use mathlib.Core.Option as maybe
use Rattle.tag_core.specs.declared.step.Step.{Step}
use Rattle.tag_core.specs.declared.record.Record.{Record}
use Rattle.tag_core.specs.declared.caller.Caller.{Caller}
use Rattle.tag_core.specs.declared.map.Map.{Map}
use Rattle.tag_core.specs.Waits.{IsIn, waits_as}
use Rattle.tag_core.specs.Records.{record_after, tag_bit, value_of}
use Rattle.tag_core.specs.Views.{steps_of}

-- the layout of a map
abbrev pub layout_of : {R : Type 0} → Map R → Layout
layout_of map = map.shape.layout

-- the caller is one of the map's own
abbrev pub IsCallerOf : {R : Type 0} → Map R → Caller R → Type 0
IsCallerOf map caller = (caller.seat.table_id ≡ map.table.shared.table_id) × (caller.shape.value ≡ map.shape)

-- what is known of a caller between its calls, when it has nothing in a sweep
abbrev pub record_of : {R : Type 0} → Caller R → Record R
record_of caller = record {
  shape = caller.shape.value;
  number = caller.number;
  held = caller.held.items;
  swept = replicate (words caller.shape.value.layout) 0;
  won = caller.won;
  back = caller.back;
  steps = steps_of caller.seat.me.0;
}

-- the caller holds the tag
abbrev pub Holds : {R : Type 0} → Caller R → ℕ → Type 0
Holds caller tag = (tag < caller.shape.value.layout.depth)
    × (tag_bit caller.shape.value.layout caller.held.items tag ≡ 1)

-- no two of the callers have one number
abbrev pub HaveOwnNumbers : {R : Type 0} → List (Caller R) → Type 0
HaveOwnNumbers {R} callers =
    (i j : ℕ) (a b : Caller R) → get_elem? callers i ≡ some a → get_elem? callers j ≡ some b
    → a.number ≡ b.number → i ≡ j

-- the value of the slot of a tag that the caller holds
abbrev pub slot_of : {R : Type 0} → Caller R → ℕ → maybe.Option R
slot_of caller tag = value_of caller.seat.me.1 tag

-- by its own steps the caller is among all who wait
abbrev pub IsAmongWaiters : {R : Type 0} → Caller R → Type 0
IsAmongWaiters caller = IsIn (record_of caller).steps

-- by its own steps it does not wait
abbrev pub HasGotUp : {R : Type 0} → Caller R → Type 0
HasGotUp caller = waits_as (record_of caller).steps ≡ none

-- the caller belongs to the same map as before
abbrev pub SameMap : {R : Type 0} → Caller R → Caller R → Type 0
SameMap old new = new.seat.table_id ≡ old.seat.table_id

-- the caller is as it was: its record, the slots of its tags, and its map
pub record IsUnchanged {R : Type 0} (old new : Caller R) : Type 0 where
  pub known : record_of new ≡ record_of old
  pub slots : (tag : ℕ) → slot_of new tag ≡ slot_of old tag
  pub same_map : SameMap old new

-- one by one, in the same order, each caller is as it was
pub record AreUnchanged {R : Type 0} (old new : List (Caller R)) : Type 0 where
  pub count : length new ≡ length old
  pub each : (n : ℕ) (a b : Caller R) → get_elem? old n ≡ some a → get_elem? new n ≡ some b → IsUnchanged a b

-- the step joins the caller's own list, and its event changes the caller's record; the slots of tags that it keeps stay
pub record Adds {R : Type 0} (step : Step R) (old new : Caller R) : Type 0 where
  pub known : record_of new ≡ record_after step (record_of old)
  pub slots : (tag : ℕ) → Holds old tag → Holds new tag → slot_of new tag ≡ slot_of old tag
  pub same_map : SameMap old new

-- two steps join the list, one after the other
pub record AddsTwo {R : Type 0} (first second : Step R) (old new : Caller R) : Type 0 where
  pub known : record_of new ≡ record_after second (record_after first (record_of old))
  pub slots : (tag : ℕ) → Holds old tag → Holds new tag → slot_of new tag ≡ slot_of old tag
  pub same_map : SameMap old new

-- three steps join the list, one after the other
pub record AddsThree {R : Type 0} (first second third : Step R) (old new : Caller R) : Type 0 where
  pub known : record_of new ≡ record_after third (record_after second (record_after first (record_of old)))
  pub slots : (tag : ℕ) → Holds old tag → Holds new tag → slot_of new tag ≡ slot_of old tag
  pub same_map : SameMap old new
