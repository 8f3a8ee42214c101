-- Histories: steps by the callers of a map, the newest first, each of which finds what the older ones leave.
use Rattle.std.specs.Prelude.{◌<◌, ◌∷◌, ◌≡◌}
use Rattle.tag_core.specs.Uses.{[], cond, Free, Layout, List, nat_eq, none, slice_index, Some, some, suc, tag_at, trailing_zeros, w64, zero, ℕ}
use mathlib.Core.Option as maybe
use Rattle.tag_model.specs.declared.event.Event.{Event}
use Rattle.tag_model.specs.declared.event.Event.TheVariants as event
use Rattle.tag_model.specs.World.{World}
use Rattle.tag_model.specs.Runs.{after_history, IsHistory}
use Rattle.tag_core.specs.declared.shape.Shape.{Shape}
use Rattle.tag_core.specs.declared.step.Step.{Step}
use Rattle.tag_core.specs.declared.step.Step.TheVariants.{Word, Post, Take, ReadNote, Bell}
use Rattle.tag_core.specs.declared.word_step.WordStep.{WordStep}
use Rattle.tag_core.specs.declared.word_step.WordStep.TheVariants.{Look, LookAside, Claimed, Give, Put, Swap, Keep, Spill}
use Rattle.tag_core.specs.Steps.{Words, changed_at, without, Finds, words_after}
use Rattle.tag_core.specs.declared.berth.Berth.TheVariants.{Up}
use Rattle.tag_core.specs.Bits.{state_word}
use Rattle.tag_core.specs.Waits.{FindsWaits, IsBy, Waits, waits_after}

-- the words, each tag's state: 1 is posted, the note with which each was posted last, and who waits
pub record Cells : Type 0 where
  pub words : Words
  pub state : ℕ → ℕ
  pub note : ℕ → ℕ
  pub waits : Waits

-- all of them as a map opens
abbrev pub blank : Cells
blank = record {
  words = record { word = λ i. 0; aside = λ i. 0 };
  state = λ tag. 0;
  note = λ tag. 0;
  waits = record { waiters = 0; clock = 0; berths = λ caller. Up };
}

-- the step found what stands there
abbrev pub FindsIn : {R : Type 0} → Step R → Cells → Type 0
FindsIn (Word step) c = Finds step c.words
FindsIn (Post tag note value) c = Unit {0}
FindsIn (Take tag found value) c = found ≡ c.state tag
FindsIn (ReadNote tag found) c = found ≡ state_word (c.state tag) (c.note tag)
FindsIn (Bell step) c = FindsWaits step c.waits

-- the cells after the step
abbrev pub cells_after : {R : Type 0} → Step R → Cells → Cells
cells_after (Word step) c = record c { words = words_after step c.words }
cells_after (Post tag note value) c =
    record c { state = changed_at c.state tag 1; note = changed_at c.note tag note }
cells_after (Take tag zero value) c = c
cells_after (Take tag (suc found) value) c = record c { state = changed_at c.state tag 0 }
cells_after (ReadNote tag found) c = c
cells_after (Bell step) c = record c { waits = waits_after step c.waits }

-- what the caller's step on a word changes of the world
abbrev pub event_of_word : Layout → ℕ → WordStep → Event
event_of_word l caller (Look i found) = event.Look
event_of_word l caller (LookAside i found) = event.Look
event_of_word l caller (Claimed i mask found) = event.Win caller i (without mask found)
event_of_word l caller (Give i mask found) = event.Give caller i mask
event_of_word l caller (Put i mask found) = event.Put caller (tag_at l i (trailing_zeros w64 mask))
event_of_word l caller (Swap i found) = event.Sweep caller i
event_of_word l caller (Keep i mask) = event.Keep caller i mask
event_of_word l caller (Spill i mask found) = event.Spill caller i

-- what the caller's step changes of the world
abbrev pub event_of : {R : Type 0} → Layout → ℕ → Step R → Event
event_of l caller (Word step) = event_of_word l caller step
event_of l caller (Post tag note value) = event.Post caller tag
event_of l caller (Take tag zero value) = event.Look
event_of l caller (Take tag (suc found) value) = event.Take caller tag
event_of l caller (ReadNote tag found) = event.Look
event_of l caller (Bell step) = event.Look

-- steps, each with the number of its caller, the newest first
abbrev pub History : Type 0 → Type 0
History R = List (ℕ × Step R)

-- the cells that a history leaves of blank ones
abbrev pub cells_of : {R : Type 0} → History R → Cells
cells_of [] = blank
cells_of (x ∷ older) = cells_after x.1 (cells_of older)

-- the events of a history
abbrev pub events_of : {R : Type 0} → Layout → History R → List Event
events_of l [] = []
events_of l (x ∷ older) = event_of l x.0 x.1 ∷ events_of l older

-- the world as a map opens: all tags free, and each caller has the counts that the shape tells
abbrev pub opening_world : Shape → World
opening_world k = record {
  place = λ tag. Free;
  won = λ caller. slice_index k.won_before.value caller;
  back = λ caller. slice_index k.back_before.value caller;
}

-- the world that a history leaves
abbrev pub world_of : {R : Type 0} → Shape → History R → World
world_of k h = after_history k.layout (events_of k.layout h) (opening_world k)

-- the value that the step posted for the tag, else the one before
abbrev pub posted_by : {R : Type 0} → ℕ → Step R → maybe.Option R → maybe.Option R
posted_by tag (Word step) before = before
posted_by tag (Post other note value) before = cond (nat_eq tag other) (some value) before
posted_by tag (Take other found value) before = before
posted_by tag (ReadNote other found) before = before
posted_by tag (Bell step) before = before

-- the value of the tag's last Post
abbrev pub last_post : {R : Type 0} → ℕ → History R → maybe.Option R
last_post tag [] = none
last_post tag (x ∷ older) = posted_by tag x.1 (last_post tag older)

-- a Take that won found the value of the tag's last Post
abbrev pub FindsPost : {R : Type 0} → Step R → History R → Type 0
FindsPost (Word step) older = Unit {0}
FindsPost (Post tag note value) older = Unit {0}
FindsPost (Take tag zero value) older = Unit {0}
FindsPost {R} (Take tag (suc found) value) older = (posted : R) × (value ≡ Some posted)
    × (last_post tag older ≡ some posted)
FindsPost (ReadNote tag found) older = Unit {0}
FindsPost (Bell step) older = Unit {0}

-- a caller's own steps
abbrev pub steps_by : {R : Type 0} → ℕ → History R → List (Step R)
steps_by caller [] = []
steps_by caller (x ∷ older) = cond (nat_eq x.0 caller) (x.1 ∷ steps_by caller older) (steps_by caller older)

-- each step is by a caller of the map that might make it, and found what the older ones left
abbrev pub EachFinds : {R : Type 0} → ℕ → History R → Type 0
EachFinds callers [] = Unit {0}
EachFinds callers (x ∷ older) = (x.0 < callers) × IsBy x.0 x.1 (steps_by x.0 older) × FindsIn x.1 (cells_of older)
    × FindsPost x.1 older × EachFinds callers older

-- each step found what the older ones left, and its event could happen in their world
pub record IsLawful {R : Type 0} (k : Shape) (h : History R) : Type 0 where
  pub finds : EachFinds k.callers h
  pub happens : IsHistory k.layout k.callers (opening_world k) (events_of k.layout h)
